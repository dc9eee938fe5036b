use Rattle.std.proofs.Common.{◌≡◌, ◌-◌}
use Rattle.gi_pairs.specs.Limits.{last_hour}
use Rattle.gi_audit.specs.Place.{differing_from}
use Rattle.gi_audit.proofs.place.differing_hour.Given as goal

abbrev pub invariant-loop-hour : goal.invariant-loop-hour
invariant-loop-hour l = differing_from l.met l.written l.key (26 - l.hour) l.hour ≡ differing_from l.met l.written l.key last_hour 1
