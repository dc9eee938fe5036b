use Rattle.std.proofs.Common.{◌≡◌}
use Rattle.gi_desk.specs.Queries.{confirmed}
use Rattle.gi_schedule.specs.InForce.{is_covered, last_below}
use Rattle.gi_schedule.proofs.in_force.last_before.Given as goal

abbrev pub invariant-loop-cycle : goal.invariant-loop-cycle
invariant-loop-cycle g l = l.found ≡ last_below (is_covered (confirmed g.R.Role.SIDE l.desk) l.day l.hour) l.cycle
