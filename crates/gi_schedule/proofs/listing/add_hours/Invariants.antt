use Rattle.std.proofs.Common.{◌≡◌, ◌++◌, take}
use Rattle.gi_desk.specs.Queries.{confirmed}
use Rattle.gi_schedule.specs.Lines.{hour_totals}
use Rattle.gi_schedule.proofs.listing.add_hours.Given as goal

abbrev pub invariant-loop-at : goal.invariant-loop-at
invariant-loop-at g l = l.lines.items ≡ l.fn.lines.items ++ hour_totals (confirmed g.R.Role.SIDE l.desk) l.day l.keys (take l.at-index l.hours)
