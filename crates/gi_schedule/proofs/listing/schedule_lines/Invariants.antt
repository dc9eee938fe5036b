use Rattle.std.proofs.Common.{◌≡◌, take}
use Rattle.gi_desk.specs.Queries.{confirmed}
use Rattle.gi_schedule.specs.Lines.{schedules}
use Rattle.gi_schedule.proofs.listing.schedule_lines.Given as goal

abbrev pub invariant-loop-id : goal.invariant-loop-id
invariant-loop-id g l = l.lines.items ≡ schedules (confirmed g.R.Role.SIDE l.desk) l.wanted (take l.id-index l.id-items)
