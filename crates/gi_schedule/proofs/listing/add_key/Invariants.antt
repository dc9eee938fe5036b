use Rattle.std.proofs.Common.{◌≡◌, ◌++◌, take}
use Rattle.gi_desk.specs.Queries.{confirmed}
use Rattle.gi_schedule.specs.Lines.{key_lines}
use Rattle.gi_schedule.proofs.listing.add_key.Given as goal

abbrev pub invariant-loop-at : goal.invariant-loop-at
invariant-loop-at g l = l.lines.items ≡ l.fn.lines.items ++ key_lines (confirmed g.R.Role.SIDE l.desk) l.day (take l.at-index l.hours) l.key
