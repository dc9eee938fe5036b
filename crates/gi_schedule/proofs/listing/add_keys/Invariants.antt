use Rattle.std.proofs.Common.{◌≡◌, ◌++◌, take}
use Rattle.gi_desk.specs.Queries.{confirmed}
use Rattle.gi_schedule.specs.Lines.{keys_lines}
use Rattle.gi_schedule.proofs.listing.add_keys.Given as goal

abbrev pub invariant-loop-key : goal.invariant-loop-key
invariant-loop-key g l = l.lines.items ≡ l.fn.lines.items ++ keys_lines (confirmed g.R.Role.SIDE l.desk) l.day (take l.key-index l.keys) l.hours
