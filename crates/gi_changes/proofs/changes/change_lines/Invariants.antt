use Rattle.std.proofs.Common.{◌≡◌, take}
use Rattle.gi_desk.specs.Queries.{confirmed}
use Rattle.gi_changes.specs.Changes.{all_changes}
use Rattle.gi_changes.proofs.changes.change_lines.Given as goal

abbrev pub invariant-loop-id : goal.invariant-loop-id
invariant-loop-id g l = l.lines.items ≡ all_changes (confirmed g.R.Role.SIDE l.desk) l.wanted (take l.id-index l.id-items)
