use Rattle.std.proofs.Common.{◌≡◌, ◌++◌, take}
use Rattle.gi_desk.specs.Queries.{confirmed}
use Rattle.gi_changes.specs.Changes.{keys_changes}
use Rattle.gi_changes.proofs.changes.add_keys.Given as goal

abbrev pub invariant-loop-key : goal.invariant-loop-key
invariant-loop-key g l = l.lines.items ≡ l.fn.lines.items ++ keys_changes (confirmed g.R.Role.SIDE l.desk) l.id (take l.key-index l.keys) l.table
