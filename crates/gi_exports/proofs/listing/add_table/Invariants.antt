use Rattle.std.proofs.Common.{◌≡◌, ◌++◌, take}
use Rattle.std.specs.List.{flat_map}
use Rattle.gi_exports.specs.Lines.{row_hours}
use Rattle.gi_exports.proofs.listing.add_table.Given as goal

abbrev pub invariant-loop-row : goal.invariant-loop-row
invariant-loop-row l = l.all.items ≡ l.fn.all.items ++ flat_map (row_hours l.id l.table.first) (take l.row-index l.table.rows)
