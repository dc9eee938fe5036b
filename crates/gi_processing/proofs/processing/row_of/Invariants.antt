use Rattle.std.proofs.Common.{◌≡◌, map, slice_index, take, Vec, ℕ, Global}
use Rattle.gi_processing.proofs.processing.row_of.Given as goal

abbrev pub invariant-loop-column : goal.invariant-loop-column
invariant-loop-column l = l.quantities.items ≡ map (λ (column : Vec ℕ Global). slice_index column.items l.place) (take l.column-index l.of_hours)
