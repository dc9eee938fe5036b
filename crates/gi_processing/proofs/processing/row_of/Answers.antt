use Rattle.std.proofs.Common.{◌∙◌, ap, map, slice_index, sym, List, Vec, ℕ, Global}
use Rattle.std.proofs.lemmas.List.{take_all}
use Rattle.gi_processing.proofs.RowLaws.{map_twice}
use Rattle.gi_processing.proofs.processing.row_of.Goals as goal

pub returns : goal.returns
returns c =
    let at = λ (column : List ℕ). slice_index column c.args.place in
    let hours = c.from.ensures ∙ c.loop-column.invariant
    ∙ ap (map (λ (column : Vec ℕ Global). slice_index column.items c.args.place)) (take_all c.loop-column.column-index c.args.of_hours.now c.loop-column-test.false)
    ∙ sym (map_twice at (λ (column : Vec ℕ Global). column.items) c.args.of_hours.now) in
    λ i. record { pair = c.of.ensures i; direction = c.args.line.now.direction; hours = hours i }
