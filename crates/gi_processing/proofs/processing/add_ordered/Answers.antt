use Rattle.std.proofs.Common.{◌++◌, ◌∙◌, List, ap, map, subst, sym}
use Rattle.std.specs.List.Sorted.{IsPermutation}
use Rattle.std.proofs.lemmas.List.Sorted.{IsPermutation-refl}
use Rattle.std.proofs.lemmas.Result.{on_ok_weaker}
use Rattle.gi_pairs.specs.declared.row.Row.{Row}
use Rattle.gi_processing.specs.Processing.{ruled_row}
use Rattle.gi_processing.specs.Reduction.{referred}
use Rattle.gi_processing.specs.declared.rule.Rule.{Rule}
use Rattle.gi_processing.proofs.RowLaws.{rows_by_one}
use Rattle.gi_processing.proofs.processing.add_ordered.Goals as goal

pub returns-in-One : goal.returns-in-One
returns-in-One c =
    let lines = referred c.args.lines.now in
    let row = λ (rule : Rule). ruled_row rule c.args.contracts.now c.args.span.now c.args.portfolio c.args.direction lines in
    let rows = rows_by_one c.args.contracts.now c.args.span.now c.args.portfolio c.args.direction lines ∙ ap (λ (rule : Rule). map (row rule) lines) (sym c.in-One.is) in
    on_ok_weaker c.add_group.result
    (λ made. subst (IsPermutation (c.args.rows.now.items ++ map (row c.args.span.now.rule) lines)) (sym (made ∙ ap (λ (more : List Row). c.args.rows.now.items ++ more) rows)) (IsPermutation-refl (c.args.rows.now.items ++ map (row c.args.span.now.rule) lines)))
    c.add_group.ensures
