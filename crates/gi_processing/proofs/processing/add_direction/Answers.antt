use Rattle.std.proofs.Common.{◌≡◌, ◌++◌, All, List, ap, arith, length, map, subst, sym}
use Rattle.std.specs.Borrow.{Bor}
use Rattle.std.specs.List.Sorted.{IsPermutation}
use Rattle.std.proofs.lemmas.List.Sorted.{IsPermutation-append_right, IsPermutation-trans}
use Rattle.std.proofs.lemmas.Result.{on_ok_weaker}
use Rattle.gi_day.specs.Cycles.{hour_count}
use Rattle.gi_messages.specs.declared.nomination_line.NominationLine.{NominationLine}
use Rattle.gi_nominations.proofs.LinesLaws.{without_fault}
use Rattle.gi_processing.specs.Processing.{processed_row, ruled_row}
use Rattle.gi_processing.specs.Reduction.{AreOrdered, in_direction, referred}
use Rattle.gi_processing.proofs.RowLaws.{few_of, rows_of_direction, whole_of}
use Rattle.gi_processing.proofs.processing.add_direction.Goals as goal

pub ordered_lines-requires : goal.ordered_lines-requires
ordered_lines-requires c = (without_fault (hour_count c.args.span.now.day) c.args.lines.now c.requires.sound).distinct

pub add_ordered-requires-clause-few : goal.add_ordered-requires-clause-few
add_ordered-requires-clause-few c =
    let few = few_of c.args.direction c.args.lines.now c.in_ok-ordered.ordered.items c.in_ok-ordered.ensures.lines in
    omega (arith, few, ap length c.deref.ensures.value, (without_fault (hour_count c.args.span.now.day) c.args.lines.now c.requires.sound).few)

pub add_ordered-requires-clause-whole : goal.add_ordered-requires-clause-whole
add_ordered-requires-clause-whole c =
    subst (λ (refs : List (Bor NominationLine)). All (λ (line : NominationLine). length line.hours ≡ hour_count c.args.span.now.day) (referred refs)) (sym c.deref.ensures.value)
    (whole_of c.args.direction (hour_count c.args.span.now.day) c.args.lines.now (referred c.in_ok-ordered.ordered.items)
    (without_fault (hour_count c.args.span.now.day) c.args.lines.now c.requires.sound).whole c.in_ok-ordered.ensures.lines)

pub add_ordered-requires-clause-ordered : goal.add_ordered-requires-clause-ordered
add_ordered-requires-clause-ordered c = subst (λ (refs : List (Bor NominationLine)). AreOrdered (referred refs)) (sym c.deref.ensures.value) c.in_ok-ordered.ensures.ordered

pub returns : goal.returns
returns c =
    let lines = c.args.lines.now in
    let ordered = c.deref.result.now in
    let own = in_direction c.args.direction lines in
    let row = processed_row c.args.contracts.now c.args.span.now c.args.portfolio lines in
    let ruled = ruled_row c.args.span.now.rule c.args.contracts.now c.args.span.now c.args.portfolio c.args.direction (referred ordered) in
    let moved : IsPermutation own (referred ordered) = subst (λ (refs : List (Bor NominationLine)). IsPermutation own (referred refs)) (sym c.deref.ensures.value) c.in_ok-ordered.ensures.lines in
    let rows = IsPermutation-append_right c.args.rows.now.items (map row own) (map ruled (referred ordered)) (rows_of_direction c.args.contracts.now c.args.span.now c.args.portfolio c.args.direction lines (referred ordered) moved) in
    on_ok_weaker c.add_ordered.result (IsPermutation-trans (c.args.rows.now.items ++ map row own) (c.args.rows.now.items ++ map ruled (referred ordered)) c.add_ordered.new.rows.items rows) c.add_ordered.ensures
