use Rattle.std.proofs.Common.{◌≡◌, ◌++◌, ◌∙◌, All, List, ap, arith, filter, length, map, subst, sym}
use Rattle.std.specs.Borrow.{Bor}
use Rattle.std.proofs.lemmas.List.{length-map}
use Rattle.std.proofs.lemmas.List.Elements.{All-filter}
use Rattle.std.proofs.lemmas.Result.{on_ok_weaker}
use Rattle.gi_day.specs.Cycles.{hour_count}
use Rattle.gi_pairs.specs.declared.row.Row.{Row}
use Rattle.gi_messages.specs.declared.nomination_line.NominationLine.{NominationLine}
use Rattle.gi_processing.specs.Processing.{group_row}
use Rattle.gi_processing.specs.Reduction.{AreOrdered, has_priority, is_served_before, referred}
use Rattle.gi_processing.proofs.PriorityLaws.{ordered-filter}
use Rattle.gi_processing.proofs.RowLaws.{kept_few, rows_by_two}
use Rattle.gi_processing.proofs.processing.add_priority.Goals as goal

-- which lines are before, and which are of the priority
before_is : (c : goal.After-deref-2) → referred c.deref.result.now ≡ filter (is_served_before c.args.priority) (referred c.args.lines.now)
before_is c = ap referred c.deref.ensures.value ∙ c.in_ok-before.ensures

own_is : (c : goal.After-deref-2) → referred c.deref-2.result.now ≡ filter (has_priority c.args.priority) (referred c.args.lines.now)
own_is c = ap referred c.deref-2.ensures.value ∙ c.in_ok-own.ensures

pub add_group-requires-clause-few_before : goal.add_group-requires-clause-few_before
add_group-requires-clause-few_before c =
    let now = λ (line : Bor NominationLine). line.now in
    omega (arith, ap length (before_is c), kept_few (is_served_before c.args.priority) (referred c.args.lines.now), length-map c.deref.result.now now, length-map c.args.lines.now now, c.requires.few)

pub add_group-requires-clause-few : goal.add_group-requires-clause-few
add_group-requires-clause-few c =
    let now = λ (line : Bor NominationLine). line.now in
    omega (arith, ap length (own_is c), kept_few (has_priority c.args.priority) (referred c.args.lines.now), length-map c.deref-2.result.now now, length-map c.args.lines.now now, c.requires.few)

pub add_group-requires-clause-whole_before : goal.add_group-requires-clause-whole_before
add_group-requires-clause-whole_before c =
    let whole = λ (line : NominationLine). length line.hours ≡ hour_count c.args.span.now.day in
    subst (All whole) (sym (before_is c)) (All-filter (is_served_before c.args.priority) whole (referred c.args.lines.now) c.requires.whole)

pub add_group-requires-clause-whole : goal.add_group-requires-clause-whole
add_group-requires-clause-whole c =
    let whole = λ (line : NominationLine). length line.hours ≡ hour_count c.args.span.now.day in
    subst (All whole) (sym (own_is c)) (All-filter (has_priority c.args.priority) whole (referred c.args.lines.now) c.requires.whole)

pub add_group-requires-clause-ordered : goal.add_group-requires-clause-ordered
add_group-requires-clause-ordered c = subst AreOrdered (sym (own_is c)) (ordered-filter (has_priority c.args.priority) (referred c.args.lines.now) c.requires.ordered)

pub returns : goal.returns
returns c =
    let row = λ (before own : List NominationLine). group_row c.args.contracts.now c.args.span.now c.args.portfolio c.args.direction before own in
    let before = ap referred c.deref.ensures.value ∙ c.in_ok-before.ensures in
    let own = ap referred c.deref-2.ensures.value ∙ c.in_ok-own.ensures in
    let rows = (λ t. map (row (before t) (own t)) (own t)) ∙ rows_by_two c.args.contracts.now c.args.span.now c.args.portfolio c.args.direction (referred c.args.lines.now) c.args.priority in
    on_ok_weaker c.add_group.result (λ made. made ∙ ap (λ (more : List Row). c.args.rows.now.items ++ more) rows) c.add_group.ensures
