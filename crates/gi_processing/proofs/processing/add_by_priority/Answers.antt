use Rattle.std.proofs.Common.{◌≡◌, ◌+◌, ◌++◌, ◌∙◌, List, ap, append-nil, arith, filter, map, subst, sym}
use Rattle.std.specs.List.Sorted.{IsPermutation}
use Rattle.std.proofs.lemmas.List.Sorted.{IsPermutation-refl}
use Rattle.gi_pairs.specs.declared.row.Row.{Row}
use Rattle.gi_messages.specs.declared.nomination_line.NominationLine.{NominationLine}
use Rattle.gi_processing.specs.Processing.{ruled_row}
use Rattle.gi_processing.specs.Reduction.{has_priority, is_served_before, referred}
use Rattle.gi_processing.specs.declared.rule.Rule.TheVariants.{Two}
use Rattle.gi_processing.proofs.PriorityLaws.{all_before, before_more, none_between, none_first}
use Rattle.gi_processing.proofs.RowLaws.{added_after_in}
use Rattle.gi_processing.proofs.processing.add_by_priority.Goals as goal

pub loop-next-init : goal.loop-next-init
loop-next-init c =
    let lines = referred c.args.lines.now in
    let row = ruled_row Two c.args.contracts.now c.args.span.now c.args.portfolio c.args.direction lines in
    let none = none_between 0 c.next_priority-next.result lines c.next_priority-next.ensures.low c.next_priority-next.ensures.next ∙ none_first lines in
    record {
      high = c.next_priority-next.ensures.high;
      rows = subst (λ (rows : List Row). IsPermutation rows c.args.rows.now.items) (sym (append-nil c.args.rows.now.items) ∙ (λ t. c.args.rows.now.items ++ map row (sym none t))) (IsPermutation-refl c.args.rows.now.items);
    }

pub loop-next-preserved : goal.loop-next-preserved
loop-next-preserved c =
    let lines = referred c.args.lines.now in
    let row = ruled_row Two c.args.contracts.now c.args.span.now c.args.portfolio c.args.direction lines in
    let next = c.next_priority-next-in-loop-next in
    let before = filter (is_served_before c.loop-next.next) lines in
    let own = filter (has_priority c.loop-next.next) lines in
    let more = filter (is_served_before (c.loop-next.next + 1)) lines in
    let same = none_between (c.loop-next.next + 1) next.result lines next.ensures.low next.ensures.next in
    let added = added_after_in row c.args.rows.now.items before own more c.loop-next.rows.items c.add_priority.new.rows.items c.loop-next.invariant.rows c.in_ok-add_priority.ensures (before_more c.loop-next.next lines) in
    record {
      high = next.ensures.high;
      rows = subst (λ (ls : List NominationLine). IsPermutation (c.args.rows.now.items ++ map row ls) c.add_priority.new.rows.items) (sym same) added;
    }

pub returns : goal.returns
returns c =
    let lines = referred c.args.lines.now in
    let row = ruled_row Two c.args.contracts.now c.args.span.now c.args.portfolio c.args.direction lines in
    let end : c.loop-next.next ≡ 256 = omega (arith, c.loop-next-test.false, c.loop-next.invariant.high) in
    let all = ap (λ n. filter (is_served_before n) lines) end ∙ all_before 256 lines c.next_priority-next.ensures.bytes in
    subst (λ (ls : List NominationLine). IsPermutation (c.args.rows.now.items ++ map row ls) c.loop-next.rows.items) all c.loop-next.invariant.rows
