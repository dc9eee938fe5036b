use Rattle.std.proofs.Common.{◌≡◌, ◌≤◌, ◌+◌, ◌-◌, ◌<◌, ◌++◌, [], ◌∷◌, ℕ, List, length, get_or, is_ok, map, take, arith, sym, ap, ◌∙◌, subst}
use Rattle.std.specs.Borrow.{Bor}
use Rattle.std.proofs.lemmas.List.{map_more, map_push}
use Rattle.std.proofs.lemmas.Result.{Ok-from_Ok_iff, OkIff-at_ok}
use Rattle.gi_pairs.specs.Quantity.{IsQuantity}
use Rattle.gi_messages.specs.declared.nomination_line.NominationLine.{NominationLine}
use Rattle.gi_processing.specs.Reduction.{part, quantity_at, quotient, referred, total}
use Rattle.gi_processing.proofs.PassLaws.{all_mapped, part_at, quotient_grows, quotient_within, total_more, total_within}
use Rattle.gi_processing.proofs.reduction.parts_in.Goals as goal

-- the quotient up to the line at a place, from the sum and the total as the pass has them
quotient_is : (a index : ℕ) (xs : List (Bor NominationLine)) (i : ℕ) (item : Bor NominationLine) (sum own all result : ℕ) → sum ≡ total index (referred (take i xs)) → own ≡ quantity_at index item.now
    → item ≡ get_or xs i item → all ≡ total index (referred xs) → result ≡ quotient a (sum + own) all
    → result ≡ quotient a (total index (referred (take i xs)) + quantity_at index (get_or xs i item).now) (total index (referred xs))
quotient_is a index xs i item sum own all result sum_is own_is is all_is e =
    let own_there = own_is ∙ ap (λ (line : Bor NominationLine). quantity_at index line.now) is in
    e ∙ (λ t. quotient a (sum_is t + own_there t) (all_is t))

-- it is at least the one carried along, and at most that and the quantity
grown : (a index : ℕ) (xs : List (Bor NominationLine)) (i : ℕ) (item : Bor NominationLine) (carried result : ℕ) → carried ≡ quotient a (total index (referred (take i xs))) (total index (referred xs))
    → result ≡ quotient a (total index (referred (take i xs)) + quantity_at index (get_or xs i item).now) (total index (referred xs)) → carried ≤ result
grown a index xs i item carried result was is =
    subst (λ n. carried ≤ n) (sym is) (subst (λ n. n ≤ quotient a (total index (referred (take i xs)) + quantity_at index (get_or xs i item).now) (total index (referred xs))) (sym was)
    (quotient_grows a (total index (referred (take i xs))) (quantity_at index (get_or xs i item).now) (total index (referred xs))))

at_most : (a index : ℕ) (xs : List (Bor NominationLine)) (i : ℕ) (item : Bor NominationLine) (carried result : ℕ) → carried ≡ quotient a (total index (referred (take i xs))) (total index (referred xs))
    → result ≡ quotient a (total index (referred (take i xs)) + quantity_at index (get_or xs i item).now) (total index (referred xs)) → result ≤ carried + quantity_at index (get_or xs i item).now
at_most a index xs i item carried result was is =
    let own = quantity_at index (get_or xs i item).now in
    subst (λ n. n ≤ carried + own) (sym is) (subst (λ n. quotient a (total index (referred (take i xs)) + own) (total index (referred xs)) ≤ n + own) (sym was)
    (quotient_within a (total index (referred (take i xs))) own (total index (referred xs))))

pub quantity_of-requires : goal.quantity_of-requires
quantity_of-requires c =
    subst (λ (line : Bor NominationLine). c.args.index < length line.now.hours) (sym c.line-item.is)
    (all_mapped (λ (line : NominationLine). c.args.index < length line.hours) (λ (line : Bor NominationLine). line.now) c.args.lines.now c.loop-line.line-index c.line-item.result c.loop-line-test.true c.requires.covered)

pub quotient_of-quotient-requires : goal.quotient_of-quotient-requires
quotient_of-quotient-requires c =
    let within = total_within c.args.index c.args.lines.now c.loop-line.line-index c.line-item.result c.loop-line-test.true in
    let own = c.value-sum.ensures.value ∙ c.quantity_of.ensures ∙ ap (λ (line : Bor NominationLine). quantity_at c.args.index line.now) c.line-item.is in
    omega (arith, within, own, c.loop-line.invariant.sum, c.total_of-total.ensures.value)

pub overflow_add-sum : goal.overflow_add-sum
overflow_add-sum c =
    let within = total_within c.args.index c.args.lines.now c.loop-line.line-index c.line-item.result c.loop-line-test.true in
    let own = c.value-sum.ensures.value ∙ c.quantity_of.ensures ∙ ap (λ (line : Bor NominationLine). quantity_at c.args.index line.now) c.line-item.is in
    omega (arith, within, own, c.loop-line.invariant.sum, c.total_of-total.ensures.value, c.total_of-total.ensures.bound, c.requires.few)

pub overflow_sub-quotient : goal.overflow_sub-quotient
overflow_sub-quotient c =
    grown c.args.available c.args.index c.args.lines.now c.loop-line.line-index c.line-item.result c.loop-line.carried c.quotient_of-quotient.result c.loop-line.invariant.carried
    (quotient_is c.args.available c.args.index c.args.lines.now c.loop-line.line-index c.line-item.result c.loop-line.sum c.value-sum.result c.total_of-total.result c.quotient_of-quotient.result
    c.loop-line.invariant.sum (c.value-sum.ensures.value ∙ c.quantity_of.ensures) c.line-item.is c.total_of-total.ensures.value c.quotient_of-quotient.ensures)

pub unwrap-requires : goal.unwrap-requires
unwrap-requires c =
    let own = c.value-sum.ensures.value ∙ c.quantity_of.ensures in
    let there = own ∙ ap (λ (line : Bor NominationLine). quantity_at c.args.index line.now) c.line-item.is in
    let most = at_most c.args.available c.args.index c.args.lines.now c.loop-line.line-index c.line-item.result c.loop-line.carried c.quotient_of-quotient.result c.loop-line.invariant.carried
    (quotient_is c.args.available c.args.index c.args.lines.now c.loop-line.line-index c.line-item.result c.loop-line.sum c.value-sum.result c.total_of-total.result c.quotient_of-quotient.result
    c.loop-line.invariant.sum own c.line-item.is c.total_of-total.ensures.value c.quotient_of-quotient.ensures) in
    let small : IsQuantity (c.quotient_of-quotient.result - c.loop-line.carried) = omega (arith, most, there, c.value-sum.ensures.in_range) in
    ap is_ok (Ok-from_Ok_iff c.new.result (IsQuantity (c.quotient_of-quotient.result - c.loop-line.carried)) (c.quotient_of-quotient.result - c.loop-line.carried) c.new.ensures small)

pub loop-line-preserved : goal.loop-line-preserved
loop-line-preserved c =
    let index = c.args.index in
    let xs = c.args.lines.now in
    let i = c.loop-line.line-index in
    let item = c.line-item.result in
    let own = c.value-sum.ensures.value ∙ c.quantity_of.ensures in
    let there = own ∙ ap (λ (line : Bor NominationLine). quantity_at index line.now) c.line-item.is in
    let more = total_more index xs i item c.loop-line-test.true in
    let is = quotient_is c.args.available index xs i item c.loop-line.sum c.value-sum.result c.total_of-total.result c.quotient_of-quotient.result
    c.loop-line.invariant.sum own c.line-item.is c.total_of-total.ensures.value c.quotient_of-quotient.ensures in
    let value = (OkIff-at_ok c.new.result (IsQuantity (c.quotient_of-quotient.result - c.loop-line.carried)) (c.quotient_of-quotient.result - c.loop-line.carried) c.unwrap.result c.new.ensures c.unwrap.ensures).1 in
    let got = value ∙ (λ t. is t - c.loop-line.invariant.carried t) ∙ sym (part_at c.args.available index xs i item c.loop-line-test.true c.requires.ordered) in
    let part_of = part c.args.available index (referred xs) in
    let listed = ap (map part_of) (map_more (λ (line : Bor NominationLine). line.now) xs i item c.loop-line-test.true) ∙ map_push part_of (referred (take i xs)) (get_or xs i item).now in
    record {
      sum = (λ t. c.loop-line.invariant.sum t + there t) ∙ sym more;
      carried = is ∙ ap (λ n. quotient c.args.available n (total index (referred xs))) (sym more);
      quantities = c.in_ok-push.ensures.items ∙ (λ t. c.loop-line.invariant.quantities t ++ got t ∷ []) ∙ sym listed;
    }
