use Rattle.std.proofs.Common.{◌≡◌, ◌<◌, ◌+◌, ◌^◌, ◌∙◌, ℕ, List, ap, arith, get_or, length, subst, sum, take}
use Rattle.std.proofs.lemmas.List.{get_or_read}
use Rattle.gi_audit.proofs.TotalLemmas.{hours_fit}
use Rattle.gi_audit.proofs.total.hours_total.Goals as goal

pub overflow_add-total : goal.overflow_add-total
overflow_add-total c =
    let items = c.as_slice-quantity-items.result.now in
    let i = c.loop-quantity.quantity-index in
    let same = c.as_slice-quantity-items.ensures.value in
    let so_far : c.loop-quantity.total ≡ sum (take i c.args.hours.now) = c.loop-quantity.invariant ∙ ap (λ (hours : List ℕ). sum (take i hours)) same in
    let below = subst (λ (hours : List ℕ). i < length hours) same c.loop-quantity-test.true in
    let read = get_or_read items i c.quantity-item.result c.loop-quantity-test.true c.quantity-item.is 0 ∙ ap (λ (hours : List ℕ). get_or hours i 0) same in
    let fit : sum (take i c.args.hours.now) + c.value-total.result < 2 ^ 64 =
    hours_fit c.args.hours.now i c.value-total.result c.as_slice-quantity-items.ensures.in_range c.requires below (c.value-total.ensures.value ∙ read) in
    let fits : c.loop-quantity.total + c.value-total.result < 2 ^ 64 = omega (arith, fit, so_far) in
    grind (arith, fits)
