use Rattle.std.proofs.Common.{take, sym, ◌∙◌}
use Rattle.std.proofs.lemmas.List.{take_all}
use Rattle.std.proofs.lemmas.List.Elements.{All-more, All-same}
use Rattle.gi_pairs.specs.Quantity.{IsQuantity}
use Rattle.gi_pairs.proofs.hours.HoursFromVecQuantity.from.Goals as goal

pub loop-quantity-preserved : goal.loop-quantity-preserved
loop-quantity-preserved c =
    All-more IsQuantity c.deref-quantity-items.result.now c.loop-quantity.quantity-index c.quantity-item.result c.loop-quantity-test.true
    c.loop-quantity.invariant (rw (← c.quantity-item.is) c.reveal_invariant.ensures)

pub invariant_of-result : goal.invariant_of-result
invariant_of-result c =
    let whole = take_all c.loop-quantity.quantity-index c.deref-quantity-items.result.now c.loop-quantity-test.false in
    All-same IsQuantity c.args.quantities.items (take c.loop-quantity.quantity-index c.deref-quantity-items.result.now)
    (sym (whole ∙ c.deref-quantity-items.ensures.value)) c.loop-quantity.invariant
