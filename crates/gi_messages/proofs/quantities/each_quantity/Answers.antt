use Rattle.std.proofs.Common.{sym}
use Rattle.std.proofs.lemmas.Result.{err_from_is_err_and}
use Rattle.gi_pairs.specs.Quantity.{most_quantity}
use Rattle.gi_messages.specs.declared.key.Key.TheVariants.{Hours}
use Rattle.gi_messages.specs.Reading.{whole}
use Rattle.gi_messages.specs.Reading.{each}
use Rattle.gi_messages.specs.Tokens.{value_at, elements_at}
use Rattle.gi_messages.specs.declared.fault.FieldFault.TheVariants as fault
use Rattle.gi_messages.proofs.Elements.{goes_on, ends, is_done}
use Rattle.gi_messages.proofs.quantities.each_quantity.Goals as goal

pub returns-in_err-quantity : goal.returns-in_err-quantity
returns-in_err-quantity c =
    let p = err_from_is_err_and c.from_residual-in_err-quantity.result c.from_residual-in_err-quantity.ensures.1 in
    let read = whole 0 most_quantity Hours in
    rw (p.1, p.2) (ends read c.loop-element.quantities.items (elements_at c.loop-element.elements) (each read (elements_at c.args.elements)) c.loop-element.invariant
    (value_at c.in-Some.element) (elements_at c.next.new.self) (fault.Wrong c.in_err-quantity.field-0.0) c.in-Some.ensures.value (sym c.in_err-quantity.ensures))

pub loop-element-preserved : goal.loop-element-preserved
loop-element-preserved c =
    let read = whole 0 most_quantity Hours in
    rw c.in_ok-push.ensures.items (goes_on read c.loop-element.quantities.items (elements_at c.loop-element.elements) (each read (elements_at c.args.elements)) c.loop-element.invariant
    (value_at c.in-Some.element) (elements_at c.next.new.self) c.in_ok-quantity.field-0 c.in-Some.ensures.value (sym c.in_ok-quantity.ensures))

pub returns : goal.returns
returns c =
    let read = whole 0 most_quantity Hours in
    is_done read c.loop-element.quantities.items (elements_at c.loop-element.elements) (each read (elements_at c.args.elements)) c.loop-element.invariant c.in_default.ensures.value
