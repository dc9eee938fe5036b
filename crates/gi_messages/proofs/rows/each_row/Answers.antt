use Rattle.std.proofs.lemmas.Result.{err_from_is_err_and}
use Rattle.gi_messages.specs.Reading.{row}
use Rattle.gi_messages.specs.Reading.{each}
use Rattle.gi_messages.specs.Tokens.{value_at, elements_at}
use Rattle.gi_messages.proofs.Elements.{goes_on, ends, is_done}
use Rattle.gi_messages.proofs.rows.each_row.Goals as goal

pub returns-in_err-row : goal.returns-in_err-row
returns-in_err-row c =
    let p = err_from_is_err_and c.from_residual-in_err-row.result c.from_residual-in_err-row.ensures.1 in
    let read = row c.args.array c.args.count in
    rw (p.1, p.2) (ends read c.loop-element.rows.items (elements_at c.loop-element.elements) (each read (elements_at c.args.elements)) c.loop-element.invariant
    (value_at c.in-Some.element) (elements_at c.next.new.self) c.in_err-row.field-0.0 c.in-Some.ensures.value c.in_err-row.ensures)

pub loop-element-preserved : goal.loop-element-preserved
loop-element-preserved c =
    let read = row c.args.array c.args.count in
    rw c.in_ok-push.ensures.items (goes_on read c.loop-element.rows.items (elements_at c.loop-element.elements) (each read (elements_at c.args.elements)) c.loop-element.invariant
    (value_at c.in-Some.element) (elements_at c.next.new.self) c.in_ok-row.field-0 c.in-Some.ensures.value c.in_ok-row.ensures)

pub returns : goal.returns
returns c =
    let read = row c.args.array c.args.count in
    is_done read c.loop-element.rows.items (elements_at c.loop-element.elements) (each read (elements_at c.args.elements)) c.loop-element.invariant c.in_default.ensures.value
