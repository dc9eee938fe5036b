use Rattle.std.proofs.lemmas.Result.{err_from_is_err_and}
use Rattle.gi_messages.specs.Reading.{each}
use Rattle.gi_messages.specs.Tokens.{value_at, elements_at}
use Rattle.gi_messages.proofs.Elements.{goes_on, ends, is_done}
use Rattle.gi_messages.proofs.line_reading.each_line.Goals as goal

pub returns-in_err-read : goal.returns-in_err-read
returns-in_err-read g c =
    let p = err_from_is_err_and c.from_residual.result c.from_residual.ensures.1 in
    let read = g.T.MessageLine.reading c.args.count in
    rw (p.1, p.2) (ends read c.loop-element.lines.items (elements_at c.loop-element.elements) (each read (elements_at c.args.elements)) c.loop-element.invariant
    (value_at c.in-Some.element) (elements_at c.next.new.self) c.in_err-read.field-0.0 c.in-Some.ensures.value c.in_err-read.ensures)

pub loop-element-preserved : goal.loop-element-preserved
loop-element-preserved g c =
    let read = g.T.MessageLine.reading c.args.count in
    rw c.in_ok-push.ensures.items (goes_on read c.loop-element.lines.items (elements_at c.loop-element.elements) (each read (elements_at c.args.elements)) c.loop-element.invariant
    (value_at c.in-Some.element) (elements_at c.next.new.self) c.in_ok-read.field-0 c.in-Some.ensures.value c.in_ok-read.ensures)

pub returns : goal.returns
returns g c =
    let read = g.T.MessageLine.reading c.args.count in
    is_done read c.loop-element.lines.items (elements_at c.loop-element.elements) (each read (elements_at c.args.elements)) c.loop-element.invariant c.in_default.ensures.value
