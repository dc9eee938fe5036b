use Rattle.std.proofs.lemmas.Result.{err_from_is_err_and}
use Rattle.gi_messages.specs.Reading.{each}
use Rattle.gi_messages.specs.Tokens.{value_at, elements_at}
use Rattle.gi_messages.proofs.Elements.{goes_on, ends, is_done}
use Rattle.gi_facts.specs.Decoding.{fact}
use Rattle.gi_facts.proofs.batch.each_fact.Goals as goal

pub returns-in_err-fact : goal.returns-in_err-fact
returns-in_err-fact c =
    let p = err_from_is_err_and c.from_residual.result c.from_residual.ensures.1 in
    rw (p.1, p.2) (ends fact c.loop-element.facts.items (elements_at c.loop-element.elements) (each fact (elements_at c.args.elements)) c.loop-element.invariant
    (value_at c.in-Some.element) (elements_at c.next.new.self) c.in_err-fact.field-0.0 c.in-Some.ensures.value c.in_err-fact.ensures)

pub loop-element-preserved : goal.loop-element-preserved
loop-element-preserved c =
    rw c.in_ok-push.ensures.items (goes_on fact c.loop-element.facts.items (elements_at c.loop-element.elements) (each fact (elements_at c.args.elements)) c.loop-element.invariant
    (value_at c.in-Some.element) (elements_at c.next.new.self) c.in_ok-fact.field-0 c.in-Some.ensures.value c.in_ok-fact.ensures)

pub returns : goal.returns
returns c = is_done fact c.loop-element.facts.items (elements_at c.loop-element.elements) (each fact (elements_at c.args.elements)) c.loop-element.invariant c.in_default.ensures.value
