use Rattle.std.proofs.Common.{sym, ◌∙◌}
use Rattle.gi_messages.specs.Tokens.{value_at, elements_at}
use Rattle.gi_facts.proofs.BatchLemmas.{is_miscounted, is_several_read}
use Rattle.gi_facts.proofs.batch.batch_of_value.Goals as goal

pub returns-then-not-holds_several-clause-exact : goal.returns-then-not-holds_several-clause-exact
returns-then-not-holds_several-clause-exact c =
    is_miscounted (value_at c.args.value.now) (elements_at c.in-Some.elements) (sym c.in-Some.ensures) (sym c.holds_several.ensures ∙ c.if-not-holds_several.true)

pub returns-clause-exact : goal.returns-clause-exact
returns-clause-exact c =
    is_several_read (value_at c.args.value.now) (elements_at c.in-Some.elements) c.in_ok-each_fact.field-0.items (sym c.in-Some.ensures) (sym c.holds_several.ensures ∙ c.if-not-holds_several.false) c.in_ok-each_fact.ensures
