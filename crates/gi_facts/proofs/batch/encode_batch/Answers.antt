use Rattle.std.proofs.Common.{◌∙◌}
use Rattle.gi_facts.proofs.BatchLemmas.{is_alone, is_several, only}
use Rattle.gi_facts.proofs.batch.encode_batch.Goals as goal

pub returns-then-facts-eq1 : goal.returns-then-facts-eq1
returns-then-facts-eq1 c = record {
  text = is_alone c.args.facts.now c.index-facts-0.result c.encode_fact.result (only c.args.facts.now c.index-facts-0.result c.if-facts-eq1.true c.index-facts-0.is) c.encode_fact.ensures.text;
}

pub returns : goal.returns
returns c = record {
  text =
      is_several c.args.facts.now c.into_inner.result.items c.if-facts-eq1.false (c.new-out.ensures.before ∙ c.in_ok-with_capacity.ensures.items) c.new-out.ensures.tokens
      c.in_ok-put_facts.ensures c.into_inner.ensures.items;
}
