use Rattle.gi_facts.specs.Writing.{data_of}
use Rattle.gi_messages.proofs.WrittenTokens.{array_closed}
use Rattle.gi_facts.proofs.batch.put_facts.Goals as goal

pub returns : goal.returns
returns c = array_closed data_of c.args.facts.now c.loop-fact.fact-index c.loop-fact-test.false c.loop-fact.invariant c.end_array.ensures
