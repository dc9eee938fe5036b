use Rattle.gi_facts.proofs.ReadingLemmas.{one_fact}
use Rattle.gi_facts.proofs.laws.one_fact.Goals as goal

pub returns : goal.returns
returns c = one_fact
