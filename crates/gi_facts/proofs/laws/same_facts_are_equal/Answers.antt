use Rattle.gi_facts.proofs.SameLemmas.{facts}
use Rattle.gi_facts.proofs.laws.same_facts_are_equal.Goals as goal

pub returns : goal.returns
returns c = facts
