use Rattle.gi_explanations.proofs.FoundLemmas.{names-facts}
use Rattle.gi_explanations.proofs.laws.explains_by_facts.Goals as goal

pub returns : goal.returns
returns c = names-facts
