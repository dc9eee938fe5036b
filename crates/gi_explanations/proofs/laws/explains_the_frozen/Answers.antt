use Rattle.gi_explanations.proofs.FrozenLemmas.{frozen-reads}
use Rattle.gi_explanations.proofs.laws.explains_the_frozen.Goals as goal

pub returns : goal.returns
returns c = frozen-reads
