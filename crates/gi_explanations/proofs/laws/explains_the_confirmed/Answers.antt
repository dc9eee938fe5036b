use Rattle.gi_explanations.proofs.ConfirmedLemmas.{confirmed-reads}
use Rattle.gi_explanations.proofs.laws.explains_the_confirmed.Goals as goal

pub returns : goal.returns
returns c = confirmed-reads
