use Rattle.gi_facts.proofs.BatchLemmas.{batch_few}
use Rattle.gi_facts.proofs.laws.batch_is_few.Goals as goal

pub returns : goal.returns
returns c = batch_few
