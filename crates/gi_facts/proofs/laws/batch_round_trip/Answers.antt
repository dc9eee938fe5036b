use Rattle.gi_facts.proofs.BatchLemmas.{batch_again}
use Rattle.gi_facts.proofs.laws.batch_round_trip.Goals as goal

pub returns : goal.returns
returns c = batch_again
