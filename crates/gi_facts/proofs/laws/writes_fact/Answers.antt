use Rattle.gi_facts.proofs.WritingLemmas.{data_of-stands}
use Rattle.gi_facts.proofs.laws.writes_fact.Goals as goal

pub returns : goal.returns
returns c = data_of-stands
