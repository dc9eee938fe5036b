use Rattle.gi_facts.proofs.ReadingLemmas.{fact_of_again, fact_of_takes}
use Rattle.gi_facts.proofs.laws.reads_fact.Goals as goal

pub returns : goal.returns
returns c = λ bytes f. (fact_of_takes bytes f, fact_of_again bytes f)
