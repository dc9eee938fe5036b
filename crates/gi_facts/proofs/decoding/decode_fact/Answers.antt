use Rattle.std.proofs.Common.{subst}
use Rattle.gi_facts.specs.Decoding.{Gives}
use Rattle.gi_facts.proofs.ReadingLemmas.{fact_of_again, is_found}
use Rattle.gi_facts.proofs.decoding.decode_fact.Goals as goal

pub returns-clause-found : goal.returns-clause-found
returns-clause-found c = is_found c.args.bytes.now c.read.result c.read.ensures

pub returns-clause-only : goal.returns-clause-only
returns-clause-only c = λ f h. subst (λ r. Gives c.read.result r) (fact_of_again c.args.bytes.now f h) c.read.ensures
