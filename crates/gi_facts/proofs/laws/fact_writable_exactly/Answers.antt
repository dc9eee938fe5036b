use Rattle.gi_facts.proofs.WritingLemmas.{fits_from_writable_fact, writable_from_fits}
use Rattle.gi_facts.proofs.laws.fact_writable_exactly.Goals as goal

pub returns : goal.returns
returns c = λ f. (fits_from_writable_fact f, writable_from_fits f)
