use Rattle.gi_facts.proofs.WritingLemmas.{is_text}
use Rattle.gi_facts.proofs.laws.fact_is_text.Goals as goal

pub returns : goal.returns
returns c = is_text
