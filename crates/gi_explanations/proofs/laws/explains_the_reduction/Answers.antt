use Rattle.gi_explanations.proofs.ReductionLemmas.{available-shown, processed-shown}
use Rattle.gi_explanations.proofs.laws.explains_the_reduction.Goals as goal

pub returns-clause-available : goal.returns-clause-available
returns-clause-available c = available-shown

pub returns-clause-processed : goal.returns-clause-processed
returns-clause-processed c = processed-shown
