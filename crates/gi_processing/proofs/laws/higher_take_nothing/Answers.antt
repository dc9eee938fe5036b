use Rattle.gi_processing.proofs.PriorityLaws.{higher_take_nothing}
use Rattle.gi_processing.proofs.laws.higher_take_nothing.Goals as goal

pub returns : goal.returns
returns c = higher_take_nothing
