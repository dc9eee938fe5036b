use Rattle.gi_processing.proofs.PriorityLaws.{one_priority}
use Rattle.gi_processing.proofs.laws.rules_agree.Goals as goal

pub returns : goal.returns
returns c = one_priority
