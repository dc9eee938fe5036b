use Rattle.gi_desk.proofs.StepFacts.{refusals-change-nothing}
use Rattle.gi_desk.proofs.laws.refusals_change_nothing.Goals as goal

pub returns : goal.returns
returns c = refusals-change-nothing
