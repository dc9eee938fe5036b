use Rattle.gi_desk.proofs.StepFacts.{confirms-for-good}
use Rattle.gi_desk.proofs.laws.confirms_for_good.Goals as goal

pub returns : goal.returns
returns c = confirms-for-good
