use Rattle.gi_desk.proofs.StepFacts.{confirms-through-restarts}
use Rattle.gi_desk.proofs.laws.confirms_through_restarts.Goals as goal

pub returns : goal.returns
returns c = confirms-through-restarts
