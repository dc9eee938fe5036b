use Rattle.gi_desk.proofs.StepFacts.{only-appends}
use Rattle.gi_desk.proofs.laws.only_appends.Goals as goal

pub returns : goal.returns
returns c = only-appends
