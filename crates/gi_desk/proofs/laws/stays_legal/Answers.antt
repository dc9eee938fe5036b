use Rattle.gi_desk.proofs.StepFacts.{stays-legal}
use Rattle.gi_desk.proofs.laws.stays_legal.Goals as goal

pub returns : goal.returns
returns c = stays-legal
