use Rattle.gi_desk.proofs.StepFacts.{orders-only-of-cycles}
use Rattle.gi_desk.proofs.laws.orders_only_of_cycles.Goals as goal

pub returns : goal.returns
returns c = orders-only-of-cycles
