use Rattle.std.proofs.Common.{subst}
use Rattle.gi_simulation.specs.OnItsWay.{AllIsDelivered}
use Rattle.gi_simulation.proofs.OnItsWay.{sent_delivered}
use Rattle.gi_simulation.proofs.simulation.Simulation.world.Goals as goal

pub returns-clause-delivers : goal.returns-clause-delivers
returns-clause-delivers c = subst AllIsDelivered c.self.view_is (sent_delivered _ c.self.invariant.waits)
