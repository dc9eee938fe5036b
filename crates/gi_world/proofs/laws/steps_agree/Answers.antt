use Rattle.gi_world.proofs.Agreeing.{step-agrees}
use Rattle.gi_world.proofs.DeliveredPackets.{delivered-order, delivered-response}
use Rattle.gi_world.proofs.laws.steps_agree.Goals as goal

pub returns : goal.returns
returns c = λ both_ways. step-agrees both_ways delivered-order delivered-response
