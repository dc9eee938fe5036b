use Rattle.std.proofs.Common.{◌≡◌, Ok, rules}
use Rattle.gi_simulation.specs.Simulation.{SimulationState, side_of_step}
use Rattle.gi_simulation.proofs.SoundSimulation.{let_out_to, reply_let_out, world_on}
use Rattle.gi_world.specs.declared.world_reply.WorldReply.TheVariants.{Desk}
use Rattle.gi_simulation.proofs.simulation.Simulation.step.Goals as goal

pub invariant_of-self : goal.invariant_of-self
invariant_of-self c =
    let at = c.self.inside in
    let s : SimulationState = record { world = at.world; to_initiating = at.to_initiating; to_matching = at.to_matching } in
    world_on s c.step.new.self c.self.invariant c.step.ensures.appends c.step.ensures.one_quantity

pub invariant_of-self-2 : goal.invariant_of-self-2
invariant_of-self-2 c =
    let at = c.self.inside in
    let s : SimulationState = record { world = at.world; to_initiating = at.to_initiating; to_matching = at.to_matching } in
    world_on s c.step.new.self c.self.invariant c.step.ensures.appends c.step.ensures.one_quantity

pub send-requires : goal.send-requires
send-requires c =
    let reply = c.in-Ok-Desk.reply in
    let is : c.step.result ≡ Ok (Desk reply) = search rules in
    let out = reply_let_out c.self.inside.world c.step.new.self c.args.step.now reply c.step.result c.step.ensures.meaning is in
    let_out_to c.other-peer.result c.side_of.result (side_of_step c.args.step.now) c.step.new.self reply.out c.into_vec.result.items c.other-peer.ensures c.side_of.ensures
    c.into_vec.ensures out
