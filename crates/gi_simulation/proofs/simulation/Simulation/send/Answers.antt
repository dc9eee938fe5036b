use Rattle.gi_pairs.specs.declared.side.Side.TheVariants.{I, M}
use Rattle.gi_simulation.specs.Simulation.{SimulationState}
use Rattle.gi_simulation.proofs.SoundSimulation.{send_sound}
use Rattle.gi_simulation.proofs.simulation.Simulation.send.Goals as goal

pub invariant_of-self : goal.invariant_of-self
invariant_of-self c =
    let at = c.self.inside in
    let s : SimulationState = record { world = at.world; to_initiating = at.to_initiating; to_matching = at.to_matching } in
    send_sound c.args.side I c.args.self.now s c.args.packets.items c.send_packets.new.self c.in-I.is c.self.view_is c.self.invariant c.requires c.send_packets.ensures.came

pub invariant_of-self-in-M : goal.invariant_of-self-in-M
invariant_of-self-in-M c =
    let at = c.self.inside in
    let s : SimulationState = record { world = at.world; to_initiating = at.to_initiating; to_matching = at.to_matching } in
    send_sound c.args.side M c.args.self.now s c.args.packets.items c.send_packets-in-M.new.self c.in-M.is c.self.view_is c.self.invariant c.requires
    c.send_packets-in-M.ensures.came
