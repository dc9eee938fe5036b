use Rattle.gi_pairs.specs.declared.side.Side.TheVariants.{I, M}
use Rattle.gi_simulation.specs.Simulation.{SimulationState}
use Rattle.gi_simulation.proofs.SoundSimulation.{next_sound}
use Rattle.gi_simulation.proofs.simulation.Simulation.next.Goals as goal

pub invariant_of-self : goal.invariant_of-self
invariant_of-self c =
    let at = c.self.inside in
    let s : SimulationState = record { world = at.world; to_initiating = at.to_initiating; to_matching = at.to_matching } in
    next_sound I s c.next.result c.next.new.self c.self.invariant c.next.ensures.next c.next.ensures.unchanged

pub invariant_of-self-in-M : goal.invariant_of-self-in-M
invariant_of-self-in-M c =
    let at = c.self.inside in
    let s : SimulationState = record { world = at.world; to_initiating = at.to_initiating; to_matching = at.to_matching } in
    next_sound M s c.next-in-M.result c.next-in-M.new.self c.self.invariant c.next-in-M.ensures.next c.next-in-M.ensures.unchanged
