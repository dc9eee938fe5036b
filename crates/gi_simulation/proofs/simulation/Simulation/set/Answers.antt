use Rattle.gi_pairs.specs.declared.side.Side.TheVariants.{I, M}
use Rattle.gi_simulation.specs.Simulation.{SimulationState}
use Rattle.gi_simulation.proofs.SoundSimulation.{set_sound}
use Rattle.gi_simulation.proofs.simulation.Simulation.set.Goals as goal

pub invariant_of-self : goal.invariant_of-self
invariant_of-self c =
    let at = c.self.inside in
    let s : SimulationState = record { world = at.world; to_initiating = at.to_initiating; to_matching = at.to_matching } in
    set_sound I s c.args.plan.now c.set.result c.set.new.self c.self.invariant c.set.ensures.next c.set.ensures.unchanged

pub invariant_of-self-in-M : goal.invariant_of-self-in-M
invariant_of-self-in-M c =
    let at = c.self.inside in
    let s : SimulationState = record { world = at.world; to_initiating = at.to_initiating; to_matching = at.to_matching } in
    set_sound M s c.args.plan.now c.set-in-M.result c.set-in-M.new.self c.self.invariant c.set-in-M.ensures.next c.set-in-M.ensures.unchanged
