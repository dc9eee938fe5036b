use Rattle.std.proofs.Common.{◌≡◌, rules}
use Rattle.gi_simulation.specs.Simulation.{new_link}
use Rattle.gi_world.specs.World.{new_world}
use Rattle.gi_simulation.proofs.SoundSimulation.{new_sound}
use Rattle.gi_simulation.proofs.simulation.Simulation.new.Goals as goal

pub invariant_of-result : goal.invariant_of-result
invariant_of-result c =
    let world : c.in_ok-world.world ≡ new_world c.args.point = search rules in
    let initiating : c.in-Ok.to_initiating ≡ new_link = search rules in
    let matching : c.in-Ok-new.to_matching ≡ new_link = search rules in
    new_sound c.args.point _ (λ t. record { world = world t; to_initiating = initiating t; to_matching = matching t })
