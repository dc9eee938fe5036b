use Rattle.std.proofs.Common.{subst}
use Rattle.gi_simulation.specs.OnItsWay.{IsSound}
use Rattle.gi_world.specs.Headline.{OneConfirmedQuantity}
use Rattle.gi_world.specs.Histories.{held}
use Rattle.gi_world.specs.World.{WorldState}
use Rattle.gi_simulation.proofs.simulation.Simulation.reveal_invariant.Goals as goal

pub returns : goal.returns
returns c =
    let sound : IsSound c.args.self.now = record {
      one_quantity = subst (λ (w : WorldState). OneConfirmedQuantity (held w)) c.world.ensures.value c.world.ensures.one_quantity;
      waits = c.world.ensures.waits;
    } in
    (sound, c.world.ensures.delivers)
