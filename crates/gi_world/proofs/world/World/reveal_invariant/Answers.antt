use Rattle.std.proofs.Common.{subst}
use Rattle.gi_world.specs.Confirming.{ConfirmsAtBoth, ConfirmsTheLower}
use Rattle.gi_world.specs.Headline.{OneConfirmedQuantity}
use Rattle.gi_world.specs.Histories.{held}
use Rattle.gi_world.specs.World.{WorldState}
use Rattle.gi_world.proofs.ConfirmedLaws.{confirms-at-both, confirms-lower, sound-met}
use Rattle.gi_world.proofs.OneQuantity.{one-confirmed-quantity}
use Rattle.gi_world.proofs.world.World.reveal_invariant.Goals as goal

pub returns-clause-lower : goal.returns-clause-lower
returns-clause-lower c = subst ConfirmsTheLower c.self.view_is (confirms-lower c.self.inside.stations (sound-met c.self.inside.stations c.self.invariant) c.reveal_invariant.ensures)

pub returns-clause-both : goal.returns-clause-both
returns-clause-both c = subst ConfirmsAtBoth c.self.view_is (confirms-at-both c.self.inside.stations c.self.invariant)

pub returns-clause-one_quantity : goal.returns-clause-one_quantity
returns-clause-one_quantity c =
    subst (λ (w : WorldState). OneConfirmedQuantity (held w)) c.self.view_is (one-confirmed-quantity c.self.inside.stations c.self.invariant c.reveal_invariant.ensures)
