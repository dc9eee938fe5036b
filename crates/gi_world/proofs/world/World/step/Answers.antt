use Rattle.std.proofs.Common.{◌≡◌, subst}
use Rattle.std.specs.Result.{OnErr}
use Rattle.gi_world.specs.Keeping.{KeepsConfirmed, OnlyAppends}
use Rattle.gi_world.specs.World.{WorldState}
use Rattle.gi_world.proofs.ConfirmedLaws.{confirms-at-both, confirms-lower, sound-met}
use Rattle.gi_world.proofs.OneQuantity.{one-confirmed-quantity}
use Rattle.gi_world.proofs.StepKeeping.{step-agrees-as, step-appends, step-confirms, step-keeps-sound, step-refused}
use Rattle.gi_world.proofs.world.World.step.Goals as goal

pub invariant_of-self : goal.invariant_of-self
invariant_of-self c = step-keeps-sound c.self.inside.stations c.args.step.now c.step-outcome.result c.step-outcome.new.self c.self.invariant c.reveal_invariant.ensures c.step-outcome.ensures

pub returns-clause-refused : goal.returns-clause-refused
returns-clause-refused c =
    subst (λ (old : WorldState). OnErr c.step-outcome.result (c.step-outcome.new.self ≡ old)) c.self.view_is
    (step-refused c.self.inside.stations c.args.step.now c.step-outcome.result c.step-outcome.new.self c.step-outcome.ensures)

pub returns-clause-appends : goal.returns-clause-appends
returns-clause-appends c =
    subst (λ (old : WorldState). OnlyAppends old c.step-outcome.new.self) c.self.view_is
    (step-appends c.self.inside.stations c.args.step.now c.step-outcome.result c.step-outcome.new.self c.step-outcome.ensures)

pub returns-clause-confirms : goal.returns-clause-confirms
returns-clause-confirms c =
    subst (λ (old : WorldState). KeepsConfirmed old c.step-outcome.new.self) c.self.view_is
    (step-confirms c.self.inside.stations c.args.step.now c.step-outcome.result c.step-outcome.new.self c.self.invariant c.step-outcome.ensures)

pub returns-clause-agrees : goal.returns-clause-agrees
returns-clause-agrees c =
    step-agrees-as c.lessens_both_ways.ensures c.self.inside.stations c.args.step.now c.step-outcome.result c.step-outcome.new.self c.self.invariant c.reveal_invariant.ensures c.step-outcome.ensures

pub returns-clause-lower : goal.returns-clause-lower
returns-clause-lower c = confirms-lower c.step-outcome.new.self (sound-met c.step-outcome.new.self (invariant_of-self c)) c.reveal_invariant-2.ensures

pub returns-clause-both : goal.returns-clause-both
returns-clause-both c = confirms-at-both c.step-outcome.new.self (invariant_of-self c)

pub returns-clause-one_quantity : goal.returns-clause-one_quantity
returns-clause-one_quantity c = one-confirmed-quantity c.step-outcome.new.self (invariant_of-self c) c.reveal_invariant-2.ensures
