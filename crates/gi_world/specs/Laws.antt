-- What holds of all worlds.
use Rattle.std.specs.Prelude.{◌≡◌, List}
use Rattle.gi_world.specs.Histories.{after_steps, held}
use Rattle.gi_world.specs.Runs.{answers, run}
use Rattle.gi_lesser.specs.Laws.{LessensBothWays}
use Rattle.gi_world.specs.Agreement.{Agrees, FitsWorld, IsSound}
use Rattle.gi_world.specs.World.{WorldState, after, outcome}
use Rattle.gi_world.specs.declared.step.Step.{Step}

-- what the desks hold after steps is what these and their answers tell, from what they held before
abbrev pub HistoriesAreHeld : Type 0
HistoriesAreHeld = (w : WorldState) (steps : List Step) → after_steps (held w) steps (answers w steps) ≡ held (run w steps)

-- a sound world stays so, whatever step is made, where both desks can be written
abbrev pub StaysSound : Type 0
StaysSound = (w : WorldState) (step : Step) → IsSound w → FitsWorld w → IsSound (after w step)

-- and where the lesser of two tables is that of both ways, no delivery disagrees
abbrev pub StepsAgree : Type 0
StepsAgree = LessensBothWays → (w : WorldState) (step : Step) → IsSound w → FitsWorld w → Agrees step (outcome w step)
