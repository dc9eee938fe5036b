-- What a list of steps makes of a world.
use Rattle.std.specs.Prelude.{◌≡◌, ◌≤◌, ℕ, List, [], ◌∷◌, length, take, slice_get, Some, Result, true}
use Rattle.gi_world.specs.World.{WorldState, after, may_want, outcome}
use Rattle.gi_world.specs.declared.step.Step.{Step}
use Rattle.gi_world.specs.declared.world_fault.WorldFault.{WorldFault}
use Rattle.gi_world.specs.declared.world_reply.WorldReply.{WorldReply}

-- the world after the steps
abbrev pub run : WorldState → List Step → WorldState
run w [] = w
run w (step ∷ steps) = run (after w step) steps

-- what comes of each, in their order; after a refused one the run goes on
abbrev pub answers : WorldState → List Step → List (Result WorldReply WorldFault)
answers w [] = []
answers w (step ∷ steps) = outcome w step ∷ answers (after w step) steps

-- The first so many of the steps are made: what came of each, and the world after them. A step that the world or a desk
-- refuses is made like any other; where steps are left, memory ran out in the next one, which may want memory.
pub record IsRun (start : WorldState) (steps : List Step) (done : ℕ) (got : List (Result WorldReply WorldFault)) (end : WorldState) : Type 0 where
  pub within : done ≤ length steps
  pub outcomes : got ≡ answers start (take done steps)
  pub world : end ≡ run start (take done steps)
  pub ends : (next : Step) → slice_get steps done ≡ Some next → may_want end next ≡ true
