use Rattle.std.proofs.Common.{◌≡◌, ◌≤◌, length, take}
use Rattle.std.specs.Vec.{vec_capacity, vec_len}
use Rattle.gi_world.proofs.RunLaws.{IsSoFar}
use Rattle.gi_world.proofs.run.make_all.Given as goal

abbrev pub invariant-loop-step : goal.invariant-loop-step
invariant-loop-step l = IsSoFar l.fn.world (take l.step-index l.steps) l.outcomes.items l.world
    × (vec_len l.outcomes ≡ l.step-index)
    × (length l.steps ≤ vec_capacity l.outcomes)
