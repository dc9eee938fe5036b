use Rattle.std.proofs.Common.{◌≡◌, take}
use Rattle.gi_world.specs.Agreement.{IsSound}
use Rattle.gi_world.specs.Runs.{run}
use Rattle.gi_audit.proofs.running.make_all.Given as goal

abbrev pub invariant-loop-step : goal.invariant-loop-step
invariant-loop-step l = record {
  world : l.world ≡ run l.initial.world (take l.step-index l.steps);
  sound : IsSound l.world;
}
