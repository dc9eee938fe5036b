use Rattle.std.proofs.Common.{◌≡◌, take}
use Rattle.gi_day_tables.specs.Cycles.{is_in_force}
use Rattle.gi_day_tables.proofs.cycles.is_in_force.Given as goal

abbrev pub invariant-loop-run : goal.invariant-loop-run
invariant-loop-run l = l.any ≡ is_in_force l.cycle (take l.run-index l.runs)
