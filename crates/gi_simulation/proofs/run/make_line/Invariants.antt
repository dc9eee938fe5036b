use Rattle.std.proofs.Common.{replicate}
use Rattle.gi_simulation.specs.Runs.{IsRun, noting_turn}
use Rattle.gi_simulation.proofs.run.make_line.Given as goal

abbrev pub invariant-loop : goal.invariant-loop
invariant-loop g l = IsRun (noting_turn g.N.Notes.noting l.trace) l.fn.simulation (replicate l.counter l.fn.line) l.fn.notes l.notes l.simulation
