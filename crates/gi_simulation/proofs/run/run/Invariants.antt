use Rattle.std.proofs.Common.{◌≡◌, ◌++◌, List, length}
use Rattle.std.specs.Vec.Iter.{into_iter_items, into_iter_len}
use Rattle.gi_script.specs.declared.line.Line.{Line}
use Rattle.gi_simulation.specs.Runs.{IsRun, noting_turn, turns}
use Rattle.gi_simulation.proofs.run.run.Given as goal

-- the lines that are made, and those that are left
abbrev pub invariant-loop-line : goal.invariant-loop-line
invariant-loop-line g l = (made : List Line)
    × (l.fn.lines.items ≡ made ++ into_iter_items l.line-iterator)
    × (into_iter_len l.line-iterator ≡ length (into_iter_items l.line-iterator))
    × IsRun (noting_turn g.N.Notes.noting l.trace) l.fn.simulation (turns made) l.fn.notes l.notes l.simulation
