use Rattle.std.proofs.Common.{◌≡◌, ◌++◌, map, take}
use Rattle.gi_processing.specs.Processing.{group_row}
use Rattle.gi_processing.specs.Reduction.{referred}
use Rattle.gi_processing.proofs.processing.add_group.Given as goal

abbrev pub invariant-loop-place : goal.invariant-loop-place
invariant-loop-place l =
    l.rows.items ≡ l.initial.rows.items ++ map (group_row l.contracts l.span l.portfolio l.fn.direction (referred l.fn.before) (referred l.lines)) (take l.place (referred l.lines))
