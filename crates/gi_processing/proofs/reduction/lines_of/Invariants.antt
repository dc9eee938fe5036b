use Rattle.std.proofs.Common.{◌≡◌, filter, take}
use Rattle.gi_processing.specs.Reduction.{has_priority, referred}
use Rattle.gi_processing.proofs.reduction.lines_of.Given as goal

abbrev pub invariant-loop-line : goal.invariant-loop-line
invariant-loop-line l = referred l.kept.items ≡ filter (has_priority l.priority) (referred (take l.line-index l.lines))
