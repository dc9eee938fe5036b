use Rattle.std.proofs.Common.{◌≡◌, take}
use Rattle.gi_processing.specs.Reduction.{in_direction, referred}
use Rattle.gi_processing.proofs.reduction.lines_in.Given as goal

abbrev pub invariant-loop-line : goal.invariant-loop-line
invariant-loop-line l = referred l.kept.items ≡ in_direction l.direction (take l.line-index l.lines)
