use Rattle.std.proofs.Common.{◌≡◌, filter, take}
use Rattle.gi_processing.specs.Reduction.{is_served_before, referred}
use Rattle.gi_processing.proofs.reduction.lines_before.Given as goal

abbrev pub invariant-loop-line : goal.invariant-loop-line
invariant-loop-line l = referred l.kept.items ≡ filter (is_served_before l.priority) (referred (take l.line-index l.lines))
