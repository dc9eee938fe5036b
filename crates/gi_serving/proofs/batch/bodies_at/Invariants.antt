use Rattle.std.proofs.Common.{◌≡◌, take}
use Rattle.gi_serving.specs.Submitting.{bodies_of}
use Rattle.gi_serving.proofs.batch.bodies_at.Given as goal

abbrev pub invariant-loop-line : goal.invariant-loop-line
invariant-loop-line l = l.bodies.items ≡ bodies_of l.side (take l.line-index l.lines)
