use Rattle.std.proofs.Common.{◌≡◌, map}
use Rattle.gi_serving.specs.Submitting.{bodies_in, dealt_to_all}
use Rattle.gi_serving.proofs.batch.dealt_to.Given as goal

abbrev pub invariant-loop-before : goal.invariant-loop-before
invariant-loop-before l = map bodies_in l.dealt.items ≡ dealt_to_all l.before l.numbers l.bodies
