use Rattle.std.proofs.Common.{◌≡◌, take}
use Rattle.gi_serving.specs.Submitting.{dealt}
use Rattle.gi_serving.proofs.batch.given.Given as goal

abbrev pub invariant-loop-i : goal.invariant-loop-i
invariant-loop-i l = l.dealt.items ≡ dealt l.number (take l.i l.numbers) (take l.i l.bodies)
