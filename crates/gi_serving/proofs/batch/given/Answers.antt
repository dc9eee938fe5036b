use Rattle.std.proofs.Common.{◌<◌, ◌++◌, ◌∷◌, [], ℕ, List, length, ap, ◌∙◌, refl, arith}
use Rattle.gi_serving.proofs.Dealing.{passed, taken}
use Rattle.gi_serving.proofs.batch.given.Goals as goal
use Rattle.gi_serving.proofs.batch.given.Goals.{then-numbers-i+in_ok-copy+in_ok-push, else-numbers-i}

pub loop-i-preserved : goal.loop-i-preserved
loop-i-preserved c =
    let numbers = c.args.numbers.now in
    let bodies = c.args.bodies.now in
    let old = c.loop-i.dealt.items in
    let within : c.loop-i.i < length bodies = c.loop-i-test.true in
    let below : c.loop-i.i < length numbers = omega (arith, within, c.requires) in
    elim c.if-numbers-i.branch [
      | then-numbers-i+in_ok-copy+in_ok-push w ↦
          taken c.args.number numbers bodies c.loop-i.i w.index-bodies-i.result old c.if-numbers-i.dealt.items below within w.if-numbers-i.true w.index-bodies-i.is
          c.loop-i.invariant (rw w.dealt-is (w.in_ok-push.ensures.items ∙ ap (λ (b : List ℕ). old ++ b ∷ []) w.in_ok-copy.ensures))
      | else-numbers-i w ↦
          passed c.args.number numbers bodies c.loop-i.i old c.if-numbers-i.dealt.items below within w.if-numbers-i.false c.loop-i.invariant (rw w.dealt-is refl)
    ]
