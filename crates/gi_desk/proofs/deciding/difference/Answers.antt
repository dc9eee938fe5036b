use Rattle.std.proofs.Common.{rules, ◌≡◌, ◌+◌, not, Some, length, ap, arith, sym, ◌∙◌}
use Rattle.std.specs.Cmp.Rules.{comparing}
use Rattle.gi_pairs.specs.Row.{row_eq}
use Rattle.gi_desk.proofs.Differing.{read_other, first_ends, other_ends}
use Rattle.gi_desk.proofs.deciding.difference.Goals as goal
use Rattle.gi_desk.proofs.deciding.difference.Goals.{then-place-others-via-then-place-others, then-place-others-via-else-place-others+then-ne}

pub returns-then-place-others : goal.returns-then-place-others
returns-then-place-others c =
    elim c.then-place-others.branch [
      | then-place-others-via-then-place-others w ↦ sym (c.loop-place.invariant.same ∙ other_ends c.args.rows.now c.args.others.now c.loop-place.place c.loop-place-test.true (omega arith))
      | then-place-others-via-else-place-others+then-ne w ↦
          let told : w.ne.result ≡ not (row_eq w.index-rows-place.result w.index-others-place.result) = search (comparing, rules, w.ne.ensures) in
          sym (c.loop-place.invariant.same ∙ read_other c.args.rows.now c.args.others.now c.loop-place.place w.index-rows-place.result w.index-others-place.result w.ne.result
          c.loop-place-test.true (omega arith) w.index-rows-place.is w.index-others-place.is told w.if-ne.true)
    ]

pub returns : goal.returns
returns c =
    let place = c.loop-place.place in
    let ends : place ≡ length c.args.rows.now = omega arith in
    sym (c.loop-place.invariant.same ∙ first_ends c.args.rows.now c.args.others.now place ends (omega arith) ∙ ap (λ n. Some (n + 1)) ends)
