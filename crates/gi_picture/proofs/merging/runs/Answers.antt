use Rattle.std.proofs.Common.{◌∙◌, sym, ap, arith}
use Rattle.gi_picture.proofs.RunLemmas.{all_read, other_next, same_next}
use Rattle.gi_picture.proofs.merging.runs.Goals as goal
use Rattle.gi_picture.proofs.merging.runs.Goals.{then-is_same, else-is_same+in_ok-push}

pub loop-value-preserved : goal.loop-value-preserved
loop-value-preserved c =
    elim c.if-is_same.branch [
      | then-is_same w ↦
          let after = w.run-is ∙ w.longer-run.ensures in
          let behind = ap (λ r. r.behind) after in
          record {
            rest = same_next c.loop-value.found.items _ c.loop-value.run _ c.in-Some.more.now c.loop-value.value-index _ c.loop-value-test.true (sym c.is_same.ensures ∙ w.if-is_same.true)
                (ap (λ f. f.items) w.found-is) after c.loop-value.invariant.rest;
            within = omega (arith, behind, c.loop-value.invariant.within);
          }
      | else-is_same+in_ok-push w ↦
          let after = w.run-is ∙ w.next-run.ensures in
          let behind = ap (λ r. r.behind) after in
          record {
            rest = other_next c.loop-value.found.items _ c.loop-value.run _ c.in-Some.more.now c.loop-value.value-index _ c.loop-value-test.true (sym c.is_same.ensures ∙ w.if-is_same.false)
                (ap (λ f. f.items) w.found-is ∙ w.in_ok-push.ensures.items) after c.loop-value.invariant.rest;
            within = omega (arith, behind, c.loop-value.invariant.within);
          }
    ]

pub returns : goal.returns
returns c =
    all_read c.loop-value.found.items _ c.in-Some.first.now c.loop-value.run c.run_of-run.result c.in-Some.more.now c.args.values.now c.loop-value.value-index c.loop-value-test.false
    c.in_ok-push-2.ensures.items c.run_of-run.ensures c.in-Some.ensures.cases.0 c.loop-value.invariant.rest
