use Rattle.std.proofs.Common.{◌∙◌, sym, ap, arith}
use Rattle.gi_day_tables.proofs.FlowRunLemmas.{all_read, other_next, same_next}
use Rattle.gi_day_tables.proofs.flow_merging.flow_runs.Goals as goal
use Rattle.gi_day_tables.proofs.flow_merging.flow_runs.Goals.{then-shows_same, else-shows_same+in_ok-push}

pub loop-hour-preserved : goal.loop-hour-preserved
loop-hour-preserved c =
    elim c.if-shows_same.branch [
      | then-shows_same w ↦
          let after = w.run-is ∙ w.longer-run.ensures in
          let behind = ap (λ r. r.hours) after in
          record {
            rest = same_next c.loop-hour.found.items _ c.loop-hour.run _ c.in-Some.more.now c.loop-hour.hour-index _ _ c.loop-hour-test.true (sym c.shows_same.ensures ∙ w.if-shows_same.true)
                (ap (λ f. f.items) w.found-is) after c.loop-hour.invariant.rest;
            within = omega (arith, behind, c.loop-hour.invariant.within);
          }
      | else-shows_same+in_ok-push w ↦
          let after = w.run-is ∙ w.run_of-run-else-shows_same.ensures in
          let behind = ap (λ r. r.hours) after in
          record {
            rest = other_next c.loop-hour.found.items _ c.loop-hour.run _ c.in-Some.more.now c.loop-hour.hour-index _ _ c.loop-hour-test.true (sym c.shows_same.ensures ∙ w.if-shows_same.false)
                (ap (λ f. f.items) w.found-is ∙ w.in_ok-push.ensures.items) after c.loop-hour.invariant.rest;
            within = omega (arith, behind, c.loop-hour.invariant.within);
          }
    ]

pub returns : goal.returns
returns c =
    all_read c.loop-hour.found.items _ c.in-Some.first.now c.loop-hour.run c.run_of-run.result c.in-Some.more.now c.args.hours.now c.loop-hour.hour-index c.loop-hour-test.false
    c.in_ok-push-2.ensures.items c.run_of-run.ensures c.in-Some.ensures.cases.0 c.loop-hour.invariant.rest
