use Rattle.std.proofs.Common.{◌≤◌, ◌∙◌, ap, arith, take, unwrap_or, length-take}
use Rattle.gi_reports.specs.Refused.{first_places, refused_counts}
use Rattle.gi_reports.proofs.CountLemmas.{counted_more, found_at, times_few}
use Rattle.gi_reports.proofs.refused.counted.Goals as goal

pub loop-code-init : goal.loop-code-init
unfolding first_places refused_counts
loop-code-init c = c.new-counts.ensures.empty

pub overflow_add-before : goal.overflow_add-before
overflow_add-before c =
    let front = take c.loop-code.code-index c.args.submissions.now in
    let looked_up = c.unwrap_or-before.ensures ∙ ap (λ o. unwrap_or o 0) (c.copied.ensures ∙ c.get.ensures.value) in
    let count = found_at c.args.submissions.now c.loop-code.code-index c.code-item.result c.loop-code.counts.entries c.unwrap_or-before.result c.loop-code.invariant looked_up in
    let few = times_few c.code-item.result front in
    let long = length-take c.loop-code.code-index c.args.submissions.now in
    let within : c.unwrap_or-before.result ≤ c.loop-code.code-index = omega (arith, count, few, long) in
    grind (arith, within)

pub loop-code-preserved : goal.loop-code-preserved
loop-code-preserved c =
    let looked_up = c.unwrap_or-before.ensures ∙ ap (λ o. unwrap_or o 0) (c.copied.ensures ∙ c.get.ensures.value) in
    counted_more c.args.submissions.now c.loop-code.code-index c.code-item.result c.loop-code.counts.entries c.insert.new.self.entries c.unwrap_or-before.result
    c.loop-code-test.true c.code-item.is c.loop-code.invariant looked_up c.in_ok-insert.ensures.entries
