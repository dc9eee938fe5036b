use Rattle.std.proofs.Common.{◌≤◌, length, ◌∙◌, sym, arith}
use Rattle.gi_reports.proofs.CycleLemmas.{all_closed, closed_step, no_closings}
use Rattle.gi_reports.proofs.cycles.closings.Goals as goal

pub loop-before-init : goal.loop-before-init
loop-before-init g c = c.new-ids.ensures.items ∙ sym no_closings

pub loop-before-preserved : goal.loop-before-preserved
loop-before-preserved g c =
    closed_step c.args.desk.now.facts c.loop-before.before c.closed_by.result c.loop-before.ids.items c.add.new.ids.items
    (omega (arith, c.loop-before-test.true, c.len-before-end.ensures)) c.closed_by.ensures c.loop-before.invariant c.in_ok-add.ensures

pub returns : goal.returns
returns g c =
    let all : length c.args.desk.now.facts ≤ c.loop-before.before = omega (arith, c.loop-before-test.false, c.len-before-end.ensures) in
    all_closed c.args.desk.now.facts c.loop-before.before c.loop-before.ids.items all c.loop-before.invariant
