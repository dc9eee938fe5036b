use Rattle.std.proofs.Common.{arith}
use Rattle.gi_explanations.specs.Wanted.{is_wanted}
use Rattle.gi_explanations.proofs.NumberLemmas.{last-begins, last-step}
use Rattle.gi_explanations.proofs.numbers.last.Goals as goal

pub loop-before-init : goal.loop-before-init
loop-before-init g c = last-begins (is_wanted c.args.wanted.now) c.args.desk.now.facts

pub loop-before-preserved : goal.loop-before-preserved
loop-before-preserved g c =
    last-step (is_wanted c.args.wanted.now) c.args.desk.now.facts c.loop-before.before c.is_at.result c.loop-before.number c.next-number.result
    (omega (arith, c.loop-before-test.true, c.requires)) c.is_at.ensures c.loop-before.invariant c.next-number.ensures
