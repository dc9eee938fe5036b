use Rattle.std.proofs.Common.{map, arith}
use Rattle.gi_serving.specs.Submitting.{bodies_in}
use Rattle.gi_serving.proofs.Dealing.{as_many, dealt_more}
use Rattle.gi_serving.proofs.batch.dealt_to.Goals as goal

pub loop-before-preserved : goal.loop-before-preserved
loop-before-preserved c =
    let before = c.loop-before.before in
    dealt_more before c.args.numbers.now c.args.bodies.now (map bodies_in c.loop-before.dealt.items) (map bodies_in c.deal.new.lists.items) c.loop-before.invariant c.in-Ok.ensures

pub returns-clause-count : goal.returns-clause-count
returns-clause-count c =
    omega (arith, as_many c.loop-before.before c.args.numbers.now c.args.bodies.now c.loop-before.dealt.items c.loop-before.invariant, c.loop-before-test.false, c.loop-before.auto.before-end)
