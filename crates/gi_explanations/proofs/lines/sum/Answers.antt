use Rattle.std.proofs.Common.{arith, ◌-◌}
use Rattle.gi_explanations.specs.Sums.{share_of}
use Rattle.gi_explanations.proofs.SumLemmas.{sum-all, sum-step}
use Rattle.gi_explanations.proofs.lines.sum.Goals as goal

pub overflow_add-sum : goal.overflow_add-sum
overflow_add-sum c = omega (arith, c.loop-line.invariant.within, c.share-sum.ensures.in_range, c.loop-line-test.true, c.requires.few)

pub loop-line-preserved : goal.loop-line-preserved
loop-line-preserved c = record {
  value = sum-step (share_of c.args.span c.args.group c.args.code c.args.direction (c.args.hour - 1)) c.args.lines.now c.loop-line.line-index c.line-item.result c.loop-line.sum c.share-sum.result
      c.loop-line-test.true c.line-item.is c.loop-line.invariant.value c.share-sum.ensures.value;
  within = omega (arith, c.loop-line.invariant.within, c.share-sum.ensures.in_range);
}

pub returns : goal.returns
returns c =
    sum-all c.args.span c.args.group c.args.code c.args.direction (c.args.hour - 1) c.args.lines.now c.loop-line.line-index c.loop-line.sum
    (omega (arith, c.loop-line-test.false)) c.loop-line.invariant.value
