use Rattle.std.proofs.Common.{arith}
use Rattle.std.proofs.lemmas.Grind.{common_steps}
use Rattle.gi_serving.proofs.Ordering.{counts_in_order}
use Rattle.gi_serving.proofs.assigning.in_order.Goals as goal

pub returns : goal.returns
returns c = grind (arith, common_steps, counts_in_order, counts_in_order c.args.portfolios.now, c.loop-portfolio.invariant)
