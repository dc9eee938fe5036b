use Rattle.std.proofs.Common.{◌≡◌, take}
use Rattle.gi_serving.proofs.Ordering.{codes_in}
use Rattle.gi_serving.proofs.assigning.in_order.Given as goal

abbrev pub invariant-loop-portfolio : goal.invariant-loop-portfolio
invariant-loop-portfolio l = l.order.items ≡ codes_in (take l.portfolio-index l.portfolio-items)
