use Rattle.std.proofs.Common.{◌≡◌, sum, take}
use Rattle.gi_audit.proofs.total.hours_total.Given as goal

abbrev pub invariant-loop-quantity : goal.invariant-loop-quantity
invariant-loop-quantity l = l.total ≡ sum (take l.quantity-index l.quantity-items)
