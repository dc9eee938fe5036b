use Rattle.std.proofs.Common.{All, take}
use Rattle.gi_pairs.specs.Quantity.{IsQuantity}
use Rattle.gi_pairs.proofs.hours.HoursFromVecQuantity.from.Given as goal

abbrev pub invariant-loop-quantity : goal.invariant-loop-quantity
invariant-loop-quantity l = All IsQuantity (take l.quantity-index l.quantity-items)
