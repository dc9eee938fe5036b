use Rattle.std.proofs.Common.{◌∷◌, take}
use Rattle.json.specs.Token.{begin_array}
use Rattle.gi_messages.specs.Adding.{Added}
use Rattle.gi_messages.specs.Writing.{whole}
use Rattle.gi_messages.proofs.WrittenTokens.{each_of}
use Rattle.gi_messages.proofs.row_writing.put_quantities.Given as goal

abbrev pub invariant-loop-quantity : goal.invariant-loop-quantity
invariant-loop-quantity l = Added l.fn.out l.out (begin_array ∷ each_of whole (take l.quantity-index l.quantities))
