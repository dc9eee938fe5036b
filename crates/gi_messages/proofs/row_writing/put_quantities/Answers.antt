use Rattle.gi_messages.specs.Writing.{whole}
use Rattle.gi_messages.proofs.WrittenTokens.{array_closed}
use Rattle.gi_messages.proofs.row_writing.put_quantities.Goals as goal

pub returns : goal.returns
returns c = array_closed whole c.args.quantities.now c.loop-quantity.quantity-index c.loop-quantity-test.false c.loop-quantity.invariant c.end_array.ensures
