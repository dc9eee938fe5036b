use Rattle.gi_messages.specs.Writing.{row_data}
use Rattle.gi_messages.proofs.WrittenTokens.{array_closed}
use Rattle.gi_messages.proofs.row_writing.put_each_row.Goals as goal

pub returns : goal.returns
returns c = array_closed row_data c.args.rows.now c.loop-row.row-index c.loop-row-test.false c.loop-row.invariant c.end_array.ensures
