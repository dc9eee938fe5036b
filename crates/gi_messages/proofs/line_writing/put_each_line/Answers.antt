use Rattle.gi_messages.proofs.WrittenTokens.{array_closed}
use Rattle.gi_messages.proofs.line_writing.put_each_line.Goals as goal

pub returns : goal.returns
returns g c = array_closed g.T.MessageLine.written c.args.lines.now c.loop-line.line-index c.loop-line-test.false c.loop-line.invariant c.end_array.ensures
