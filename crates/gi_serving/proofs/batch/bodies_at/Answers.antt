use Rattle.gi_serving.proofs.Dealing.{line_more}
use Rattle.gi_serving.proofs.batch.bodies_at.Goals as goal

pub loop-line-preserved : goal.loop-line-preserved
loop-line-preserved c =
    line_more c.args.side c.args.lines.now c.loop-line.line-index c.line-item.result c.loop-line.bodies.items c.add_body.new.bodies.items
    c.loop-line-test.true c.line-item.is c.loop-line.invariant c.in_ok-add_body.ensures
