use Rattle.std.proofs.Common.{sym}
use Rattle.json.specs.declared.tape.Node.TheVariants.{Object}
use Rattle.gi_messages.proofs.TextLemmas.{walk_goes_on, walk_fails, walk_ends}
use Rattle.gi_messages.proofs.json_text.is_sound.Goals as goal

pub returns-in-None : goal.returns-in-None
returns-in-None c =
    sym (walk_fails c.args.nodes.now c.loop-node.node-index c.loop-node.more (Object 0) c.loop-node-test.true c.loop-node.invariant (sym c.in-None.ensures.value))

pub loop-node-preserved : goal.loop-node-preserved
loop-node-preserved c =
    walk_goes_on c.args.nodes.now c.loop-node.node-index c.loop-node.more (Object 0) c.loop-node-test.true c.loop-node.invariant c.in-Some.left (sym c.in-Some.ensures.value) c.in-Some.ensures.within

pub returns : goal.returns
returns c = sym (walk_ends c.args.nodes.now c.loop-node.node-index c.loop-node.more c.loop-node-test.false c.loop-node.invariant)
