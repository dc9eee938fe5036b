use Rattle.gi_messages.proofs.TextLemmas.{Walked}
use Rattle.gi_messages.proofs.json_text.is_sound.Given as goal

abbrev pub invariant-loop-node : goal.invariant-loop-node
invariant-loop-node l = Walked l.nodes l.node-index l.more
