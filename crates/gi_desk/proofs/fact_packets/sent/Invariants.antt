use Rattle.std.proofs.Common.{◌≡◌, map, take}
use Rattle.gi_desk.specs.Messages.{to_peer}
use Rattle.gi_desk.proofs.fact_packets.sent.Given as goal

abbrev pub invariant-loop-message : goal.invariant-loop-message
invariant-loop-message l = l.packets.items ≡ map to_peer (take l.message-index l.fn.messages.items)
