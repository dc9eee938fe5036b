use Rattle.std.proofs.Common.{◌≡◌, ◌++◌, take}
use Rattle.gi_live.specs.Telling.{packets_text}
use Rattle.gi_live.proofs.telling.add_packets.Given as goal

abbrev pub invariant-loop-packet : goal.invariant-loop-packet
invariant-loop-packet l = l.text.items ≡ l.initial.text.items ++ packets_text l.fact (take l.packet-index l.packets)
