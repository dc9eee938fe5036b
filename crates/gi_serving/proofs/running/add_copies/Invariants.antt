use Rattle.std.proofs.Common.{◌≡◌, ◌++◌, take}
use Rattle.gi_serving.proofs.running.add_copies.Given as goal

abbrev pub invariant-loop-packet : goal.invariant-loop-packet
invariant-loop-packet l = l.packets.items ≡ l.initial.packets.items ++ take l.packet-index l.more
