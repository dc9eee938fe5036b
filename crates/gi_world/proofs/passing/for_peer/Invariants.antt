use Rattle.std.proofs.Common.{◌≡◌, filter, take}
use Rattle.gi_desk.specs.Machine.{is_for_peer}
use Rattle.gi_world.proofs.passing.for_peer.Given as goal

abbrev pub invariant-loop-packet : goal.invariant-loop-packet
invariant-loop-packet l = l.kept.items ≡ filter is_for_peer (take l.packet-index l.packets)
