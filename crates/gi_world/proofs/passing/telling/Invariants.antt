use Rattle.std.proofs.Common.{◌≡◌, filter, take}
use Rattle.gi_world.specs.World.{tells}
use Rattle.gi_world.proofs.passing.telling.Given as goal

abbrev pub invariant-loop-packet : goal.invariant-loop-packet
invariant-loop-packet l = l.kept.items ≡ filter tells (take l.packet-index l.packets)
