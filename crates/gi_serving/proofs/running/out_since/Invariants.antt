use Rattle.std.proofs.Common.{◌≡◌, take}
use Rattle.std.specs.List.{flat_map}
use Rattle.gi_serving.specs.Asking.{out_in}
use Rattle.gi_serving.proofs.running.out_since.Given as goal

abbrev pub invariant-loop-note : goal.invariant-loop-note
invariant-loop-note l = l.packets.items ≡ flat_map out_in (take l.note-index l.note-items)
