use Rattle.std.proofs.Common.{◌≡◌, take}
use Rattle.std.specs.Prelude.{flat_map}
use Rattle.gi_live.specs.Due.{due_of}
use Rattle.gi_live.proofs.due.due_cycles.Given as goal

abbrev pub invariant-loop-day : goal.invariant-loop-day
invariant-loop-day g l = l.ids.items ≡ flat_map (due_of l.closed.items l.moment) (take l.day-index l.day-items)
