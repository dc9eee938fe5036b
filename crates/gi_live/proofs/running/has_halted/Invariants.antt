use Rattle.std.proofs.Common.{◌≡◌, take, false}
use Rattle.gi_live.specs.Running.{has_halted}
use Rattle.gi_live.proofs.running.has_halted.Given as goal

abbrev pub invariant-loop-note : goal.invariant-loop-note
invariant-loop-note l = has_halted (take l.note-index l.notes) ≡ false
