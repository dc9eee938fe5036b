use Rattle.std.proofs.Common.{◌≡◌, string_bytes, take}
use Rattle.gi_picture.specs.Axis.{cycle_marks}
use Rattle.gi_picture.proofs.axis.cycle_marks.Given as goal

abbrev pub invariant-loop-run : goal.invariant-loop-run
invariant-loop-run l = string_bytes l.text ≡ cycle_marks l.frame (take l.run-index l.runs)
