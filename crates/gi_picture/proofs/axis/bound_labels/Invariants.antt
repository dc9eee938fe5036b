use Rattle.std.proofs.Common.{◌≡◌, string_bytes}
use Rattle.gi_picture.specs.Axis.{bound_labels}
use Rattle.gi_picture.proofs.axis.bound_labels.Given as goal

abbrev pub invariant-loop-bound : goal.invariant-loop-bound
invariant-loop-bound l = string_bytes l.text ≡ bound_labels l.frame l.bound
