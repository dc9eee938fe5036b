use Rattle.std.proofs.Common.{◌≡◌, string_bytes}
use Rattle.gi_picture.specs.Axis.{ticks_above}
use Rattle.gi_picture.proofs.axis.ticks_above.Given as goal

abbrev pub invariant-loop-n : goal.invariant-loop-n
invariant-loop-n l = string_bytes l.text ≡ ticks_above l.frame l.n
