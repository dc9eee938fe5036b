use Rattle.std.proofs.Common.{◌≡◌, string_bytes}
use Rattle.gi_picture.specs.Axis.{ticks_below}
use Rattle.gi_picture.proofs.axis.ticks_below.Given as goal

abbrev pub invariant-loop-n : goal.invariant-loop-n
invariant-loop-n l = string_bytes l.text ≡ ticks_below l.frame l.n
