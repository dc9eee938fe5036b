use Rattle.std.proofs.Common.{◌≡◌, string_bytes, take}
use Rattle.gi_picture.specs.Paths.{runs_line}
use Rattle.gi_picture.proofs.paths.runs_line.Given as goal

abbrev pub invariant-loop-run : goal.invariant-loop-run
invariant-loop-run l = string_bytes l.text ≡ runs_line l.frame (take l.run-index l.runs)
