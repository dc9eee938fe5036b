use Rattle.std.proofs.Common.{◌≡◌, string_bytes, take}
use Rattle.gi_picture.specs.Areas.{blanks}
use Rattle.gi_picture.proofs.areas.blanks.Given as goal

abbrev pub invariant-loop-run : goal.invariant-loop-run
invariant-loop-run l = string_bytes l.text ≡ blanks l.frame (take l.run-index l.cycles)
