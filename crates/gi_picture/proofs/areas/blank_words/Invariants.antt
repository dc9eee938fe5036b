use Rattle.std.proofs.Common.{◌≡◌, string_bytes, take}
use Rattle.gi_picture.specs.Areas.{blank_words}
use Rattle.gi_picture.proofs.areas.blank_words.Given as goal

abbrev pub invariant-loop-run : goal.invariant-loop-run
invariant-loop-run l = string_bytes l.text ≡ blank_words l.frame (take l.run-index l.cycles)
