use Rattle.std.proofs.Common.{◌≡◌, string_bytes, take}
use Rattle.gi_picture.specs.Tips.{direction_tips}
use Rattle.gi_picture.proofs.tips.direction_tips.Given as goal

abbrev pub invariant-loop-hour : goal.invariant-loop-hour
invariant-loop-hour l = string_bytes l.text ≡ direction_tips l.frame l.direction (take l.hour-index l.hours)
