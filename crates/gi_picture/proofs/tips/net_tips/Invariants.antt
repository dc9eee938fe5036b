use Rattle.std.proofs.Common.{◌≡◌, string_bytes, take}
use Rattle.gi_picture.specs.Tips.{net_tips}
use Rattle.gi_picture.proofs.tips.net_tips.Given as goal

abbrev pub invariant-loop-hour : goal.invariant-loop-hour
invariant-loop-hour l = string_bytes l.text ≡ net_tips l.frame (take l.hour-index l.hours)
