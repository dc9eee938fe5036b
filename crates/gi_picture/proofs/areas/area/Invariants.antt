use Rattle.std.proofs.Common.{◌≡◌, string_bytes, take}
use Rattle.gi_picture.specs.Areas.{area}
use Rattle.gi_picture.proofs.areas.area.Given as goal

abbrev pub invariant-loop-hour : goal.invariant-loop-hour
invariant-loop-hour l = string_bytes l.text ≡ area l.frame l.upper l.lower (take l.hour-index l.hours)
