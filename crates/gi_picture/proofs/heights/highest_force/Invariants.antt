use Rattle.std.proofs.Common.{◌≡◌, take}
use Rattle.gi_picture.specs.Heights.{highest_force}
use Rattle.gi_picture.proofs.heights.highest_force.Given as goal

abbrev pub invariant-loop-hour : goal.invariant-loop-hour
invariant-loop-hour l = l.most ≡ highest_force l.direction (take l.hour-index l.hours)
