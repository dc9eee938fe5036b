use Rattle.std.proofs.Common.{◌≡◌, drop}
use Rattle.gi_picture.specs.Heights.{first_with}
use Rattle.gi_picture.proofs.heights.first_with.Given as goal

abbrev pub invariant-loop-hour : goal.invariant-loop-hour
invariant-loop-hour l = first_with l.direction l.amount l.hours ≡ first_with l.direction l.amount (drop l.hour-index l.hours)
