use Rattle.std.proofs.Common.{◌≡◌, take}
use Rattle.gi_picture.specs.Lines.{places_of}
use Rattle.gi_picture.proofs.line.places.Given as goal

abbrev pub invariant-loop-hour : goal.invariant-loop-hour
invariant-loop-hour l = l.places.items ≡ places_of l.frame l.line (take l.hour-index l.hours)
