use Rattle.std.proofs.Common.{◌≡◌, take}
use Rattle.gi_page.specs.Sections.{has_direction}
use Rattle.gi_page.proofs.sections.has_direction.Given as goal

abbrev pub invariant-loop-key : goal.invariant-loop-key
invariant-loop-key l = l.has ≡ has_direction l.direction (take l.key-index l.keys)
