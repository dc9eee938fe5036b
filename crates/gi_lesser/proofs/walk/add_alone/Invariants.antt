use Rattle.std.proofs.Common.{◌≡◌, ◌++◌, map, take}
use Rattle.gi_lesser.specs.Walk.{alone}
use Rattle.gi_lesser.proofs.walk.add_alone.Given as goal

abbrev pub invariant-loop-row : goal.invariant-loop-row
invariant-loop-row l = l.rows.items ≡ l.initial.rows.items ++ map alone (take l.row-index l.more)
