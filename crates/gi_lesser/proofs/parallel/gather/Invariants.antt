use Rattle.std.proofs.Common.{◌≡◌, Vec, Global}
use Rattle.std.specs.List.{flat_map}
use Rattle.gi_pairs.specs.declared.row.Row.{Row}
use Rattle.gi_lesser.proofs.parallel.gather.Given as goal

abbrev pub invariant-loop-part : goal.invariant-loop-part
invariant-loop-part l = l.rows.items ≡ flat_map (λ (part : Vec Row Global). part.items) l.yielded
