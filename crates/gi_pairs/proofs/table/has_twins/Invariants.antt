use Rattle.std.proofs.Common.{◌≡◌, false}
use Rattle.std.specs.List.{AllAdjacentBelow}
use Rattle.std.specs.Ordering.{is_eq}
use Rattle.gi_pairs.specs.Key.{key_cmp}
use Rattle.gi_pairs.specs.Row.{key_of}
use Rattle.gi_pairs.proofs.table.has_twins.Given as goal

abbrev pub invariant-loop-i : goal.invariant-loop-i
invariant-loop-i l = AllAdjacentBelow (λ x y. is_eq (key_cmp (key_of x) (key_of y)) ≡ false) l.rows l.i
