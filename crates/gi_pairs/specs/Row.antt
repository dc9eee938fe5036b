-- Rows of tables.
use Rattle.std.specs.Prelude.{All, Bool, nat_eq}
use Rattle.std.specs.Cmp.Lexicographic.{pointwise}
use Rattle.std.specs.Ordering.{eq_of_both, on}
use Rattle.gi_pairs.specs.Direction.{place_of}
use Rattle.gi_pairs.specs.Key.{IsKey}
use Rattle.gi_pairs.specs.Quantity.{IsQuantity}
use Rattle.gi_pairs.specs.declared.key.Key.{Key}
use Rattle.gi_pairs.specs.declared.pair.Pair.{Pair}
use Rattle.gi_pairs.specs.declared.row.Row.{Row}

-- what a row is for
abbrev pub key_of : Row → Key
key_of row = record { pair = row.pair; direction = row.direction }

-- a row of codes and quantities
pub record IsRow (row : Row) : Type 0 where
  pub key : IsKey (key_of row)
  pub quantities : All IsQuantity row.hours

-- their codes are equal
abbrev pub pair_eq : Pair → Pair → Bool
pair_eq = eq_of_both (on (λ p. p.initiating) (pointwise nat_eq)) (on (λ p. p.matching) (pointwise nat_eq))

-- their pairs, directions and quantities are equal
abbrev pub row_eq : Row → Row → Bool
row_eq = eq_of_both (on (λ r. r.pair) pair_eq) (eq_of_both (on (λ r. r.direction) (on place_of nat_eq)) (on (λ r. r.hours) (pointwise nat_eq)))
