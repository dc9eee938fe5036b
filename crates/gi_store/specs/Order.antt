-- Rows in the order of their numbers.
use Rattle.std.specs.Prelude.{◌≡◌, false, List, [], ◌∷◌, ⊤, IsPermutation}
use Rattle.std.specs.List.{AllByRecursion}
use Rattle.std.specs.Ordering.{is_lt}
use Rattle.sqlite_value.specs.Order.{Row, column, value_cmp}

-- no row stands before one whose number is lower
abbrev pub InOrder : List Row → Type 0
InOrder [] = ⊤
InOrder (row ∷ rows) = AllByRecursion (λ later. is_lt (value_cmp (column later 0) (column row 0)) ≡ false) rows × InOrder rows

-- the rows, put in the order of their numbers
pub record ArePutInOrder (rows ordered : List Row) : Type 0 where
  pub same : IsPermutation rows ordered
  pub order : InOrder ordered
