-- The values of the hours of a day, and their sums.
use Rattle.std.specs.Prelude.{ℕ, List, Option, Some, None}
use Rattle.std.specs.List.{sum_by}

abbrev pub value_or_none : Option ℕ → ℕ
value_or_none None = 0
value_or_none (Some value) = value

-- the sum of those values that are there
unfoldable pub total : List (Option ℕ) → ℕ
total values = sum_by value_or_none values
