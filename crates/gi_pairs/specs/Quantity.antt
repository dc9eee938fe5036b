-- Quantities in whole kWh/h.
use Rattle.std.specs.Prelude.{ℕ, ◌≤◌}

-- a quantity has at most twelve digits (this project's choice)
abbrev pub most_quantity : ℕ
most_quantity = 999_999_999_999

abbrev pub IsQuantity : ℕ → Type 0
IsQuantity n = n ≤ most_quantity
