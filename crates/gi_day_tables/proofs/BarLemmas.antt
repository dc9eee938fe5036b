-- The bars of a row.
use Rattle.std.proofs.Common.{◌≡◌, ◌<◌, ◌+◌, ◌∙◌, ℕ, List, [], ◌∷◌, ◌++◌, max, length, take, get_or, refl, ap, arith}
use Rattle.std.specs.Prelude.{Option}
use Rattle.std.proofs.lemmas.List.{take_more}
use Rattle.gi_picture.specs.Values.{value_or_none}
use Rattle.gi_day_tables.specs.Bars.{highest}

highest_with : (values : List (Option ℕ)) (value : Option ℕ) → highest (values ++ value ∷ []) ≡ max (value_or_none value) (highest values)
highest_with [] value = refl
highest_with (first ∷ values) value = let rest = highest_with values value in omega (arith, rest)

-- the highest of one value more
pub highest_more : (values : List (Option ℕ)) (i : ℕ) (d : Option ℕ) → i < length values
    → highest (take (i + 1) values) ≡ max (value_or_none (get_or values i d)) (highest (take i values))
highest_more values i d below = ap highest (take_more values i d below) ∙ highest_with (take i values) (get_or values i d)
