-- The highest values of a day.
use Rattle.std.proofs.Common.{◌≡◌, ◌<◌, ◌+◌, ◌∙◌, ℕ, List, [], ◌∷◌, ◌++◌, max, length, take, get_or, refl, ap, arith}
use Rattle.std.proofs.lemmas.List.{take_more}
use Rattle.gi_pairs.specs.declared.direction.Direction.{Direction}
use Rattle.gi_picture.specs.Heights.{higher_of, highest, highest_force}
use Rattle.gi_picture.specs.Quantities.{in_force_of}
use Rattle.gi_picture.specs.Values.{value_or_none}
use Rattle.gi_picture.specs.declared.hour.Hour.{Hour}

highest_with : (direction : Direction) (hours : List Hour) (hour : Hour) → highest direction (hours ++ hour ∷ []) ≡ max (higher_of direction hour) (highest direction hours)
highest_with direction [] hour = refl
highest_with direction (first ∷ hours) hour = let rest = highest_with direction hours hour in omega (arith, rest)

-- the highest of one hour more
pub highest_more : (direction : Direction) (hours : List Hour) (i : ℕ) (d : Hour) → i < length hours
    → highest direction (take (i + 1) hours) ≡ max (higher_of direction (get_or hours i d)) (highest direction (take i hours))
highest_more direction hours i d below = ap (highest direction) (take_more hours i d below) ∙ highest_with direction (take i hours) (get_or hours i d)

highest_force_with : (direction : Direction) (hours : List Hour) (hour : Hour)
    → highest_force direction (hours ++ hour ∷ []) ≡ max (value_or_none (in_force_of direction hour)) (highest_force direction hours)
highest_force_with direction [] hour = refl
highest_force_with direction (first ∷ hours) hour = let rest = highest_force_with direction hours hour in omega (arith, rest)

-- the highest quantity in force of one hour more
pub highest_force_more : (direction : Direction) (hours : List Hour) (i : ℕ) (d : Hour) → i < length hours
    → highest_force direction (take (i + 1) hours) ≡ max (value_or_none (in_force_of direction (get_or hours i d))) (highest_force direction (take i hours))
highest_force_more direction hours i d below = ap (highest_force direction) (take_more hours i d below) ∙ highest_force_with direction (take i hours) (get_or hours i d)
