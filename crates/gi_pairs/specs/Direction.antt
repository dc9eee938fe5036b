-- The texts of directions, and their order.
use Rattle.std.specs.Prelude.{ℕ, List, [], ◌∷◌, codes, find, Option}
use Rattle.std.specs.Str.{bytes_eq}
use Rattle.gi_pairs.specs.declared.direction.Direction.{Direction}
use Rattle.gi_pairs.specs.declared.direction.Direction.TheVariants.{IM, MI}

abbrev pub direction_text : Direction → List ℕ
direction_text IM = codes "IM"
direction_text MI = codes "MI"

abbrev pub directions : List Direction
directions = IM ∷ MI ∷ []

-- the direction of that text
unfoldable pub direction_named : List ℕ → Option Direction
direction_named text = find (λ direction. bytes_eq text (direction_text direction)) directions

-- `IM` comes before `MI`
abbrev pub place_of : Direction → ℕ
place_of IM = 0
place_of MI = 1
