-- The two sides, and their texts.
use Rattle.std.specs.Prelude.{ℕ, List, [], ◌∷◌, codes, find, Option}
use Rattle.std.specs.Str.{bytes_eq}
use Rattle.gi_pairs.specs.declared.side.Side.{Side}
use Rattle.gi_pairs.specs.declared.side.Side.TheVariants.{I, M}

abbrev pub side_text : Side → List ℕ
side_text I = codes "I"
side_text M = codes "M"

abbrev pub sides : List Side
sides = I ∷ M ∷ []

-- the side of that text
unfoldable pub side_named : List ℕ → Option Side
side_named text = find (λ side. bytes_eq text (side_text side)) sides

-- the other side
abbrev pub other : Side → Side
other I = M
other M = I
