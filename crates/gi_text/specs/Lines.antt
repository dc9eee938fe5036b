-- The lines of a text.
use Rattle.std.specs.Prelude.{◌≡◌, ◌==◌, ◌⊎◌, if◌then◌else◌, ℕ, List, [], ◌∷◌, ◌++◌}
use Rattle.std.specs.List.{onto_first}

-- the byte that ends a line
abbrev pub line_feed : ℕ
line_feed = 10

-- What each line feed ends, and what follows the last one: its line feed may be missing.
unfoldable pub lines : List ℕ → List (List ℕ)
lines [] = []
lines (byte ∷ bytes) = if byte == line_feed then [] ∷ lines bytes else onto_first byte (lines bytes)

-- What follows the first line of a text: all behind its line feed, and nothing where that is missing.
abbrev pub IsBehind : List ℕ → List ℕ → List ℕ → Type 0
IsBehind text line rest = (text ≡ line ++ line_feed ∷ rest) ⊎ ((text ≡ line) × (rest ≡ []))
