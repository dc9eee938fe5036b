-- The two lines of an input.
use Rattle.std.specs.Prelude.{◌≡◌, ℕ, List, [], ◌∷◌}
use Rattle.gi_text.specs.Lines.{lines}

-- exactly these two lines
abbrev pub HasLines : List ℕ → List ℕ → List ℕ → Type 0
HasLines input first second = lines input ≡ first ∷ second ∷ []

-- one line, three lines, no line
abbrev pub HasNoLines : List ℕ → Type 0
HasNoLines input = (first second : List ℕ) → ¬ (HasLines input first second)
