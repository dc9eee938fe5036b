-- `--verbose`, before the words of a command.
use Rattle.std.specs.Prelude.{ℕ, List, ◌∷◌, codes, Bool, false, if◌then◌else◌}
use Rattle.std.specs.Str.{bytes_eq}

-- the word is the first behind the program's own name
abbrev pub asks_verbose : List (List ℕ) → Bool
asks_verbose (program ∷ option ∷ words) = bytes_eq option (codes "--verbose")
asks_verbose words = false

-- the words without it
abbrev pub command_words : List (List ℕ) → List (List ℕ)
command_words (program ∷ option ∷ words) = if bytes_eq option (codes "--verbose") then program ∷ words else program ∷ option ∷ words
command_words words = words
