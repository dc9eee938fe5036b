-- `help NAME`, of a name or a word that the program prints.
use Rattle.std.specs.Prelude.{ℕ, List, [], ◌∷◌, Option, None, codes, if◌then◌else◌}
use Rattle.std.specs.Str.{bytes_eq}
use Rattle.gi_names.specs.Entries.{entry_of}
use Rattle.gi_names.specs.declared.names.TheConstants.{NAMES}

-- what the words ask to be taught of a text of names: the program's own name, `help` and a name that has an entry there
abbrev pub taught_in : List ℕ → List (List ℕ) → Option (List ℕ)
taught_in text (program ∷ help ∷ name ∷ []) = if bytes_eq help (codes "help") then entry_of text name else None
taught_in text words = None

-- the same of the names that the program prints
unfoldable pub taught_by : List (List ℕ) → Option (List ℕ)
taught_by words = taught_in NAMES.now words
