-- The entries of a text of names: each begins with `# ` and the name.
use Rattle.std.specs.Prelude.{◌≡◌, ℕ, Bool, List, [], ◌∷◌, Option, None, Some, ◌==◌, is_some, option_map}
use Rattle.std.specs.List.{after_first, before_first, find, slice_split}
use Rattle.std.specs.Str.{bytes_eq}

-- a number sign parts the entries; a space, a line's end
abbrev pub sign : ℕ
sign = 35

abbrev pub space : ℕ
space = 32

abbrev pub line_end : ℕ
line_end = 10

abbrev pub pieces_of : List ℕ → List (List ℕ)
pieces_of text = slice_split (λ byte. byte == sign) text

abbrev pub words_of : List ℕ → List (List ℕ)
words_of text = slice_split (λ byte. byte == space) text

-- what a piece tells stands behind its first space
abbrev pub told_of : List ℕ → List ℕ
told_of piece = after_first (λ byte. byte == space) piece

abbrev pub first_line : List ℕ → List ℕ
first_line told = before_first (λ byte. byte == line_end) told

abbrev pub further_lines : List ℕ → List ℕ
further_lines told = after_first (λ byte. byte == line_end) told

-- the name is the first word of it
abbrev pub key_of : List ℕ → List ℕ
key_of told = before_first (λ byte. byte == space) (first_line told)

abbrev pub piece_of : List ℕ → List ℕ → Option (List ℕ)
piece_of text name = find (λ piece. bytes_eq (key_of (told_of piece)) name) (pieces_of text)

-- the entry of a name that is not empty, from the name on
abbrev pub entry_of : List ℕ → List ℕ → Option (List ℕ)
entry_of text [] = None
entry_of text (first ∷ rest) = option_map told_of (piece_of text (first ∷ rest))

abbrev pub has_entry : List ℕ → List ℕ → Bool
has_entry text word = is_some (entry_of text word)

-- the first word that has an entry
abbrev pub word_of : List ℕ → List ℕ → Option (List ℕ)
word_of text said = find (λ word. has_entry text word) (words_of said)

-- the lines behind the first of an entry
abbrev pub lines_of : List ℕ → List ℕ → Option (List ℕ)
lines_of text word = option_map further_lines (entry_of text word)

abbrev pub hint_by : List ℕ → Option (List ℕ) → Option (List ℕ)
hint_by text None = None
hint_by text (Some word) = lines_of text word

abbrev pub hint_of : List ℕ → List ℕ → Option (List ℕ)
hint_of text said = hint_by text (word_of text said)
