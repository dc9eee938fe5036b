-- The lines of a script, and the words of a line.
use Rattle.std.specs.Prelude.{◌==◌, ◌+◌, ℕ, List, [], ◌∷◌}
use Rattle.std.specs.List.{slice_split}
use Rattle.gi_text.specs.Lines.{lines}

-- the byte that parts words
abbrev pub space : ℕ
space = 32

-- The words of a line are parted by one space: without one the line is its one word, and between
-- two spaces that stand side by side is an empty word.
abbrev pub words_of : List ℕ → List (List ℕ)
words_of line = slice_split (λ byte. byte == space) line

-- a line and its number
pub record NumberedLine : Type 0 where
  pub number : ℕ
  pub text : List ℕ

-- an empty line is left out
abbrev pub unless_empty : ℕ → List ℕ → List NumberedLine → List NumberedLine
unless_empty number [] lines = lines
unless_empty number (byte ∷ bytes) lines = record { number = number; text = byte ∷ bytes } ∷ lines

-- lines that are numbered on from a number, without the empty ones, which are counted
abbrev pub numbered : ℕ → List (List ℕ) → List NumberedLine
numbered number [] = []
numbered number (line ∷ lines) = unless_empty number line (numbered (number + 1) lines)

-- the lines of a text that are not empty; the first line of all has this number
abbrev pub lines_from : ℕ → List ℕ → List NumberedLine
lines_from number text = numbered number (lines text)
