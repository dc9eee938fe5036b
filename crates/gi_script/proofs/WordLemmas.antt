-- The first word of a line, and the words after it.
use Rattle.std.proofs.Common.{◌≡◌, ℕ, ◌<◌, ◌≤◌, ◌≢◌, ◌==◌, List, [], ◌∷◌, length, arith, ap}
use Rattle.std.specs.List.{position_or_len, before_first, after_first}
use Rattle.std.proofs.lemmas.List.Splits.{length-slice_split, slice_split_first, slice_split_none}
use Rattle.std.proofs.lemmas.List.Sums.{fails_before_first}
use Rattle.gi_script.specs.Words.{space, words_of}

-- how many bytes stand before the first space
abbrev before : List ℕ → ℕ
before line = position_or_len (λ byte. byte == space) line

pub words-found : (line : List ℕ) → before line < length line
    → words_of line ≡ before_first (λ byte. byte == space) line ∷ words_of (after_first (λ byte. byte == space) line)
words-found line within = slice_split_first (λ byte. byte == space) line 0 within

-- a line without a space is its one word
pub words-none : (line : List ℕ) → length line ≤ before line → words_of line ≡ line ∷ []
words-none line all =
    slice_split_none (λ byte. byte == space) line (λ k d within. fails_before_first (λ byte. byte == space) line k d (omega arith))

-- a line has a word
pub words-some : (line : List ℕ) → words_of line ≢ []
words-some line none =
    let some = length-slice_split (λ byte. byte == space) line in
    let empty : length (words_of line) ≡ 0 = ap length none in
    absurd (omega arith)
