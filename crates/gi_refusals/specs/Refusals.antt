-- Which lines of an output tell a refusal, and how many. A step that is refused is to be told by a line of its own in the output of `simulate`
-- and of `serve`, and so is each call of an office: cases hold that, and no law here.
use Rattle.std.specs.Prelude.{ℕ, ◌+◌, ◌-◌, ◌^◌, ◌==◌, min, nat_eq, nat_lt, List, [], ◌∷◌, ◌++◌, codes, filter, length, take, Bool, ◌||◌, ◌&&◌, Option, None, Some, if◌then◌else◌}
use Rattle.std.specs.List.{fold, starts_with}
use Rattle.std.specs.Str.{bytes_eq}
use Rattle.gi_text.specs.Lines.{line_feed, lines}

-- what stands behind the first space; nothing where there is none
abbrev pub behind_word : List ℕ → List ℕ
behind_word [] = []
behind_word (byte ∷ rest) = if byte == 32 then rest else behind_word rest

-- `7 I refused Stale 2` of a script's step, and `{"answer":"refused","line":7,..}` of an office's call
abbrev pub tells_refusal : List ℕ → Bool
tells_refusal line = starts_with nat_eq (behind_word (behind_word line)) (codes "refused ") || starts_with nat_eq line (codes "{\"answer\":\"refused\",")

-- A line is told by its first 32 bytes: the number of a step has fewer than twenty digits.
abbrev pub most_front : ℕ
most_front = 32

unfoldable pub refused_in : List ℕ → ℕ
refused_in text = length (filter (λ line. tells_refusal (take most_front line)) (lines text))

-- the same, as a number of the program, which grows no further than it can
abbrev pub refused_told : List ℕ → ℕ
refused_told text = min (refused_in text) (2 ^ 64 - 1)

-- ---- how they are counted

-- the front of the line that is being written, and how many lines before it tell a refusal
pub record Tally : Type 0 where
  pub front : List ℕ
  pub count : ℕ

abbrev pub refusals_of : List ℕ → ℕ
refusals_of front = if tells_refusal front then 1 else 0

abbrev pub total : Tally → ℕ
total tally = min (tally.count + refusals_of tally.front) (2 ^ 64 - 1)

abbrev pub grown : List ℕ → ℕ → List ℕ
grown front byte = if nat_lt (length front) most_front then front ++ byte ∷ [] else front

abbrev pub next : Tally → ℕ → Tally
next tally byte = if byte == line_feed then record { front = []; count = total tally } else record { front = grown tally.front byte; count = tally.count }

abbrev pub no_line : Tally
no_line = record { front = []; count = 0 }

abbrev pub tally_of : List ℕ → Tally
tally_of text = fold next no_line text

abbrev pub is_tally : Tally → Tally → Bool
is_tally tally other = bytes_eq tally.front other.front && tally.count == other.count

-- what a writer holds, where that is known and this is its tally
abbrev pub counted : Option (List ℕ) → Tally → Option (List ℕ)
counted None tally = None
counted (Some bytes) tally = if is_tally tally (tally_of bytes) then Some bytes else None
