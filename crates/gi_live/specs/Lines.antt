-- The lines of what an office is given.
use Rattle.std.specs.Prelude.{◌≡◌, ◌==◌, if◌then◌else◌, List, [], ◌∷◌, ◌++◌, ◌||◌, ℕ, Bool, false, drop, codes, nat_eq, Option, Some, None}
use Rattle.std.specs.List.{list_any, onto_first, starts_with}
use Rattle.std.specs.Option.{option_map, option_to_list}
use Rattle.gi_text.specs.Lines.{line_feed}

-- What each line feed ends, with that line feed, and what follows the last one, which has none.
unfoldable pub given_lines : List ℕ → List (List ℕ)
given_lines [] = []
given_lines (byte ∷ bytes) = if byte == line_feed then (byte ∷ []) ∷ given_lines bytes else onto_first byte (given_lines bytes)

-- a line that is ended, with its line feed
abbrev pub IsEnded : List ℕ → List ℕ → Type 0
IsEnded given line = given ≡ line ++ line_feed ∷ []

-- the words with which a query begins; no call does
abbrev pub query_starts : List (List ℕ)
query_starts = codes "outgoing" ∷ codes "facts" ∷ codes "report" ∷ codes "explain" ∷ codes "due" ∷ []

-- A line that begins with one of these is a query, if it is a request at all.
abbrev pub is_query : List ℕ → Bool
is_query given = list_any (λ word. starts_with nat_eq given word) query_starts

-- a line that begins so asks for a halt, if it is a request at all
abbrev pub is_halt : List ℕ → Bool
is_halt given = starts_with nat_eq given (codes "halt")

-- a line that begins so asks for a resending, if it is a request at all
abbrev pub is_resend : List ℕ → Bool
is_resend given = starts_with nat_eq given (codes "resend")

-- lines of which none but the first asks for a resending: what is not saved is no part of one
abbrev pub ResendsFirst : List (List ℕ) → Type 0
ResendsFirst lines = list_any is_resend (drop 1 lines) ≡ false

-- it is taken by itself
abbrev pub is_alone : List ℕ → Bool
is_alone given = is_halt given || is_query given

-- The lines that are left of an input: one that was read and is kept back, if any, and those of what the reader has left, where that is
-- known.
abbrev pub lines_left : Option (List ℕ) → Option (List ℕ) → Option (List (List ℕ))
lines_left kept remaining = option_map (λ bytes. option_to_list kept ++ given_lines bytes) remaining

-- the first lines of what was left were taken, and all others are left, where that is known
abbrev pub TakesLines : Option (List (List ℕ)) → List (List ℕ) → Option (List (List ℕ)) → Type 0
TakesLines None taken left = Unit {0}
TakesLines (Some all) taken None = ⊥
TakesLines (Some all) taken (Some left) = all ≡ taken ++ left

-- no line is left, where that is known
abbrev pub IsAtEnd : Option (List (List ℕ)) → Type 0
IsAtEnd None = Unit {0}
IsAtEnd (Some left) = left ≡ []

-- the line that is taken next, if any; where there is none, none is left
abbrev pub TakesNext : Option (List (List ℕ)) → Option (List ℕ) → Option (List (List ℕ)) → Type 0
TakesNext old (Some line) new = TakesLines old (line ∷ []) new
TakesNext old None new = TakesLines old [] new × IsAtEnd old
