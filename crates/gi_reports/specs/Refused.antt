-- Refused submissions, counted by portfolio.
use Rattle.std.specs.Prelude.{ℕ, List, [], ◌∷◌, ◌++◌, length, map, filter, Bool, not, Option, codes, nat_eq}
use Rattle.std.specs.Cmp.Lexicographic.{pointwise}
use Rattle.std.specs.List.{flat_map}
use Rattle.std.specs.Option.{option_eq}
use Rattle.gi_reports.specs.Columns.{left_in, name_of}
use Rattle.gi_text.specs.Columns.{right_in}

-- whether two submissions are of one portfolio, or both cannot be read
abbrev pub same : Option (List ℕ) → Option (List ℕ) → Bool
same = option_eq (pointwise nat_eq)

-- each element once, at its first place: every later repeat of it is left out
unfoldable pub first_places : List (Option (List ℕ)) → List (Option (List ℕ))
first_places [] = []
first_places (who ∷ later) = who ∷ filter (λ other. not (same who other)) (first_places later)

-- in how many places an element stands
unfoldable pub times : Option (List ℕ) → List (Option (List ℕ)) → ℕ
times who submissions = length (filter (same who) submissions)

-- each element once, in order of its first place, with the number of its places
unfoldable pub refused_counts : List (Option (List ℕ)) → List (Option (List ℕ) × ℕ)
refused_counts submissions = map (λ who. (who, times who submissions)) (first_places submissions)

-- `A                     2`
abbrev pub refused_line : Option (List ℕ) × ℕ → List ℕ
refused_line counted = left_in 16 (name_of counted.0) ++ (codes " " ++ (right_in 6 counted.1 ++ codes "\n"))

-- a line for each
abbrev pub refused_lines : List (Option (List ℕ) × ℕ) → List ℕ
refused_lines counts = flat_map refused_line counts
