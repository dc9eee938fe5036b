-- What holds of every count of refused submissions.
use Rattle.std.specs.Prelude.{◌≡◌, ◌↔◌, ◌<◌, ℕ, Bool, List, Option}
use Rattle.std.specs.List.{IsDistinct, list_any, position_or_len}
use Rattle.std.specs.Map.{keys_of}
use Rattle.gi_reports.specs.Refused.{refused_counts, same}

-- whether an element stands in a list, and the place of its first copy there: the list's length where it has none
abbrev pub stands_in : Option (List ℕ) → List (Option (List ℕ)) → Bool
stands_in who list = list_any (same who) list

abbrev pub first_place : Option (List ℕ) → List (Option (List ℕ)) → ℕ
first_place who list = position_or_len (same who) list

-- No element is counted twice; those counted are the elements of the list, and no other.
abbrev pub CountsEachOnce : Type 0
CountsEachOnce =
    (submissions : List (Option (List ℕ))) → let counted = keys_of (refused_counts submissions) in
    IsDistinct same counted × ((who : Option (List ℕ)) → stands_in who counted ≡ stands_in who submissions)

-- One stands before another exactly where its first place in the list is before the other's.
abbrev pub KeepsFirstPlaces : Type 0
KeepsFirstPlaces =
    (submissions : List (Option (List ℕ))) (who other : Option (List ℕ)) → let counted = keys_of (refused_counts submissions) in
    (first_place who counted < first_place other counted) ↔ (first_place who submissions < first_place other submissions)
