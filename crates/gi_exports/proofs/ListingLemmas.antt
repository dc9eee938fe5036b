-- The hours of a row, one after the other.
use Rattle.std.proofs.Common.{◌≡◌, ◌<◌, ◌+◌, ℕ, zero, suc, List, [], ◌∷◌, ◌++◌, length, take, get_or, map, sym, ap, ◌∙◌, arith, append_assoc}
use Rattle.std.specs.List.{enumerate_from}
use Rattle.std.proofs.lemmas.List.{map-append}
use Rattle.gi_pairs.specs.declared.cycle_id.CycleId.{CycleId}
use Rattle.gi_pairs.specs.declared.row.Row.{Row}
use Rattle.gi_exports.specs.Lines.{hour_of}
use Rattle.gi_exports.specs.declared.confirmed_hour.ConfirmedHour.{ConfirmedHour}

numbered_more : (first : ℕ) (xs : List ℕ) (i : ℕ) → i < length xs → enumerate_from first (take (suc i) xs) ≡ enumerate_from first (take i xs) ++ (first + i, get_or xs i 0) ∷ []
numbered_more first [] i below = absurd (omega (arith, below))
numbered_more first (x ∷ xs) zero below = let here : first ≡ first + 0 = omega arith in ap (λ (n : ℕ). (n, x) ∷ []) here
numbered_more first (x ∷ xs) (suc i) below =
    let next : first + 1 + i ≡ first + suc i = omega arith in
    ap (λ (l : List (ℕ × ℕ)). (first, x) ∷ l) (numbered_more (first + 1) xs i (omega (arith, below)) ∙ ap (λ (n : ℕ). enumerate_from (first + 1) (take i xs) ++ (n, get_or xs i 0) ∷ []) next)

pub hour_more : (id : CycleId) (row : Row) (first place hour quantity : ℕ) (old all new : List ConfirmedHour) → place < length row.hours → hour ≡ first + place
    → quantity ≡ get_or row.hours place 0 → all ≡ old ++ map (λ (counted : ℕ × ℕ). hour_of id row counted.0 counted.1) (enumerate_from first (take place row.hours))
    → new ≡ all ++ hour_of id row hour quantity ∷ []
    → new ≡ old ++ map (λ (counted : ℕ × ℕ). hour_of id row counted.0 counted.1) (enumerate_from first (take (place + 1) row.hours))
hour_more id row first place hour quantity old all new below hour_is quantity_is all_is new_is =
    let of : ℕ × ℕ → ConfirmedHour = λ counted. hour_of id row counted.0 counted.1 in
    let before = enumerate_from first (take place row.hours) in
    let count : suc place ≡ place + 1 = omega arith in
    let one : ℕ × ℕ = (first + place, get_or row.hours place 0) in
    new_is ∙ (λ t. all_is t ++ hour_of id row (hour_is t) (quantity_is t) ∷ []) ∙ append_assoc old (map of before) (of one ∷ [])
    ∙ ap (λ (l : List ConfirmedHour). old ++ l) (sym (map-append of before (one ∷ [])))
    ∙ ap (λ (l : List (ℕ × ℕ)). old ++ map of l) (sym (numbered_more first row.hours place below))
    ∙ ap (λ n. old ++ map of (enumerate_from first (take n row.hours))) count
