-- The place at which rows differ, found step by step.
use Rattle.std.proofs.Common.{◌≡◌, ℕ, zero, suc, ◌+◌, ◌<◌, List, [], ◌∷◌, length, get_or, drop, true, false, Bool, not, Option, Some, None, refl, sym, ap, ◌∙◌, arith, rules}
use Rattle.std.specs.Cmp.{IsEquivalence}
use Rattle.std.specs.Cmp.Rules.{comparing}
use Rattle.std.proofs.lemmas.List.{drop_more}
use Rattle.gi_pairs.specs.Row.{row_eq}
use Rattle.gi_pairs.specs.declared.row.Row.{Row}
use Rattle.gi_desk.specs.Deciding.{difference, one_later}

-- a place among what is left after so many rows, as a place among all
abbrev pub later : ℕ → Option ℕ → Option ℕ
later n None = None
later n (Some place) = Some (place + n)

differs : (n : ℕ) (x y : Row) (xs ys : List Row) → row_eq x y ≡ false → later n (difference (x ∷ xs) (y ∷ ys)) ≡ Some (n + 1)
differs n x y xs ys other = rw other (ap Some (omega arith))

-- rows that differ at a place
pub at_other : (xs ys : List Row) (n : ℕ) (d e : Row) → n < length xs → n < length ys → row_eq (get_or xs n d) (get_or ys n e) ≡ false
    → later n (difference (drop n xs) (drop n ys)) ≡ Some (n + 1)
at_other xs ys n d e below below_too other =
    (λ i. later n (difference (drop_more xs n d below i) (drop_more ys n e below_too i)))
    ∙ differs n (get_or xs n d) (get_or ys n e) (drop (n + 1) xs) (drop (n + 1) ys) other

-- the one list has no more rows at a place
first_lacks : (xs ys : List Row) (n : ℕ) → n < length xs → n ≡ length ys → difference (drop n xs) (drop n ys) ≡ Some 1
first_lacks [] ys n below ends = absurd (omega arith)
first_lacks (x ∷ xs) [] zero below ends = refl
first_lacks (x ∷ xs) (y ∷ ys) zero below ends = absurd (omega arith)
first_lacks (x ∷ xs) [] (suc n) below ends = absurd (omega arith)
first_lacks (x ∷ xs) (y ∷ ys) (suc n) below ends = first_lacks xs ys n (omega arith) (omega arith)

other_lacks : (xs ys : List Row) (n : ℕ) → n ≡ length xs → n < length ys → difference (drop n xs) (drop n ys) ≡ Some 1
other_lacks xs [] n ends below = absurd (omega arith)
other_lacks [] (y ∷ ys) zero ends below = refl
other_lacks (x ∷ xs) (y ∷ ys) zero ends below = absurd (omega arith)
other_lacks [] (y ∷ ys) (suc n) ends below = absurd (omega arith)
other_lacks (x ∷ xs) (y ∷ ys) (suc n) ends below = other_lacks xs ys n (omega arith) (omega arith)

one_after : (n : ℕ) (o : Option ℕ) → o ≡ Some 1 → later n o ≡ Some (n + 1)
one_after n o first = rw first (ap Some (omega arith))

pub first_ends : (xs ys : List Row) (n : ℕ) → n ≡ length xs → n < length ys → later n (difference (drop n xs) (drop n ys)) ≡ Some (n + 1)
first_ends xs ys n ends below = one_after n _ (other_lacks xs ys n ends below)

pub other_ends : (xs ys : List Row) (n : ℕ) → n < length xs → n ≡ length ys → later n (difference (drop n xs) (drop n ys)) ≡ Some (n + 1)
other_ends xs ys n below ends = one_after n _ (first_lacks xs ys n below ends)

not_true : (b r : Bool) → r ≡ not b → r ≡ true → b ≡ false
not_true true r told holds = absurd (cc (told, holds))
not_true false r told holds = refl

-- rows that were read at a place, and were found to differ
pub read_other : (xs ys : List Row) (n : ℕ) (x y : Row) (r : Bool) → n < length xs → n < length ys → x ≡ get_or xs n x → y ≡ get_or ys n y
    → r ≡ not (row_eq x y) → r ≡ true → later n (difference (drop n xs) (drop n ys)) ≡ Some (n + 1)
read_other xs ys n x y r below below_too here there told holds =
    at_other xs ys n x y below below_too ((λ i. row_eq (sym here i) (sym there i)) ∙ not_true (row_eq x y) r told holds)

-- ---- the same rows

rows_compare : IsEquivalence row_eq
rows_compare = search (comparing, rules)

pub row-self : (row : Row) → row_eq row row ≡ true
row-self row = rows_compare.refl row

pub difference-self : (rows : List Row) → difference rows rows ≡ None
difference-self [] = refl
difference-self (row ∷ rows) = rw (row-self row) (ap one_later (difference-self rows))
