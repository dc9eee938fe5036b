-- Which rows make which table, for the crates above.
use Rattle.std.proofs.Common.{◌≡◌, ◌==◌, ℕ, List, [], ◌∷◌, length, nat_lt, true, false, not, Bool, Ok, Option, Some, None, refl, sym, ◌∙◌, arith, subst, All, if◌then◌else◌}
use Rattle.std.specs.List.{list_all}
use Rattle.std.specs.List.Sorted.{IsPermutation}
use Rattle.std.specs.Ordering.{is_lt}
use Rattle.std.proofs.lemmas.Bool.Decides.{nat_tests, Decides-eqb}
use Rattle.std.proofs.lemmas.List.Elements.{All-head, All-tail}
use Rattle.std.proofs.lemmas.List.Sorted.{All-permutation, length_permutation, IsPermutation-refl, IsPermutation-sym, IsPermutation-cons, IsPermutation-trans, IsPermutation-middle}
use Rattle.std.proofs.lemmas.Map.Keys.{IsDistinct-from_sorted}
use Rattle.gi_pairs.specs.Key.{key_cmp}
use Rattle.gi_pairs.specs.Row.{key_of, IsRow}
use Rattle.gi_pairs.specs.Table.{TableContents, IsTable, covered, is_hour_range, keys_of, repeats, refusal, built, ok_unless, in_order, with_row}
use Rattle.gi_pairs.specs.declared.row.Row.{Row}
use Rattle.gi_pairs.specs.Limits.{most_rows}
use Rattle.gi_pairs.proofs.Building.{in_order_is, in_order-sorted, repeats-permutation, repeats_from_distinct}
use Rattle.gi_pairs.proofs.Refusals.{are_whole, accepted, is_table}

swapped : (row x : Row) (xs : List Row) → IsPermutation (row ∷ x ∷ xs) (x ∷ row ∷ xs)
swapped row x xs = IsPermutation-middle (row ∷ []) x xs

with_row-permutation : (row : Row) (xs : List Row) → IsPermutation (row ∷ xs) (with_row row xs)
with_row-permutation row [] = IsPermutation-refl (row ∷ [])
with_row-permutation row (x ∷ xs) = placed (is_lt (key_cmp (key_of row) (key_of x))) row x xs (with_row row xs) (with_row-permutation row xs)
  where
    placed : (b : Bool) (row x : Row) (xs with_it : List Row) → IsPermutation (row ∷ xs) with_it → IsPermutation (row ∷ x ∷ xs) (if b then row ∷ x ∷ xs else x ∷ with_it)
    placed true row x xs with_it h = IsPermutation-refl (row ∷ x ∷ xs)
    placed false row x xs with_it h = IsPermutation-trans (row ∷ x ∷ xs) (x ∷ row ∷ xs) (x ∷ with_it) (swapped row x xs) (IsPermutation-cons x (row ∷ xs) with_it h)

-- the rows in order are the rows
pub in_order-permutation : (rows : List Row) → IsPermutation rows (in_order rows)
in_order-permutation [] = IsPermutation-refl []
in_order-permutation (row ∷ rows) =
    IsPermutation-trans (row ∷ rows) (row ∷ in_order rows) (with_row row (in_order rows)) (IsPermutation-cons row rows (in_order rows) (in_order-permutation rows))
    (with_row-permutation row (in_order rows))

none_from_ok : {T E : Type 0} (fault : Option E) (x t : T) → ok_unless fault x ≡ Ok t → (fault ≡ None) × (x ≡ t)
none_from_ok None x t e = (refl, cc)
none_from_ok (Some f) x t e = cc

-- what a table that rows make holds
pub built-contents : (first last : ℕ) (rows : List Row) (t : TableContents) → built first last rows ≡ Ok t → (refusal first last rows ≡ None) × (record { first = first; last = last; rows = in_order rows } ≡ t)
unfolding built
built-contents first last rows t e = none_from_ok (refusal first last rows) (record { first = first; last = last; rows = in_order rows }) t e

some_test : {E : Type 0} (b : Bool) (e : E) (rest : Option E) → (if b then Some e else rest) ≡ None → (b ≡ false) × (rest ≡ None)
some_test true e rest h = cc
some_test false e rest h = (refl, h)

not_true : (b : Bool) → not b ≡ false → b ≡ true
not_true true e = refl
not_true false e = cc

-- what rows without a fault meet
pub record IsFaultless (first last : ℕ) (rows : List Row) : Type 0 where
  pub hours : is_hour_range first last ≡ true
  pub count : nat_lt most_rows (length rows) ≡ false
  pub whole : are_whole first last rows ≡ true
  pub distinct : repeats (keys_of rows) ≡ false

faultless : (first last : ℕ) (rows : List Row) → refusal first last rows ≡ None → IsFaultless first last rows
unfolding refusal
faultless first last rows e =
    let a = some_test (not (is_hour_range first last)) _ _ e in
    let b = some_test (nat_lt most_rows (length rows)) _ _ a.1 in
    let c = some_test (not (are_whole first last rows)) _ _ b.1 in
    let d = some_test (repeats (keys_of rows)) _ None c.1 in
    record { hours = not_true _ a.0; count = b.0; whole = not_true _ c.0; distinct = d.0 }

-- rows of codes and quantities that make a table make one
pub built-is_table : (first last : ℕ) (rows : List Row) (t : TableContents) → All IsRow rows → built first last rows ≡ Ok t → IsTable t
built-is_table first last rows t all e =
    let made = built-contents first last rows t e in
    let f = faultless first last rows made.0 in
    subst IsTable made.1 (is_table first last rows (in_order rows) f.hours f.count f.whole all (in_order-permutation rows) (in_order-sorted rows f.distinct))

whole_from_all : (n : ℕ) (rows : List Row) → All (λ (row : Row). length row.hours ≡ n) rows → list_all (λ (row : Row). length row.hours == n) rows ≡ true
whole_from_all n [] all = refl
whole_from_all n (x ∷ xs) all =
    let here : (length x.hours == n) ≡ true = (Decides-eqb (length x.hours) n).1 (All-head (λ (row : Row). length row.hours ≡ n) x xs all) in
    rw here (whole_from_all n xs (All-tail (λ (row : Row). length row.hours ≡ n) x xs all))

-- a table's rows, in any order, make it again
pub built-again : (rows : List Row) (t : TableContents) → IsTable t → IsPermutation rows t.rows → built t.first t.last rows ≡ Ok t
built-again rows t table moved =
    let back = IsPermutation-sym rows t.rows moved in
    let hours : is_hour_range t.first t.last ≡ true = grind (arith, nat_tests, table.begins, table.ordered, table.ends) in
    let count : nat_lt most_rows (length rows) ≡ false = rw (← length_permutation rows t.rows moved) (grind (arith, nat_tests, table.few)) in
    let whole : are_whole t.first t.last rows ≡ true = whole_from_all (covered t.first t.last) rows (All-permutation (λ (row : Row). length row.hours ≡ covered t.first t.last) t.rows rows back table.whole) in
    let none : repeats (keys_of t.rows) ≡ false = repeats_from_distinct (keys_of t.rows) (IsDistinct-from_sorted key_cmp (keys_of t.rows) table.sorted) in
    let distinct : repeats (keys_of rows) ≡ false = sym (repeats-permutation rows t.rows moved) ∙ none in
    let order : t.rows ≡ in_order rows = in_order_is rows t.rows moved table.sorted in
    sym (accepted t.first t.last rows hours count whole distinct) ∙ (λ i. Ok (record { first = t.first; last = t.last; rows = sym order i }))
