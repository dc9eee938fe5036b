-- The refusals of rows in their order, and the table that rows make.
use Rattle.std.proofs.Common.{◌≡◌, ℕ, zero, suc, ◌+◌, ◌-◌, ◌<◌, ◌==◌, ◌||◌, List, [], ◌∷◌, length, get_or, nat_lt, true, false, Bool, Ok, Err, refl, sym, ap, ◌∙◌, arith, subst, All}
use Rattle.std.specs.declared.cmp.Ordering.TheVariants.{Less, Equal, Greater}
use Rattle.std.specs.declared.cmp.Ordering.{Ordering}
use Rattle.std.specs.List.{AllAdjacentBelow, list_all}
use Rattle.std.specs.List.Sorted.{IsPermutation, IsStrictlySortedBy, IsSortedByKey}
use Rattle.std.specs.Ordering.{is_eq, is_lt, ordering_index}
use Rattle.std.proofs.lemmas.Bool.{and_parts}
use Rattle.std.proofs.lemmas.Bool.Decides.{nat_tests, Decides-eqb}
use Rattle.std.proofs.lemmas.List.Elements.{All-nil, All-cons}
use Rattle.std.proofs.lemmas.List.{get_or_default, get_or-map, length-map}
use Rattle.std.proofs.lemmas.List.Sorted.{All-permutation, length_permutation}
use Rattle.std.proofs.lemmas.Map.Keys.{sorted_from_all_adjacent}
use Rattle.gi_pairs.specs.Key.{key_cmp}
use Rattle.gi_pairs.specs.Row.{key_of, IsRow}
use Rattle.gi_pairs.specs.Table.{IsTable, covered, keys_of, is_hour_range, repeats, refusal, built, in_order}
use Rattle.gi_pairs.specs.declared.key.Key.{Key}
use Rattle.gi_pairs.specs.declared.row.Row.{Row}
use Rattle.gi_pairs.specs.Limits.{most_rows}
use Rattle.gi_pairs.specs.declared.table.TableFault.TheVariants.{HourRange, TooManyRows, UnequalHours, Duplicate}
use Rattle.gi_pairs.proofs.KeyOrder.{key_total, key_flips, less_from_not}

-- whether each row has the hours that the table covers
abbrev pub are_whole : ℕ → ℕ → List Row → Bool
are_whole first last rows = list_all (λ (row : Row). length row.hours == covered first last) rows

pub refused_hours : (first last : ℕ) (rows : List Row) → is_hour_range first last ≡ false → Err HourRange ≡ built first last rows
unfolding built refusal
refused_hours first last rows hours = rw hours refl

pub refused_count : (first last : ℕ) (rows : List Row) → is_hour_range first last ≡ true → nat_lt most_rows (length rows) ≡ true → Err TooManyRows ≡ built first last rows
unfolding built refusal
refused_count first last rows hours count = rw (hours, count) refl

pub refused_lengths : (first last : ℕ) (rows : List Row) → is_hour_range first last ≡ true → nat_lt most_rows (length rows) ≡ false
    → are_whole first last rows ≡ false → Err UnequalHours ≡ built first last rows
unfolding built refusal
refused_lengths first last rows hours count whole = rw (hours, count, whole) refl

pub refused_twins : (first last : ℕ) (rows : List Row) → is_hour_range first last ≡ true → nat_lt most_rows (length rows) ≡ false
    → are_whole first last rows ≡ true → repeats (keys_of rows) ≡ true → Err Duplicate ≡ built first last rows
unfolding built refusal
refused_twins first last rows hours count whole twins = rw (hours, count, whole, twins) refl

pub accepted : (first last : ℕ) (rows : List Row) → is_hour_range first last ≡ true → nat_lt most_rows (length rows) ≡ false
    → are_whole first last rows ≡ true → repeats (keys_of rows) ≡ false → Ok (record { first = first; last = last; rows = in_order rows }) ≡ built first last rows
unfolding built refusal
accepted first last rows hours count whole twins = rw (hours, count, whole, twins) refl

-- ---- the code's way to find out

-- what a test of each row's hours says, as the code counts them
pub whole_from : (first last n : ℕ) (seen rows : List Row) (b : Bool) → is_hour_range first last ≡ true → n ≡ last - first → seen ≡ rows
    → b ≡ list_all (λ (row : Row). length row.hours == n + 1) seen → are_whole first last rows ≡ b
whole_from first last n seen rows b hours counted same told =
    let number : n + 1 ≡ covered first last = grind (arith, nat_tests, hours, counted) in
    let told_all : b ≡ list_all (λ (row : Row). length row.hours == covered first last) rows =
    told ∙ (λ i. list_all (λ (row : Row). length row.hours == number i) (same i)) in
    sym told_all

or_true : (a b : Bool) → b ≡ true → (a || b) ≡ true
or_true true b e = refl
or_true false b e = e

-- two neighbours of one key are a key that stands twice
pub twin_repeats : (rows : List Row) (i : ℕ) (d : Row) → suc i < length rows → is_eq (key_cmp (key_of (get_or rows i d)) (key_of (get_or rows (suc i) d))) ≡ true
    → repeats (keys_of rows) ≡ true
twin_repeats [] i d below e = absurd (omega arith)
twin_repeats (x ∷ []) i d below e = absurd (omega arith)
twin_repeats (x ∷ y ∷ ys) zero d below e = rw e refl
twin_repeats (x ∷ y ∷ ys) (suc i) d below e = or_true _ _ (twin_repeats (y ∷ ys) i d (omega arith) e)

equal_index : (o : Ordering) → (ordering_index o == 1) ≡ true → is_eq o ≡ true
equal_index Less e = cc
equal_index Equal e = refl
equal_index Greater e = cc

-- the same, of two rows that were read
pub twins_read : (rows : List Row) (i j : ℕ) (x y : Row) (k l : Key) (o : Ordering) → suc i ≡ j → j < length rows → x ≡ get_or rows i x → y ≡ get_or rows j y
    → k ≡ key_of x → l ≡ key_of y → o ≡ key_cmp k l → (ordering_index o == 1) ≡ true → repeats (keys_of rows) ≡ true
twins_read rows i j x y k l o next below here there kx ly compared equal =
    let there_x : y ≡ get_or rows j x = there ∙ get_or_default rows j y x below in
    let keys : key_cmp (key_of (get_or rows i x)) (key_of (get_or rows j x)) ≡ key_cmp (key_of x) (key_of y) =
    λ t. key_cmp (key_of (sym here t)) (key_of (sym there_x t)) in
    let named : key_cmp (key_of x) (key_of y) ≡ key_cmp k l = λ t. key_cmp (sym kx t) (sym ly t) in
    let all = ap is_eq (keys ∙ named ∙ sym compared) ∙ equal_index o equal in
    let below_next : suc i < length rows = omega (arith, next, below) in
    twin_repeats rows i x below_next (subst (λ (n : ℕ). is_eq (key_cmp (key_of (get_or rows i x)) (key_of (get_or rows n x))) ≡ true) (sym next) all)

not_less : (k l : Key) → is_lt (key_cmp k l) ≡ false → key_cmp k l ≡ Less → ⊥
not_less k l e less = let yes : is_lt (key_cmp k l) ≡ true = ap is_lt less in cc

-- rows that do not fall, no two neighbours of one key, ascend strictly
pub strict_from_neighbours : (rows : List Row) → IsSortedByKey key_of key_cmp rows
    → AllAdjacentBelow (λ x y. is_eq (key_cmp (key_of x) (key_of y)) ≡ false) rows (length rows) → IsStrictlySortedBy key_cmp (keys_of rows)
unfolding IsStrictlySortedBy
strict_from_neighbours [] sorted apart = tt
strict_from_neighbours (x ∷ xs) sorted apart = sorted_from_all_adjacent key_total (keys_of (x ∷ xs)) (key_of x) less
  where
    less : (k : ℕ) → k + 1 < length (keys_of (x ∷ xs)) → key_cmp (get_or (keys_of (x ∷ xs)) k (key_of x)) (get_or (keys_of (x ∷ xs)) (k + 1) (key_of x)) ≡ Less
    less k below =
        let rows = x ∷ xs in
        let here : k + 1 < length (x ∷ xs) = omega (arith, length-map (x ∷ xs) key_of) in
        let at = get_or-map key_of (x ∷ xs) k x (key_of x) (omega arith) in
        let next = get_or-map key_of (x ∷ xs) (k + 1) x (key_of x) here in
        let a = key_of (get_or (x ∷ xs) k x) in
        let b = key_of (get_or (x ∷ xs) (k + 1) x) in
        let moved : key_cmp (get_or (keys_of (x ∷ xs)) k (key_of x)) (get_or (keys_of (x ∷ xs)) (k + 1) (key_of x)) ≡ key_cmp a b = λ i. key_cmp (at i) (next i) in
        moved ∙ less_from_not b a (not_less b a (sorted k x (omega arith) here)) (key_flips b a ∙ apart k x here)

each_whole : (n : ℕ) (rows : List Row) → list_all (λ (row : Row). length row.hours == n) rows ≡ true → All (λ (row : Row). length row.hours ≡ n) rows
each_whole n [] e = All-nil (λ (row : Row). length row.hours ≡ n)
each_whole n (x ∷ xs) e =
    let both = and_parts (length x.hours == n) (list_all (λ (row : Row). length row.hours == n) xs) e in
    All-cons (λ (row : Row). length row.hours ≡ n) x xs ((Decides-eqb (length x.hours) n).0 both.0) (each_whole n xs both.1)

-- what is known of a table's rows
pub is_table : (first last : ℕ) (rows sorted : List Row) → is_hour_range first last ≡ true → nat_lt most_rows (length rows) ≡ false
    → are_whole first last rows ≡ true → All IsRow rows → IsPermutation rows sorted → IsStrictlySortedBy key_cmp (keys_of sorted)
    → IsTable (record { first = first; last = last; rows = sorted })
is_table first last rows sorted hours count whole all moved strict = record {
  begins = grind (arith, nat_tests, hours);
  ordered = grind (arith, nat_tests, hours);
  ends = grind (arith, nat_tests, hours);
  few = rw (length_permutation rows sorted moved) (grind (arith, nat_tests, count));
  all = All-permutation IsRow rows sorted moved all;
  whole = All-permutation (λ (row : Row). length row.hours ≡ covered first last) rows sorted moved (each_whole (covered first last) rows whole);
  sorted = strict;
}
