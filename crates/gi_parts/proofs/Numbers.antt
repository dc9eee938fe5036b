-- Numbers, each of which stands once: how many there can be in a range, and that all of a range are the range in another order.
use Rattle.std.proofs.Common.{arith, ◌≡◌, ◌+◌, ◌<◌, ◌≤◌, ◌∙◌, ℕ, zero, suc, List, [], ◌∷◌, ◌++◌, length, All, Bool, true, false, ◌||◌, nat_eq, refl, sym, ap, subst}
use Rattle.std.specs.List.{IsDistinct, flat_map, list_any, range_with_len}
use Rattle.std.specs.List.Sorted.{IsPermutation}
use Rattle.std.proofs.lemmas.Bool.{eq-eqb, eqb-false, eqb-true, ne_eqb, or_parts}
use Rattle.std.proofs.lemmas.List.{append_assoc}
use Rattle.std.proofs.lemmas.List.Concat.{flat_map-append, flat_map-cons}
use Rattle.std.proofs.lemmas.List.Elements.{All-cons, All-from_recursion, All-head, All-nil, All-tail}
use Rattle.std.proofs.lemmas.List.Sorted.{All-permutation, IsPermutation-append_comm, IsPermutation-append_left, IsPermutation-append_right, IsPermutation-middle, IsPermutation-refl, IsPermutation-trans, length_permutation, list_any-IsPermutation}
use Rattle.std.proofs.lemmas.Map.Keys.{IsDistinct-IsPermutation, IsDistinct-head, IsDistinct-tail}

-- whether a number stands among others
abbrev pub is_in : ℕ → List ℕ → Bool
is_in n ns = list_any (nat_eq n) ns

-- one of so many numbers from a first one
pub record IsWithin (from count n : ℕ) : Type 0 where
  pub least : from ≤ n
  pub most : n < from + count

-- ---- where a number stands

record Place (n : ℕ) (ns : List ℕ) : Type 0 where
  before : List ℕ
  after : List ℕ
  is : ns ≡ before ++ n ∷ after

place_by : (n m : ℕ) (ms : List ℕ) (b : Bool) → nat_eq n m ≡ b → (is_in n ms ≡ true → Place n ms) → (b || is_in n ms) ≡ true → Place n (m ∷ ms)
place_by n m ms true same later e = record { before = []; after = ms; is = ap (λ (k : ℕ). k ∷ ms) (sym (eqb-true n m same)) }
place_by n m ms false same later e = let place = later e in record { before = m ∷ place.before; after = place.after; is = ap (λ (rest : List ℕ). m ∷ rest) place.is }

place_of : (n : ℕ) (ns : List ℕ) → is_in n ns ≡ true → Place n ns
place_of n [] e = absurd cc
place_of n (m ∷ ms) e = place_by n m ms (nat_eq n m) refl (place_of n ms) e

abbrev others : {n : ℕ} {ns : List ℕ} → Place n ns → List ℕ
others place = place.before ++ place.after

-- it stands before the others
first_of : (n : ℕ) (ns : List ℕ) (place : Place n ns) → IsPermutation ns (n ∷ others place)
first_of n ns place = subst (λ (all : List ℕ). IsPermutation all (n ∷ others place)) (sym place.is) (IsPermutation-middle place.before n place.after)

flips : (a b : ℕ) (t : Bool) → nat_eq a b ≡ t → nat_eq a b ≡ nat_eq b a
flips a b true same = same ∙ sym (eq-eqb b a (sym (eqb-true a b same)))
flips a b false same = same ∙ sym (ne_eqb b a (λ (e : b ≡ a). eqb-false a b same (sym e)))

apart : (n : ℕ) (ns : List ℕ) (place : Place n ns) → IsDistinct nat_eq ns → IsDistinct nat_eq (n ∷ others place)
apart n ns place distinct = IsDistinct-IsPermutation nat_eq (λ a b. flips a b (nat_eq a b) refl) ns (n ∷ others place) (first_of n ns place) distinct

-- ---- the numbers of a range but its first

narrower : (from count : ℕ) (ns : List ℕ) → All (λ n. nat_eq from n ≡ false) ns → All (IsWithin from (suc count)) ns → All (IsWithin (from + 1) count) ns
narrower from count [] apart within = All-nil (IsWithin (from + 1) count)
narrower from count (n ∷ ns) apart within =
    let here = All-head (IsWithin from (suc count)) n ns within in
    let other = eqb-false from n (All-head (λ n. nat_eq from n ≡ false) n ns apart) in
    let above : from + 1 ≤ n = by_order from n here.least other in
    All-cons (IsWithin (from + 1) count) n ns (record { least = above; most = omega (arith, here.most) })
    (narrower from count ns (All-tail (λ n. nat_eq from n ≡ false) n ns apart) (All-tail (IsWithin from (suc count)) n ns within))
  where
    by_order : (from n : ℕ) → from ≤ n → (from ≡ n → ⊥) → from + 1 ≤ n
    by_order from n least other = omega (arith, least, other)

without_first : (from count : ℕ) (ns : List ℕ) → is_in from ns ≡ false → All (IsWithin from (suc count)) ns → All (IsWithin (from + 1) count) ns
without_first from count ns none within = narrower from count ns (none_are from ns none) within
  where
    none_are : (from : ℕ) (ns : List ℕ) → is_in from ns ≡ false → All (λ n. nat_eq from n ≡ false) ns
    none_are from [] e = All-nil (λ n. nat_eq from n ≡ false)
    none_are from (n ∷ ns) e = let both = or_parts (nat_eq from n) (is_in from ns) e in All-cons (λ n. nat_eq from n ≡ false) n ns both.0 (none_are from ns both.1)

record AreBehind (from count : ℕ) (ns rest : List ℕ) : Type 0 where
  distinct : IsDistinct nat_eq rest
  within : All (IsWithin (from + 1) count) rest
  counted : length ns ≡ length rest + 1

behind : (from count : ℕ) (ns : List ℕ) (place : Place from ns) → IsDistinct nat_eq ns → All (IsWithin from (suc count)) ns → AreBehind from count ns (others place)
behind from count ns place distinct within =
    let rest = others place in
    let all = apart from ns place distinct in
    let moved = first_of from ns place in
    let counted = length_permutation ns (from ∷ rest) moved in
    record {
      distinct = IsDistinct-tail nat_eq from rest all;
      within = narrower from count rest (All-from_recursion (λ n. nat_eq from n ≡ false) rest (IsDistinct-head nat_eq from rest all))
          (All-tail (IsWithin from (suc count)) from rest (All-permutation (IsWithin from (suc count)) ns (from ∷ rest) moved within));
      counted = omega (arith, counted);
    }

-- ---- at most as many numbers as the range has

few_by : (count from : ℕ) (ns : List ℕ) (b : Bool) → ((some : List ℕ) → IsDistinct nat_eq some → All (IsWithin (from + 1) count) some → length some ≤ count) → is_in from ns ≡ b
    → IsDistinct nat_eq ns → All (IsWithin from (suc count)) ns → length ns ≤ suc count
few_by count from ns true fewer is distinct within =
    let place = place_of from ns is in
    let rest = behind from count ns place distinct within in
    omega (arith, rest.counted, fewer (others place) rest.distinct rest.within)
few_by count from ns false fewer none distinct within = omega (arith, fewer ns distinct (without_first from count ns none within))

pub few_numbers : (count from : ℕ) (ns : List ℕ) → IsDistinct nat_eq ns → All (IsWithin from count) ns → length ns ≤ count
few_numbers zero from [] distinct within = omega arith
few_numbers zero from (n ∷ ns) distinct within = let here = All-head (IsWithin from zero) n ns within in absurd (omega (arith, here.least, here.most))
few_numbers (suc count) from ns distinct within = few_by count from ns (is_in from ns) (few_numbers count (from + 1)) refl distinct within

-- ---- at least as many where each number of the range is there

later_one : (here later : Bool) → (here || later) ≡ true → here ≡ false → later ≡ true
later_one true later e none = absurd cc
later_one false later e none = e

still_in : (n from : ℕ) (rest : List ℕ) → from < n → is_in n (from ∷ rest) ≡ true → is_in n rest ≡ true
still_in n from rest below is = later_one (nat_eq n from) (is_in n rest) is (ne_eqb n from (λ (e : n ≡ from). omega (arith, e, below)))

pub many_numbers : (count from : ℕ) (ns : List ℕ) → ((n : ℕ) → IsWithin from count n → is_in n ns ≡ true) → count ≤ length ns
many_numbers zero from ns all = omega arith
many_numbers (suc count) from ns all =
    let place = place_of from ns (all from (record { least = omega arith; most = omega arith })) in
    let rest = others place in
    let moved = first_of from ns place in
    let counted = length_permutation ns (from ∷ rest) moved in
    let fewer = many_numbers count (from + 1) rest
    (λ n within. still_in n from rest (omega (arith, within.least))
    (sym (list_any-IsPermutation (nat_eq n) ns (from ∷ rest) moved) ∙ all n (record { least = omega (arith, within.least); most = omega (arith, within.most) }))) in
    omega (arith, counted, fewer)

-- ---- all numbers of the range, in any order

-- what they stand for is the same in another order
in_front : {X : Type 0} (a b c : List X) → IsPermutation (a ++ (b ++ c)) (b ++ (a ++ c))
in_front {X} a b c =
    subst (λ (all : List X). IsPermutation all (b ++ (a ++ c))) (append_assoc a b c)
    (subst (λ (all : List X). IsPermutation ((a ++ b) ++ c) all) (append_assoc b a c) (IsPermutation-append_left c (a ++ b) (b ++ a) (IsPermutation-append_comm a b)))

any_order_by : {X : Type 0} (of : ℕ → List X) (count from : ℕ) (ns : List ℕ) (b : Bool)
    → ((some : List ℕ) → IsDistinct nat_eq some → All (IsWithin (from + 1) count) some → length some ≡ count → IsPermutation (flat_map of some) (flat_map of (range_with_len (from + 1) count)))
    → is_in from ns ≡ b → IsDistinct nat_eq ns → All (IsWithin from (suc count)) ns → length ns ≡ suc count
    → IsPermutation (flat_map of ns) (of from ++ flat_map of (range_with_len (from + 1) count))
any_order_by {X} of count from ns true later is distinct within counted =
    let place = place_of from ns is in
    let rest = behind from count ns place distinct within in
    let range = flat_map of (range_with_len (from + 1) count) in
    let a = flat_map of place.before in
    let c = flat_map of place.after in
    let split : flat_map of ns ≡ a ++ (of from ++ c) =
    ap (flat_map of) place.is ∙ flat_map-append of place.before (from ∷ place.after) ∙ ap (λ (rows : List X). a ++ rows) (flat_map-cons of from place.after) in
    let joined : of from ++ (a ++ c) ≡ of from ++ flat_map of (others place) = ap (λ (rows : List X). of from ++ rows) (sym (flat_map-append of place.before place.after)) in
    subst (λ (all : List X). IsPermutation all (of from ++ range)) (sym split)
    (IsPermutation-trans (a ++ (of from ++ c)) (of from ++ (a ++ c)) (of from ++ range) (in_front a (of from) c)
    (subst (λ (all : List X). IsPermutation all (of from ++ range)) (sym joined)
    (IsPermutation-append_right (of from) (flat_map of (others place)) range (later (others place) rest.distinct rest.within (omega (arith, counted, rest.counted))))))
any_order_by of count from ns false later none distinct within counted =
    absurd (let few = few_numbers count (from + 1) ns distinct (without_first from count ns none within) in omega (arith, counted, few))

pub range_in_any_order : {X : Type 0} (of : ℕ → List X) (count from : ℕ) (ns : List ℕ) → IsDistinct nat_eq ns → All (IsWithin from count) ns → length ns ≡ count
    → IsPermutation (flat_map of ns) (flat_map of (range_with_len from count))
range_in_any_order of zero from [] distinct within counted = IsPermutation-refl []
range_in_any_order of zero from (n ∷ ns) distinct within counted = absurd (omega (arith, counted))
range_in_any_order of (suc count) from ns distinct within counted =
    any_order_by of count from ns (is_in from ns) (range_in_any_order of count (from + 1)) refl distinct within counted
