-- Lines in order of counterparty.
use Rattle.std.proofs.Common.{◌≡◌, ℕ, List, [], ◌∷◌, true, false, Bool, cond, ◌&&◌, nat_eq, ◌⊎◌, inl, inr, refl, sym, ap, ◌∙◌, rules, if◌then◌else◌}
use Rattle.std.specs.declared.cmp.Ordering.{Ordering}
use Rattle.std.specs.declared.cmp.Ordering.TheVariants.{Less, Equal, Greater}
use Rattle.std.specs.Cmp.{IsTotalOrder}
use Rattle.std.specs.Cmp.Rules.{comparing}
use Rattle.std.specs.List.{list_any, AllByRecursion}
use Rattle.std.specs.List.Sorted.{IsPermutation, IsStrictlySortedBy}
use Rattle.std.specs.Str.{bytes_eq}
use Rattle.std.specs.Ordering.{is_eq, is_lt, ordering_reverse}
use Rattle.std.proofs.lemmas.Bool.{or_parts}
use Rattle.std.proofs.lemmas.Bool.Decides.{Decides-eqb}
use Rattle.std.proofs.lemmas.List.Sorted.{IsPermutation-refl, IsPermutation-cons, IsPermutation-trans, IsPermutation-middle}
use Rattle.std.proofs.lemmas.Map.Text.{is_eq-slice_cmp}
use Rattle.gi_pairs.specs.Direction.{place_of}
use Rattle.gi_pairs.specs.Key.{code_cmp}
use Rattle.gi_pairs.specs.declared.direction.Direction.{Direction}
use Rattle.gi_pairs.proofs.Building.{In}
use Rattle.gi_pairs.proofs.Members.{from_filter}
use Rattle.gi_messages.specs.declared.nomination_line.NominationLine.{NominationLine}
use Rattle.gi_nominations.specs.Lines.{has_twins, is_twin}
use Rattle.gi_processing.specs.Reduction.{AreOrdered, by_counterparty, counterparties, in_direction, is_in, with_line}

-- ---- the order of codes

pub code_total : IsTotalOrder code_cmp
code_total = search (comparing, rules)

equal_from_flip : (o : Ordering) → o ≡ ordering_reverse o → o ≡ Equal
equal_from_flip Less e = cc
equal_from_flip Equal e = refl
equal_from_flip Greater e = cc

pub code_refl : (a : List ℕ) → code_cmp a a ≡ Equal
code_refl a = equal_from_flip (code_cmp a a) (code_total.antisymm a a)

-- a code that comes before another is not before it the other way round
pub code_above : (a b : List ℕ) → code_cmp a b ≡ Less → code_cmp b a ≡ Greater
code_above a b less = code_total.antisymm b a ∙ ap ordering_reverse less

pub less_from_not : (a b : List ℕ) (o : Ordering) → code_cmp a b ≡ o → is_lt o ≡ false → is_eq o ≡ false → code_cmp b a ≡ Less
less_from_not a b Less e not_less apart = cc
less_from_not a b Equal e not_less apart = cc
less_from_not a b Greater e not_less apart = code_total.antisymm b a ∙ ap ordering_reverse e

less_from_test : (o : Ordering) → is_lt o ≡ true → o ≡ Less
less_from_test Less e = refl
less_from_test Equal e = cc
less_from_test Greater e = cc

-- ---- the lines in order are the lines

with_line-permutation : (line : NominationLine) (xs : List NominationLine) → IsPermutation (line ∷ xs) (with_line line xs)
with_line-permutation line [] = IsPermutation-refl (line ∷ [])
with_line-permutation line (x ∷ xs) = placed (is_lt (code_cmp line.counterparty x.counterparty)) (with_line line xs) (with_line-permutation line xs)
  where
    placed : (b : Bool) (with_it : List NominationLine) → IsPermutation (line ∷ xs) with_it → IsPermutation (line ∷ x ∷ xs) (if b then line ∷ x ∷ xs else x ∷ with_it)
    placed true with_it h = IsPermutation-refl (line ∷ x ∷ xs)
    placed false with_it h = IsPermutation-trans (line ∷ x ∷ xs) (x ∷ line ∷ xs) (x ∷ with_it) (IsPermutation-middle (line ∷ []) x xs) (IsPermutation-cons x (line ∷ xs) with_it h)

pub by_counterparty-permutation : (lines : List NominationLine) → IsPermutation lines (by_counterparty lines)
by_counterparty-permutation [] = IsPermutation-refl []
by_counterparty-permutation (line ∷ lines) =
    IsPermutation-trans (line ∷ lines) (line ∷ by_counterparty lines) (with_line line (by_counterparty lines))
    (IsPermutation-cons line lines (by_counterparty lines) (by_counterparty-permutation lines)) (with_line-permutation line (by_counterparty lines))

-- ---- and ascend, where no two are for one counterparty

deeper : {A B C : Type 0} → (B → C) → A ⊎ B → A ⊎ C
deeper f (inl a) = inl a
deeper f (inr b) = inr (f b)

behind : {A B C : Type 0} → B ⊎ (A ⊎ C) → A ⊎ (B ⊎ C)
behind (inl e) = inr (inl e)
behind (inr (inl e)) = inl e
behind (inr (inr k)) = inr (inr k)

in_with_line : (r line : NominationLine) (xs : List NominationLine) → In r (with_line line xs) → In r (line ∷ xs)
in_with_line r line [] h = h
in_with_line r line (x ∷ xs) h = chosen (is_lt (code_cmp line.counterparty x.counterparty)) (with_line line xs) (in_with_line r line xs) h
  where
    chosen : (b : Bool) (with_it : List NominationLine) → (In r with_it → In r (line ∷ xs)) → In r (if b then line ∷ x ∷ xs else x ∷ with_it) → In r (line ∷ x ∷ xs)
    chosen true with_it f h = h
    chosen false with_it f h = behind (deeper f h)

-- what stands in order stands among the lines
pub in_by_counterparty : (r : NominationLine) (lines : List NominationLine) → In r (by_counterparty lines) → In r lines
in_by_counterparty r [] h = h
in_by_counterparty r (line ∷ lines) h = deeper (in_by_counterparty r lines) (in_with_line r line (by_counterparty lines) h)

all_above : (k l : List ℕ) (ks : List (List ℕ)) → code_cmp k l ≡ Less → AllByRecursion (λ y. code_cmp l y ≡ Less) ks → AllByRecursion (λ y. code_cmp k y ≡ Less) ks
all_above k l [] less h = tt
all_above k l (m ∷ ms) less h = (code_total.trans k l m less h.0, all_above k l ms less h.1)

all_above_with : (k : List ℕ) (line : NominationLine) (xs : List NominationLine) → code_cmp k line.counterparty ≡ Less → AllByRecursion (λ y. code_cmp k y ≡ Less) (counterparties xs)
    → AllByRecursion (λ y. code_cmp k y ≡ Less) (counterparties (with_line line xs))
all_above_with k line [] less h = (less, tt)
all_above_with k line (x ∷ xs) less h = chosen (is_lt (code_cmp line.counterparty x.counterparty)) (with_line line xs) (all_above_with k line xs less h.1)
  where
    chosen : (b : Bool) (with_it : List NominationLine) → AllByRecursion (λ y. code_cmp k y ≡ Less) (counterparties with_it)
        → AllByRecursion (λ y. code_cmp k y ≡ Less) (counterparties (if b then line ∷ x ∷ xs else x ∷ with_it))
    chosen true with_it rest = (less, h)
    chosen false with_it rest = (h.0, rest)

ordered_with_line : (line : NominationLine) (xs : List NominationLine) → AreOrdered xs → ((r : NominationLine) → In r xs → is_eq (code_cmp line.counterparty r.counterparty) ≡ false) → AreOrdered (with_line line xs)
unfolding IsStrictlySortedBy
ordered_with_line line [] s apart = (tt, tt)
ordered_with_line line (x ∷ xs) s apart = placed (is_lt (code_cmp line.counterparty x.counterparty)) refl (ordered_with_line line xs s.1 (λ r h. apart r (inr h)))
  where
    placed : (b : Bool) → is_lt (code_cmp line.counterparty x.counterparty) ≡ b → AreOrdered (with_line line xs) → AreOrdered (if b then line ∷ x ∷ xs else x ∷ with_line line xs)
    placed true e rest =
        let less = less_from_test (code_cmp line.counterparty x.counterparty) e in
        ((less, all_above line.counterparty x.counterparty (counterparties xs) less s.0), s)
    placed false e rest =
        let above = less_from_not line.counterparty x.counterparty (code_cmp line.counterparty x.counterparty) refl e (apart x (inl refl)) in
        (all_above_with x.counterparty line xs above s.0, rest)

none_in : (line r : NominationLine) (lines : List NominationLine) → list_any (is_twin line) lines ≡ false → In r lines → is_twin line r ≡ false
none_in line r [] e h = absurd h
none_in line r (x ∷ xs) e (inl is) = ap (is_twin line) (sym is) ∙ (or_parts _ _ e).0
none_in line r (x ∷ xs) e (inr h) = none_in line r xs ((or_parts _ _ e).1) h

other_part : (a b : Bool) → (a && b) ≡ false → b ≡ true → a ≡ false
other_part a true e is = and_true a e
  where
    and_true : (a : Bool) → (a && true) ≡ false → a ≡ false
    and_true true e = cc
    and_true false e = refl
other_part a false e is = cc

-- lines of one direction that are no twins are for two counterparties
apart_in : (direction : Direction) (a b : NominationLine) → is_twin a b ≡ false → is_in direction a ≡ true → is_in direction b ≡ true → is_eq (code_cmp a.counterparty b.counterparty) ≡ false
apart_in direction a b e here there =
    let a_is : place_of a.direction ≡ place_of direction = (Decides-eqb (place_of a.direction) (place_of direction)).0 here in
    let b_is : place_of b.direction ≡ place_of direction = (Decides-eqb (place_of b.direction) (place_of direction)).0 there in
    is_eq-slice_cmp a.counterparty b.counterparty
    ∙ other_part (bytes_eq a.counterparty b.counterparty) (nat_eq (place_of a.direction) (place_of b.direction)) e ((Decides-eqb (place_of a.direction) (place_of b.direction)).1 (a_is ∙ sym b_is))

-- without twins, the lines of a direction have one order, and ascend in it
pub are_ordered : (direction : Direction) (lines : List NominationLine) → has_twins lines ≡ false → AreOrdered (by_counterparty (in_direction direction lines))
unfolding IsStrictlySortedBy
are_ordered direction [] e = tt
are_ordered direction (x ∷ xs) e = by_test (is_in direction x) refl (are_ordered direction xs ((or_parts _ _ e).1))
  where
    by_test : (b : Bool) → is_in direction x ≡ b → AreOrdered (by_counterparty (in_direction direction xs)) → AreOrdered (by_counterparty (cond b (x ∷ in_direction direction xs) (in_direction direction xs)))
    by_test false is rest = rest
    by_test true is rest =
        ordered_with_line x (by_counterparty (in_direction direction xs)) rest
        (λ r h. let there = from_filter (is_in direction) r xs (in_by_counterparty r (in_direction direction xs) h) in
        apart_in direction x r (none_in x r xs ((or_parts _ _ e).0) there.0) is there.1)
