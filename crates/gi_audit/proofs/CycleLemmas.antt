-- The cycles that are closed at either of two desks.
use Rattle.std.proofs.Common.{◌≡◌, ◌↔◌, ◌⊎◌, inl, inr, ⊎_elim, List, [], ◌∷◌, ◌++◌, Contains, Bool, true, false, ◌||◌, IsPermutation, IsSorted, nat_eq, ℕ, ℤ, Ordering, Less, Equal, Greater, refl, sym, ap, ◌∙◌, subst, rules}
use Rattle.std.specs.Cmp.{IsEquivalence, IsTotalOrder}
use Rattle.std.specs.Cmp.Rules.{comparing}
use Rattle.std.specs.List.{dedup, list_any}
use Rattle.std.specs.List.Sorted.{IsStrictlySortedBy}
use Rattle.std.specs.Ordering.{eq_by_cmp, is_eq, int_cmp, int_eq, nat_cmp, ordering_reverse}
use Rattle.std.proofs.lemmas.Cmp.{and_equiv, int_ranked, int_cmp_total, int_eq_equiv, nat_cmp_total, nat_eq_equiv, on_equiv, on_total, then_total}
use Rattle.std.proofs.lemmas.Bool.Decides.{Decides-int_eq}
use Rattle.std.proofs.lemmas.List.Elements.{Contains-append_cases, Contains-append_left, Contains-append_right}
use Rattle.std.proofs.lemmas.List.Kept.{Contains-dedup, Contains-from_dedup, IsStrictlySortedBy-dedup}
use Rattle.std.proofs.lemmas.List.Sorted.{Contains-permutation, IsPermutation-sym}
use Rattle.jiff_core.specs.Date.{epoch_day}
use Rattle.gi_pairs.specs.CycleId.{cycle_cmp}
use Rattle.gi_pairs.specs.declared.cycle_id.CycleId.{CycleId}
use Rattle.gi_pairs.proofs.Building.{In, contains_from_in, in_from_contains}
use Rattle.gi_facts.specs.Same.{same_cycle}
use Rattle.gi_facts.specs.declared.fact.Fact.{Fact}
use Rattle.gi_facts.specs.declared.fact.Fact.TheVariants.{Contracted, Noticed, Nominated, Closed, Met}
use Rattle.gi_facts.proofs.SameLemmas.{same_cycle-is, same_cycle-self}
use Rattle.gi_desk.specs.History.{closings, is_closed, is_closing}
use Rattle.gi_desk.specs.Machine.{DeskState}
use Rattle.gi_reports.specs.Cycles.{AreClosedCycles}
use Rattle.gi_audit.specs.Cycles.{AreClosedAtEither}

-- ---- the closings of facts

in_by : (id other : CycleId) (ids : List CycleId) (b any : Bool) → same_cycle other id ≡ b → (any ≡ true → In id ids) → (b || any) ≡ true → In id (other ∷ ids)
in_by id other ids true any e rest closed = inl (same_cycle-is other id e)
in_by id other ids false any e rest closed = inr (rest closed)

closed_in : (id : CycleId) (facts : List Fact) → is_closed id facts ≡ true → In id (closings facts)
unfolding is_closed closings
closed_in id [] closed = absurd cc
closed_in id (Contracted contract ∷ later) closed = closed_in id later closed
closed_in id (Noticed notice ∷ later) closed = closed_in id later closed
closed_in id (Nominated document ∷ later) closed = closed_in id later closed
closed_in id (Closed other rule ∷ later) closed = in_by id other (closings later) (same_cycle other id) (list_any (is_closing id) later) refl (closed_in id later) closed
closed_in id (Met other peer ∷ later) closed = closed_in id later closed

or_true : (a b : Bool) → b ≡ true → (a || b) ≡ true
or_true true b e = refl
or_true false b e = e

by_in : (id other : CycleId) (ids : List CycleId) (any : Bool) → (In id ids → any ≡ true) → In id (other ∷ ids) → (same_cycle other id || any) ≡ true
by_in id other ids any rest (inl is) = ap (λ (b : Bool). b || any) (subst (λ (a : CycleId). same_cycle a id ≡ true) (sym is) (same_cycle-self id))
by_in id other ids any rest (inr later) = or_true (same_cycle other id) any (rest later)

in_closed : (id : CycleId) (facts : List Fact) → In id (closings facts) → is_closed id facts ≡ true
unfolding is_closed closings
in_closed id [] there = absurd there
in_closed id (Contracted contract ∷ later) there = in_closed id later there
in_closed id (Noticed notice ∷ later) there = in_closed id later there
in_closed id (Nominated document ∷ later) there = in_closed id later there
in_closed id (Closed other rule ∷ later) there = by_in id other (closings later) (list_any (is_closing id) later) (in_closed id later) there
in_closed id (Met other peer ∷ later) there = in_closed id later there

-- those of a desk
to_ids : (id : CycleId) (facts : List Fact) (ids : List CycleId) → AreClosedCycles facts ids → is_closed id facts ≡ true → Contains ids id
to_ids id facts ids are closed = Contains-permutation (closings facts) ids id are.closed (contains_from_in id (closings facts) (closed_in id facts closed))

from_ids : (id : CycleId) (facts : List Fact) (ids : List CycleId) → AreClosedCycles facts ids → Contains ids id → is_closed id facts ≡ true
from_ids id facts ids are there =
    in_closed id facts (in_from_contains id (closings facts) (Contains-permutation ids (closings facts) id (IsPermutation-sym (closings facts) ids are.closed) there))

-- ---- in order, each once

total : IsTotalOrder cycle_cmp
total = then_total (on_total (λ (id : CycleId). epoch_day id.day) int_cmp_total) (on_total (λ (id : CycleId). id.cycle) nat_cmp_total)

equivalence : IsEquivalence same_cycle
equivalence = and_equiv (on_equiv (λ (id : CycleId). id.day) (on_equiv epoch_day int_eq_equiv)) (on_equiv (λ (id : CycleId). id.cycle) nat_eq_equiv)

itself : (o : Ordering) → o ≡ ordering_reverse o → o ≡ Equal
itself Less e = absurd cc
itself Equal e = refl
itself Greater e = absurd cc

tied_self : (x : ℤ) → int_cmp x x ≡ Equal
tied_self x = itself (int_cmp x x) (int_cmp_total.antisymm x x)

nat_tie : (m n : ℕ) → nat_eq m n ≡ is_eq (nat_cmp m n)
nat_tie m n = search (comparing, rules)

ties : (a b : CycleId) → same_cycle a b ≡ eq_by_cmp cycle_cmp a b
ties a b = by (int_cmp (epoch_day a.day) (epoch_day b.day)) refl
  where
    apart : (o : Ordering) → int_cmp (epoch_day a.day) (epoch_day b.day) ≡ o → (o ≡ Equal → ⊥) → (eq : Bool) → int_eq (epoch_day a.day) (epoch_day b.day) ≡ eq → eq ≡ false
    apart o is other true e =
        let same = (Decides-int_eq (epoch_day a.day) (epoch_day b.day)).0 e in
        absurd (other (sym is ∙ ap (int_cmp (epoch_day a.day)) (sym same) ∙ tied_self (epoch_day a.day)))
    apart o is other false e = refl

    by : (o : Ordering) → int_cmp (epoch_day a.day) (epoch_day b.day) ≡ o → same_cycle a b ≡ eq_by_cmp cycle_cmp a b
    by Less is = rw (apart Less is (λ e. cc) (int_eq (epoch_day a.day) (epoch_day b.day)) refl, is) refl
    by Equal is =
        let same : int_eq (epoch_day a.day) (epoch_day b.day) ≡ true = (Decides-int_eq (epoch_day a.day) (epoch_day b.day)).1 (int_ranked (epoch_day a.day) (epoch_day b.day) Equal (sym is)) in
        rw (same, is) (nat_tie a.cycle b.cycle)
    by Greater is = rw (apart Greater is (λ e. cc) (int_eq (epoch_day a.day) (epoch_day b.day)) refl, is) refl

pub either-closed : (s t : DeskState) (ours theirs sorted ids : List CycleId) → AreClosedCycles s.facts ours → AreClosedCycles t.facts theirs → IsPermutation (ours ++ theirs) sorted
    → IsSorted cycle_cmp sorted → ids ≡ dedup same_cycle sorted → AreClosedAtEither s t ids
either-closed s t ours theirs sorted ids are_ours are_theirs moved in_order kept = record { closed = closed; sorted = subst (IsStrictlySortedBy cycle_cmp) (sym kept) (IsStrictlySortedBy-dedup total ties sorted in_order) }
  where
    into : (id : CycleId) → Contains (ours ++ theirs) id → Contains ids id
    into id there = subst (λ (all : List CycleId). Contains all id) (sym kept) (Contains-dedup equivalence same_cycle-is sorted id (Contains-permutation (ours ++ theirs) sorted id moved there))

    out_of : (id : CycleId) → Contains ids id → Contains (ours ++ theirs) id
    out_of id there =
        Contains-permutation sorted (ours ++ theirs) id (IsPermutation-sym (ours ++ theirs) sorted moved)
        (Contains-from_dedup same_cycle sorted id (subst (λ (all : List CycleId). Contains all id) kept there))

    closed : (id : CycleId) → Contains ids id ↔ ((is_closed id s.facts ≡ true) ⊎ (is_closed id t.facts ≡ true))
    closed id = (
      λ there.
          ⊎_elim (λ here. inl (from_ids id s.facts ours are_ours here)) (λ here. inr (from_ids id t.facts theirs are_theirs here))
          (Contains-append_cases ours theirs id (out_of id there)),
      λ is.
          ⊎_elim (λ here. into id (Contains-append_left ours theirs id (to_ids id s.facts ours are_ours here)))
          (λ here. into id (Contains-append_right ours theirs id (to_ids id t.facts theirs are_theirs here))) is,
    )
