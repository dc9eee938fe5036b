-- Schedules of two sides that have confirmed the same.
use Rattle.std.proofs.Common.{◌≡◌, ℕ, zero, suc, List, [], ◌∷◌, ◌++◌, take, filter, Bool, true, false, cond, inl, inr, Option, Some, None, Less, Greater, refl, sym, ap, ◌∙◌, subst, is_some, true≢false, nat_eq, arith}
use Rattle.std.specs.Prelude.{if◌then◌else◌, ◌||◌, option_map}
use Rattle.std.specs.Cmp.{IsTotalOrder}
use Rattle.std.specs.List.{AllByRecursion, cons_option}
use Rattle.std.specs.List.Sorted.{IsStrictlySortedBy}
use Rattle.std.specs.Ordering.{ordering_reverse}
use Rattle.std.proofs.lemmas.Bool.{and_parts}
use Rattle.std.proofs.lemmas.Bool.Decides.{nat_tests}
use Rattle.std.proofs.lemmas.Cmp.{int_cmp_total, nat_cmp_total, on_total, then_total}
use Rattle.std.proofs.lemmas.List.Kept.{IsStrictlySortedBy-filter}
use Rattle.std.proofs.lemmas.List.Sorted.{Contains-permutation}
use Rattle.std.proofs.lemmas.Map.Keys.{sorted_head, sorted_tail}
use Rattle.jiff_core.specs.Date.{epoch_day}
use Rattle.gi_pairs.specs.CycleId.{cycle_cmp}
use Rattle.gi_pairs.specs.Table.{TableContents}
use Rattle.gi_pairs.specs.declared.cycle_id.CycleId.{CycleId}
use Rattle.gi_pairs.specs.declared.side.Side.{Side}
use Rattle.gi_pairs.proofs.Building.{In, contains_from_in, in_from_contains}
use Rattle.gi_facts.specs.Same.{same_cycle}
use Rattle.gi_facts.specs.declared.fact.Fact.{Fact}
use Rattle.gi_facts.specs.declared.fact.Fact.TheVariants.{Closed, Contracted, Met, Nominated, Noticed}
use Rattle.gi_facts.proofs.SameLemmas.{same_cycle-is}
use Rattle.gi_desk.specs.History.{closing_in, closings, is_closed, peer_of}
use Rattle.gi_desk.specs.Machine.{DeskState, bad_fact}
use Rattle.gi_desk.specs.Queries.{confirmed}
use Rattle.gi_desk.proofs.Confirmed.{met_closed}
use Rattle.gi_desk.proofs.Legality.{legal-front}
use Rattle.gi_reports.specs.Cycles.{AreClosedCycles}
use Rattle.gi_schedule.specs.InForce.{Confirmed, cycle_of, last_confirmed}
use Rattle.gi_schedule.specs.Lines.{IsSchedule, is_listed, is_number, lines_if, schedule, schedules}
use Rattle.gi_schedule.specs.declared.schedule_line.ScheduleLine.{ScheduleLine}
use Rattle.gi_schedule.specs.declared.wanted.Wanted.{Wanted}
use Rattle.gi_schedule.proofs.InForceLemmas.{last_found}

-- ---- two strictly sorted lists of the same cycles are one list

total : IsTotalOrder cycle_cmp
total = then_total (on_total (λ (id : CycleId). epoch_day id.day) int_cmp_total) (on_total (λ (id : CycleId). id.cycle) nat_cmp_total)

not_less_self : (a : CycleId) → cycle_cmp a a ≡ Less → ⊥
not_less_self a less = let turned : Less ≡ Greater = sym less ∙ total.antisymm a a ∙ ap ordering_reverse less in cc

not_both_less : (a b : CycleId) → cycle_cmp a b ≡ Less → cycle_cmp b a ≡ Less → ⊥
not_both_less a b here there = let turned : Less ≡ Greater = sym here ∙ total.antisymm a b ∙ ap ordering_reverse there in cc

less_in : (k : CycleId) (xs : List CycleId) (r : CycleId) → AllByRecursion (λ y. cycle_cmp k y ≡ Less) xs → In r xs → cycle_cmp k r ≡ Less
less_in k [] r all h = absurd h
less_in k (x ∷ xs) r all (inl is) = subst (λ (w : CycleId). cycle_cmp k w ≡ Less) is all.0
less_in k (x ∷ xs) r all (inr h) = less_in k xs r all.1 h

not_in_rest : (x r : CycleId) (xs : List CycleId) → IsStrictlySortedBy cycle_cmp (x ∷ xs) → x ≡ r → In r xs → ⊥
not_in_rest x r xs sorted same h = not_less_self r (subst (λ (w : CycleId). cycle_cmp w r ≡ Less) same (less_in x xs r (sorted_head cycle_cmp x xs sorted) h))

same_heads : (x y : CycleId) (xs ys : List CycleId) → IsStrictlySortedBy cycle_cmp (x ∷ xs) → IsStrictlySortedBy cycle_cmp (y ∷ ys) → In x (y ∷ ys) → In y (x ∷ xs) → x ≡ y
same_heads x y xs ys sx sy (inl e) h = sym e
same_heads x y xs ys sx sy (inr h) (inl e) = e
same_heads x y xs ys sx sy (inr h) (inr k) =
    absurd (not_both_less x y (less_in x xs y (sorted_head cycle_cmp x xs sx) k) (less_in y ys x (sorted_head cycle_cmp y ys sy) h))

in_rest : (x y r : CycleId) (xs ys : List CycleId) → IsStrictlySortedBy cycle_cmp (x ∷ xs) → x ≡ y → In r xs → In r (y ∷ ys) → In r ys
in_rest x y r xs ys sorted same h (inl e) = absurd (not_in_rest x r xs sorted (same ∙ e) h)
in_rest x y r xs ys sorted same h (inr k) = k

same_cycles : (xs ys : List CycleId) → IsStrictlySortedBy cycle_cmp xs → IsStrictlySortedBy cycle_cmp ys
    → ((id : CycleId) → In id xs → In id ys) → ((id : CycleId) → In id ys → In id xs) → xs ≡ ys
same_cycles [] [] sx sy f g = refl
same_cycles [] (y ∷ ys) sx sy f g = absurd (g y (inl refl))
same_cycles (x ∷ xs) [] sx sy f g = absurd (f x (inl refl))
same_cycles (x ∷ xs) (y ∷ ys) sx sy f g =
    let same : x ≡ y = same_heads x y xs ys sx sy (f x (inl refl)) (g y (inl refl)) in
    let rest : xs ≡ ys = same_cycles xs ys (sorted_tail cycle_cmp x xs sx) (sorted_tail cycle_cmp y ys sy)
    (λ r h. in_rest x y r xs ys sx same h (f r (inr h)))
    (λ r h. in_rest y x r ys xs sy (sym same) h (g r (inr h))) in
    cc

-- ---- the cycles that are confirmed

abbrev Test : Type 0
Test = CycleId → Bool

in_filter : (test : Test) (xs : List CycleId) (id : CycleId) → In id xs → test id ≡ true → In id (filter test xs)
in_filter test [] id h passes = absurd h
in_filter test (x ∷ xs) id (inl is) passes =
    let here : test x ≡ true = ap test is ∙ passes in subst (λ b. In id (cond b (x ∷ filter test xs) (filter test xs))) (sym here) (inl is)
in_filter test (x ∷ xs) id (inr h) passes = by (test x) (in_filter test xs id h passes)
  where
    by : (b : Bool) → In id (filter test xs) → In id (cond b (x ∷ filter test xs) (filter test xs))
    by true rest = inr rest
    by false rest = rest

from_filter : (test : Test) (xs : List CycleId) (id : CycleId) → In id (filter test xs) → In id xs × (test id ≡ true)
from_filter test [] id h = absurd h
from_filter test (x ∷ xs) id h = by (test x) refl h (from_filter test xs id)
  where
    by : (b : Bool) → test x ≡ b → In id (cond b (x ∷ filter test xs) (filter test xs)) → (In id (filter test xs) → In id xs × (test id ≡ true)) → In id (x ∷ xs) × (test id ≡ true)
    by true is (inl e) rest = (inl e, ap test (sym e) ∙ is)
    by true is (inr k) rest = let later = rest k in (inr later.0, later.1)
    by false is k rest = let later = rest k in (inr later.0, later.1)

abbrev is_confirmed : Confirmed → Test
is_confirmed c id = is_some (c id)

-- a cycle that is not confirmed adds nothing
unconfirmed_none : (c : Confirmed) (wanted : Wanted) (id : CycleId) → is_confirmed c id ≡ false → lines_if c wanted id ≡ []
unfolding is_listed
unconfirmed_none c wanted id none = by (is_listed c wanted id) refl
  where
    same_number : (n m : ℕ) → nat_eq n m ≡ true → n ≡ m
    same_number n m e = grind (arith, nat_tests)

    found : (n : ℕ) (o : Option ℕ) → is_number n o ≡ true → o ≡ Some n
    found n None e = absurd (true≢false (sym e))
    found n (Some m) e = ap Some (sym (same_number n m e))

    by : (b : Bool) → is_listed c wanted id ≡ b → (if b then schedule c wanted.portfolio id.day else []) ≡ []
    by false is = refl
    by true is =
        let last = found id.cycle (last_confirmed c id.day) (and_parts _ _ is).1 in
        let some : is_some (c id) ≡ true = last_found (λ cycle. is_some (c (cycle_of id.day cycle))) _ id.cycle last in
        absurd (true≢false (sym some ∙ none))

schedules_confirmed : (c : Confirmed) (wanted : Wanted) (ids : List CycleId) → schedules c wanted ids ≡ schedules c wanted (filter (is_confirmed c) ids)
schedules_confirmed c wanted [] = refl
schedules_confirmed c wanted (id ∷ ids) = by (is_confirmed c id) refl (schedules_confirmed c wanted ids)
  where
    by : (b : Bool) → is_confirmed c id ≡ b → schedules c wanted ids ≡ schedules c wanted (filter (is_confirmed c) ids)
        → lines_if c wanted id ++ schedules c wanted ids ≡ schedules c wanted (cond b (id ∷ filter (is_confirmed c) ids) (filter (is_confirmed c) ids))
    by true is rest = ap (λ (l : List ScheduleLine). lines_if c wanted id ++ l) rest
    by false is rest = ap (λ (l : List ScheduleLine). l ++ schedules c wanted ids) (unconfirmed_none c wanted id is) ∙ rest

-- ---- a confirmed cycle is closed

closed_in : (id : CycleId) (facts : List Fact) → is_closed id facts ≡ true → In id (closings facts)
unfolding is_closed closings
closed_in id [] e = absurd (true≢false (sym e))
closed_in id (Contracted contract ∷ facts) e = closed_in id facts e
closed_in id (Noticed notice ∷ facts) e = closed_in id facts e
closed_in id (Nominated document ∷ facts) e = closed_in id facts e
closed_in id (Met other peer ∷ facts) e = closed_in id facts e
closed_in id (Closed other rule ∷ facts) e = by (same_cycle other id) refl e (λ e. closed_in id facts e)
  where
    by : (b : Bool) → same_cycle other id ≡ b → (b || is_closed id facts) ≡ true → (is_closed id facts ≡ true → In id (closings facts)) → In id (other ∷ closings facts)
    by true same e rest = inl (same_cycle-is other id same)
    by false same e rest = inr (rest e)

in_more : (id : CycleId) (facts : List Fact) (n : ℕ) → In id (closings (take n facts)) → In id (closings facts)
unfolding closings
in_more id [] zero h = absurd h
in_more id [] (suc n) h = absurd h
in_more id (fact ∷ facts) zero h = absurd h
in_more id (fact ∷ facts) (suc n) h = by (closing_in fact) h (λ h. in_more id facts n h)
  where
    by : (o : Option CycleId) → In id (cons_option o (closings (take n facts))) → (In id (closings (take n facts)) → In id (closings facts)) → In id (cons_option o (closings facts))
    by None h rest = rest h
    by (Some other) (inl is) rest = inl is
    by (Some other) (inr h) rest = inr (rest h)

mapped : (f : TableContents → TableContents) (o : Option TableContents) → is_some (option_map f o) ≡ is_some o
mapped f None = refl
mapped f (Some x) = refl

confirmed_met : (side : Side) (s : DeskState) (id : CycleId) → is_some (confirmed side s id) ≡ is_some (peer_of id (take s.saved s.facts))
unfolding confirmed
confirmed_met side s id = mapped _ (peer_of id (take s.saved s.facts))

confirmed_closed : (side : Side) (s : DeskState) (id : CycleId) → bad_fact side s.point s.facts ≡ None → is_confirmed (confirmed side s) id ≡ true → In id (closings s.facts)
confirmed_closed side s id legal is = by (peer_of id (take s.saved s.facts)) refl (sym (confirmed_met side s id) ∙ is)
  where
    by : (o : Option TableContents) → peer_of id (take s.saved s.facts) ≡ o → is_some o ≡ true → In id (closings s.facts)
    by None met e = absurd (true≢false (sym e))
    by (Some peer) met e =
        in_more id s.facts s.saved (closed_in id (take s.saved s.facts) (met_closed side s.point (take s.saved s.facts) id peer (legal-front side s.point s.facts s.saved legal) met))

-- ---- the same confirmed, the same schedule

abbrev TheSame : Side → Side → DeskState → DeskState → Type 0
TheSame side other s t = (id : CycleId) → confirmed side s id ≡ confirmed other t id

-- what is confirmed among the closed cycles of one side is among those of the other
moved : (side other : Side) (s t : DeskState) (ids more : List CycleId) → bad_fact other t.point t.facts ≡ None → TheSame side other s t → AreClosedCycles t.facts more
    → (id : CycleId) → In id (filter (is_confirmed (confirmed side s)) ids) → In id (filter (is_confirmed (confirmed other t)) more)
moved side other s t ids more legal same closed id h =
    let here = from_filter (is_confirmed (confirmed side s)) ids id h in
    let there : is_confirmed (confirmed other t) id ≡ true = ap is_some (sym (same id)) ∙ here.1 in
    let in_closings = contains_from_in id (closings t.facts) (confirmed_closed other t id legal there) in
    in_filter (is_confirmed (confirmed other t)) more id (in_from_contains id more (Contains-permutation (closings t.facts) more id closed.closed in_closings)) there

pub shared : (side other : Side) (s t : DeskState) (wanted : Wanted) (lines others : List ScheduleLine) → bad_fact side s.point s.facts ≡ None → bad_fact other t.point t.facts ≡ None
    → TheSame side other s t → IsSchedule side s wanted lines → IsSchedule other t wanted others → lines ≡ others
shared side other s t wanted lines others legal legal_too same one two =
    let c = confirmed side s in
    let d = confirmed other t in
    let all : c ≡ d = λ i id. same id i in
    let first = filter (is_confirmed c) one.ids in
    let second = filter (is_confirmed d) two.ids in
    let cycles : first ≡ second = same_cycles first second (IsStrictlySortedBy-filter cycle_cmp (is_confirmed c) one.ids one.closed.sorted)
    (IsStrictlySortedBy-filter cycle_cmp (is_confirmed d) two.ids two.closed.sorted) (moved side other s t one.ids two.ids legal_too same two.closed)
    (moved other side t s two.ids one.ids legal (λ id. sym (same id)) one.closed) in
    one.listed ∙ schedules_confirmed c wanted one.ids ∙ (λ t. schedules (all t) wanted (cycles t)) ∙ sym (schedules_confirmed d wanted two.ids) ∙ sym two.listed
