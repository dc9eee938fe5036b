-- The closed cycles of a desk.
use Rattle.std.proofs.Common.{◌≡◌, ◌<◌, ◌≤◌, ◌+◌, ℕ, zero, suc, List, [], ◌∷◌, ◌++◌, length, take, filter_map, get_or, Bool, true, false, ◌||◌, Option, Some, None, IsPermutation, IsSorted, is_lt, nat_eq, Ordering, Less, Equal, Greater, refl, sym, ap, ◌∙◌, arith, true≢false, append_assoc, take_all}
use Rattle.std.specs.Prelude.{slice_get}
use Rattle.std.specs.Cmp.{IsEquivalence, IsTotalOrder}
use Rattle.std.specs.List.{AllByRecursion, IsDistinct, cons_option, list_any}
use Rattle.std.specs.List.Sorted.{IsStrictlySortedBy}
use Rattle.std.specs.Option.{option_and_then, option_to_list}
use Rattle.std.specs.Ordering.{int_cmp, int_eq, nat_cmp, ordering_reverse, ordering_then}
use Rattle.std.proofs.lemmas.Cmp.{and_equiv, int_cmp_total, int_eq_equiv, int_ranked, nat_cmp_total, nat_eq_equiv, on_equiv, on_total, ranked, then_total}
use Rattle.std.proofs.lemmas.Bool.{and_from, eq-eqb}
use Rattle.std.proofs.lemmas.Bool.Decides.{Decides-int_eq}
use Rattle.std.proofs.lemmas.Map.Keys.{IsDistinct-IsPermutation, apart_from_distinct, sorted_from_all_adjacent}
use Rattle.jiff_core.specs.Date.{epoch_day}
use Rattle.gi_pairs.specs.declared.cycle_id.CycleId.{CycleId}
use Rattle.gi_pairs.specs.declared.side.Side.{Side}
use Rattle.gi_facts.specs.Same.{same_cycle}
use Rattle.gi_facts.specs.declared.fact.Fact.{Fact}
use Rattle.gi_facts.specs.declared.fact.Fact.TheVariants.{Closed, Contracted, Met, Nominated, Noticed}
use Rattle.gi_desk.specs.History.{closing_in, closings, is_closed, is_closing}
use Rattle.gi_desk.specs.Laws.{ClosesOnce}
use Rattle.gi_desk.specs.Machine.{bad_fact}
use Rattle.gi_desk.specs.Queries.{fact_at}
use Rattle.gi_pairs.specs.CycleId.{cycle_cmp}

-- ---- going over the facts

pub numbered : (facts : List Fact) (before : ℕ) → fact_at facts (before + 1) ≡ slice_get facts before
numbered facts before = let next : before + 1 ≡ suc before = omega arith in rw next refl

pub no_closings : closings [] ≡ []
unfolding closings
no_closings = refl

closing_more : (facts : List Fact) (i : ℕ) → i < length facts
    → closings (take (suc i) facts) ≡ closings (take i facts) ++ option_to_list (option_and_then closing_in (slice_get facts i))
unfolding closings
closing_more [] i below = absurd (omega (arith, below))
closing_more (fact ∷ later) zero below = by (closing_in fact)
  where
    by : (found : Option CycleId) → cons_option found [] ≡ option_to_list found
    by None = refl
    by (Some id) = refl
closing_more (fact ∷ later) (suc i) below = by (closing_in fact) (closing_more later i (omega (arith, below)))
  where
    rest : List CycleId
    rest = option_to_list (option_and_then closing_in (slice_get later i))

    by : (found : Option CycleId) → filter_map closing_in (take (suc i) later) ≡ filter_map closing_in (take i later) ++ rest
        → cons_option found (filter_map closing_in (take (suc i) later)) ≡ cons_option found (filter_map closing_in (take i later)) ++ rest
    by None more = more
    by (Some id) more = ap (λ (ids : List CycleId). id ∷ ids) more

pub closed_step : (facts : List Fact) (i : ℕ) (found : Option CycleId) (ids next : List CycleId) → i < length facts → found ≡ option_and_then closing_in (fact_at facts (i + 1))
    → ids ≡ closings (take i facts) → next ≡ ids ++ option_to_list found → next ≡ closings (take (i + 1) facts)
closed_step facts i found ids next below found_is ids_is next_is =
    let here = found_is ∙ ap (option_and_then closing_in) (numbered facts i) in
    let count : suc i ≡ i + 1 = omega arith in
    next_is ∙ (λ t. ids_is t ++ option_to_list (here t)) ∙ sym (closing_more facts i below) ∙ ap (λ n. closings (take n facts)) count

pub all_closed : (facts : List Fact) (n : ℕ) (ids : List CycleId) → length facts ≤ n → ids ≡ closings (take n facts) → ids ≡ closings facts
all_closed facts n ids long is = is ∙ ap closings (take_all n facts long)

-- ---- none is closed twice

-- no later closing is of the cycle
all_apart : (id : CycleId) (facts : List Fact) → is_closed id facts ≡ false → AllByRecursion (λ other. same_cycle other id ≡ false) (closings facts)
unfolding is_closed closings
all_apart id [] fresh = tt
all_apart id (Contracted contract ∷ later) fresh = all_apart id later fresh
all_apart id (Noticed notice ∷ later) fresh = all_apart id later fresh
all_apart id (Nominated document ∷ later) fresh = all_apart id later fresh
all_apart id (Closed other rule ∷ later) fresh = by (same_cycle other id) refl (λ e. all_apart id later e)
  where
    by : (b : Bool) → same_cycle other id ≡ b → (is_closed id later ≡ false → AllByRecursion (λ other. same_cycle other id ≡ false) (closings later))
        → AllByRecursion (λ other. same_cycle other id ≡ false) (closings (Closed other rule ∷ later))
    by true e rest = absurd (true≢false (sym (ap (λ b. b || list_any (is_closing id) later) e) ∙ fresh))
    by false e rest = (e, rest (sym (ap (λ b. b || list_any (is_closing id) later) e) ∙ fresh))
all_apart id (Met other peer ∷ later) fresh = all_apart id later fresh

abbrev apart : CycleId → CycleId → Bool
apart id other = same_cycle other id

distinct_from : (side : Side) (point : List ℕ) → ClosesOnce → (before facts : List Fact) → bad_fact side point (before ++ facts) ≡ None → IsDistinct apart (closings facts)
unfolding IsDistinct closings
distinct_from side point once before [] legal = tt
distinct_from side point once before (fact ∷ later) legal =
    let rest = distinct_from side point once (before ++ fact ∷ []) later (ap (bad_fact side point) (append_assoc before (fact ∷ []) later) ∙ legal) in
    by fact legal rest
  where
    by : (fact : Fact) → bad_fact side point (before ++ fact ∷ later) ≡ None → IsDistinct apart (closings later) → IsDistinct apart (closings (fact ∷ later))
    by (Contracted contract) legal rest = rest
    by (Noticed notice) legal rest = rest
    by (Nominated document) legal rest = rest
    by (Closed id rule) legal rest = (all_apart id later (once side point before later id rule legal).1, rest)
    by (Met id peer) legal rest = rest

-- ---- in order, each once

total : IsTotalOrder cycle_cmp
total = then_total (on_total (λ (id : CycleId). epoch_day id.day) int_cmp_total) (on_total (λ (id : CycleId). id.cycle) nat_cmp_total)

tied : (a b : CycleId) → cycle_cmp a b ≡ Equal → same_cycle b a ≡ true
tied a b e = by (int_cmp (epoch_day a.day) (epoch_day b.day)) refl e
  where
    by : (o : Ordering) → int_cmp (epoch_day a.day) (epoch_day b.day) ≡ o → ordering_then o (nat_cmp a.cycle b.cycle) ≡ Equal → same_cycle b a ≡ true
    by Less is e = absurd cc
    by Equal is e =
        let days : epoch_day a.day ≡ epoch_day b.day = int_ranked (epoch_day a.day) (epoch_day b.day) Equal (sym is) in
        let numbers : a.cycle ≡ b.cycle = ranked a.cycle b.cycle Equal (sym e) in
        and_from (int_eq (epoch_day b.day) (epoch_day a.day)) (nat_eq b.cycle a.cycle) ((Decides-int_eq (epoch_day b.day) (epoch_day a.day)).1 (sym days)) (eq-eqb b.cycle a.cycle (sym numbers))
    by Greater is e = absurd cc

equivalence : IsEquivalence same_cycle
equivalence = and_equiv (on_equiv (λ (id : CycleId). id.day) (on_equiv epoch_day int_eq_equiv)) (on_equiv (λ (id : CycleId). id.cycle) nat_eq_equiv)

flips : (a b : CycleId) → apart a b ≡ apart b a
flips a b = equivalence.symm b a

strict : (ids : List CycleId) → IsDistinct apart ids → IsSorted cycle_cmp ids → IsStrictlySortedBy cycle_cmp ids
unfolding IsStrictlySortedBy
strict [] distinct sorted = tt
strict (id ∷ later) distinct sorted = sorted_from_all_adjacent total (id ∷ later) id less
  where
    differ : (a b : CycleId) (o : Ordering) → cycle_cmp a b ≡ o → is_lt (cycle_cmp b a) ≡ false → same_cycle b a ≡ false → cycle_cmp a b ≡ Less
    differ a b Less is not_less other = is
    differ a b Equal is not_less other = absurd (true≢false (sym (tied a b is) ∙ other))
    differ a b Greater is not_less other = absurd (true≢false (ap is_lt (sym (total.antisymm b a ∙ ap ordering_reverse is)) ∙ not_less))

    less : (k : ℕ) → k + 1 < length (id ∷ later) → cycle_cmp (get_or (id ∷ later) k id) (get_or (id ∷ later) (k + 1) id) ≡ Less
    less k below =
        let a = get_or (id ∷ later) k id in
        let b = get_or (id ∷ later) (k + 1) id in
        differ a b (cycle_cmp a b) refl (sorted k id (omega arith) below) (apart_from_distinct apart (id ∷ later) k (k + 1) id distinct (omega arith) below)

pub strictly : (side : Side) (point : List ℕ) (facts : List Fact) (ids : List CycleId) → ClosesOnce → bad_fact side point facts ≡ None
    → IsPermutation (closings facts) ids → IsSorted cycle_cmp ids → IsStrictlySortedBy cycle_cmp ids
strictly side point facts ids once legal same sorted =
    strict ids (IsDistinct-IsPermutation apart flips (closings facts) ids same (distinct_from side point once [] facts legal)) sorted
