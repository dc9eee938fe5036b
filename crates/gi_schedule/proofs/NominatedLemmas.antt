-- The nomination in force, fact after fact.
use Rattle.std.proofs.Common.{◌≡◌, ◌<◌, ◌≤◌, ◌+◌, ◌-◌, ℕ, zero, suc, List, [], ◌∷◌, ◌++◌, length, take, find, Bool, true, false, not, cond, unwrap_or, Option, Some, None, refl, sym, ap, ◌∙◌, subst, arith}
use Rattle.std.specs.Prelude.{if◌then◌else◌, slice_get}
use Rattle.std.proofs.lemmas.List.{reverse-append, take_all}
use Rattle.std.specs.List.{list_any}
use Rattle.jiff_core.specs.declared.civil.date.Date.{Date}
use Rattle.gi_messages.specs.declared.message.Nomint.{Nomint}
use Rattle.gi_nominations.specs.Book.{in_force, is_of}
use Rattle.gi_facts.specs.declared.fact.Fact.{Fact}
use Rattle.gi_facts.specs.declared.fact.Fact.TheVariants.{Closed, Contracted, Met, Nominated, Noticed}
use Rattle.gi_desk.specs.History.{documents_of, facts_before, is_closed, is_closing, number_of}
use Rattle.gi_desk.specs.Queries.{closing, fact_at}
use Rattle.gi_desk.proofs.HistoryLaws.{same_documents, taken-more}
use Rattle.std.proofs.lemmas.Bool.{or_parts}
use Rattle.std.proofs.lemmas.List.Sums.{take_while-cons}
use Rattle.gi_pairs.specs.declared.cycle_id.CycleId.{CycleId}
use Rattle.gi_reports.proofs.CycleLemmas.{numbered}
use Rattle.gi_schedule.specs.Nominated.{taken}

pub none_taken : (portfolio : List ℕ) (day : Date) → in_force portfolio day (documents_of []) ≡ None
unfolding in_force documents_of
none_taken portfolio day = refl

document_more : (portfolio : List ℕ) (day : Date) (documents : List Nomint) (document : Nomint)
    → in_force portfolio day (documents ++ document ∷ []) ≡ (if is_of portfolio day document then Some document else in_force portfolio day documents)
unfolding in_force
document_more portfolio day documents document = ap (find (is_of portfolio day)) (reverse-append documents (document ∷ []))

passed : (portfolio : List ℕ) (day : Date) (facts : List Fact) (fact : Fact) → documents_of (fact ∷ []) ≡ []
    → in_force portfolio day (documents_of (facts ++ fact ∷ [])) ≡ in_force portfolio day (documents_of facts)
passed portfolio day facts fact none = ap (in_force portfolio day) (same_documents facts fact none)

fact_more : (portfolio : List ℕ) (day : Date) (facts : List Fact) (fact : Fact)
    → in_force portfolio day (documents_of (facts ++ fact ∷ [])) ≡ taken portfolio day (in_force portfolio day (documents_of facts)) (Some fact)
unfolding documents_of
fact_more portfolio day facts (Contracted contract) = passed portfolio day facts (Contracted contract) refl
fact_more portfolio day facts (Noticed notice) = passed portfolio day facts (Noticed notice) refl
fact_more portfolio day facts (Closed id rule) = passed portfolio day facts (Closed id rule) refl
fact_more portfolio day facts (Met id peer) = passed portfolio day facts (Met id peer) refl
fact_more portfolio day facts (Nominated document) = ap (in_force portfolio day) (taken-more facts document) ∙ document_more portfolio day (documents_of facts) document

record IsNext (facts : List Fact) (i : ℕ) : Type 0 where
  pub fact : Fact
  pub there : slice_get facts i ≡ Some fact
  pub more : take (suc i) facts ≡ take i facts ++ fact ∷ []

next_at : (facts : List Fact) (i : ℕ) → i < length facts → IsNext facts i
next_at [] i below = absurd (omega (arith, below))
next_at (fact ∷ facts) zero below = record { fact = fact; there = refl; more = refl }
next_at (fact ∷ facts) (suc i) below =
    let rest = next_at facts i (omega (arith, below)) in
    record { fact = rest.fact; there = rest.there; more = ap (λ (l : List Fact). fact ∷ l) rest.more }

pub taken_more : (portfolio : List ℕ) (day : Date) (facts : List Fact) (i : ℕ) (found result : Option Nomint) (fact : Option Fact) → i < length facts
    → found ≡ in_force portfolio day (documents_of (take i facts)) → fact ≡ fact_at facts (i + 1) → result ≡ taken portfolio day found fact
    → result ≡ in_force portfolio day (documents_of (take (i + 1) facts))
taken_more portfolio day facts i found result fact below found_is fact_is result_is =
    let next = next_at facts i below in
    let count : suc i ≡ i + 1 = omega arith in
    let here = fact_is ∙ numbered facts i ∙ next.there in
    result_is ∙ (λ t. taken portfolio day (found_is t) (here t)) ∙ sym (fact_more portfolio day (take i facts) next.fact)
    ∙ ap (λ (l : List Fact). in_force portfolio day (documents_of l)) (sym next.more) ∙ ap (λ n. in_force portfolio day (documents_of (take n facts))) count

-- ---- the facts before a closing

abbrev Test : Type 0
Test = Fact → Bool

-- ---- the facts before the first that is so

-- how many there are
abbrev skipped : Test → List Fact → ℕ
skipped is facts = length (facts_before is facts)

before-cons : (is : Test) (fact : Fact) (facts : List Fact) → facts_before is (fact ∷ facts) ≡ cond (is fact) [] (fact ∷ facts_before is facts)
unfolding facts_before
before-cons is fact facts = take_while-cons (λ f. not (is f)) fact facts ∙ by (is fact)
  where
    by : (b : Bool) → cond (not b) (fact ∷ facts_before is facts) [] ≡ cond b [] (fact ∷ facts_before is facts)
    by true = refl
    by false = refl

before-nil : (is : Test) → facts_before is [] ≡ []
unfolding facts_before
before-nil is = refl

skipped-cons : (is : Test) (fact : Fact) (facts : List Fact) → skipped is (fact ∷ facts) ≡ cond (is fact) 0 (suc (skipped is facts))
skipped-cons is fact facts = ap length (before-cons is fact facts) ∙ by (is fact)
  where
    by : (b : Bool) → length (cond b [] (fact ∷ facts_before is facts)) ≡ cond b 0 (suc (skipped is facts))
    by true = refl
    by false = refl

-- they are the first so many
front-taken : (is : Test) (facts : List Fact) → take (skipped is facts) facts ≡ facts_before is facts
front-taken is [] = rw (before-nil is) refl
front-taken is (fact ∷ facts) =
    subst (λ (fs : List Fact). take (length fs) (fact ∷ facts) ≡ fs) (sym (before-cons is fact facts)) (by (is fact) (front-taken is facts))
  where
    by : (b : Bool) → take (skipped is facts) facts ≡ facts_before is facts
        → take (length (cond b [] (fact ∷ facts_before is facts))) (fact ∷ facts) ≡ cond b [] (fact ∷ facts_before is facts)
    by true rest = refl
    by false rest = ap (λ (fs : List Fact). fact ∷ fs) rest

skipped-within : (is : Test) (facts : List Fact) → skipped is facts ≤ length facts
skipped-within is [] = rw (before-nil is) (omega arith)
skipped-within is (fact ∷ facts) = subst (λ n. n ≤ length (fact ∷ facts)) (sym (skipped-cons is fact facts)) (by (is fact) (skipped-within is facts))
  where
    by : (b : Bool) → skipped is facts ≤ length facts → cond b 0 (suc (skipped is facts)) ≤ suc (length facts)
    by true rest = omega arith
    by false rest = omega (arith, rest)

-- all, where none is so
none-before : (is : Test) (facts : List Fact) → list_any is facts ≡ false → facts_before is facts ≡ facts
none-before is [] none = before-nil is
none-before is (fact ∷ facts) none =
    let parts = or_parts (is fact) (list_any is facts) none in
    before-cons is fact facts ∙ ap (λ (b : Bool). cond b [] (fact ∷ facts_before is facts)) parts.0 ∙ ap (λ (fs : List Fact). fact ∷ fs) (none-before is facts parts.1)

pub closing_number : (facts : List Fact) (id : CycleId) (n : ℕ) → Some n ≡ closing facts id → n ≡ length (facts_before (is_closing id) facts) + 1
unfolding number_of
closing_number facts id n is = by (is_closed id facts) is
  where
    by : (b : Bool) → Some n ≡ (if b then Some (number_of (is_closing id) facts) else None) → n ≡ length (facts_before (is_closing id) facts) + 1
    by true e = ap (λ (o : Option ℕ). unwrap_or o 0) e
    by false e = absurd cc

pub before_closing : (facts : List Fact) (id : CycleId) (n : ℕ) → Some n ≡ closing facts id → take (n - 1) facts ≡ facts_before (is_closing id) facts
before_closing facts id n is =
    let number = closing_number facts id n is in
    let count : n - 1 ≡ length (facts_before (is_closing id) facts) = omega (arith, number) in
    ap (λ m. take m facts) count ∙ front-taken (is_closing id) facts

pub closing_within : (facts : List Fact) (id : CycleId) (n : ℕ) → Some n ≡ closing facts id → n - 1 ≤ length facts
closing_within facts id n is = omega (arith, closing_number facts id n is, skipped-within (is_closing id) facts)

pub all_before : (facts : List Fact) (id : CycleId) (n : ℕ) → None ≡ closing facts id → n ≡ length facts → take n facts ≡ facts_before (is_closing id) facts
unfolding is_closed
all_before facts id n is long = take_all n facts (omega (arith, long)) ∙ sym (none-before (is_closing id) facts (by (list_any (is_closing id) facts) is))
  where
    by : (b : Bool) → None ≡ (if b then Some (number_of (is_closing id) facts) else None) → b ≡ false
    by true e = absurd cc
    by false e = refl
