-- The first fact that is so, and its number.
use Rattle.std.proofs.Common.{◌≡◌, ◌≤◌, ◌+◌, ◌-◌, ℕ, zero, suc, List, [], ◌∷◌, length, take, get_or, Bool, true, false, not, cond, ◌||◌, Some, None, is_some, refl, sym, ap, ◌∙◌, subst, arith}
use Rattle.std.specs.Prelude.{filter_map, slice_get}
use Rattle.std.specs.List.{cons_option, list_any}
use Rattle.std.proofs.lemmas.List.Sums.{take_while-cons}
use Rattle.gi_pairs.specs.Table.{TableContents}
use Rattle.gi_pairs.specs.declared.cycle_id.CycleId.{CycleId}
use Rattle.gi_facts.specs.Same.{same_cycle}
use Rattle.gi_facts.specs.declared.fact.Fact.{Fact}
use Rattle.gi_facts.specs.declared.fact.Fact.TheVariants.{Contracted, Noticed, Nominated, Closed, Met}
use Rattle.gi_facts.proofs.SameLemmas.{same_cycle-is}
use Rattle.gi_desk.specs.History.{facts_before, is_meeting, number_of, peer_in, peer_of}
use Rattle.gi_desk.specs.LetOut.{IsFact}

number_here : (is : Fact → Bool) (fact : Fact) (facts : List Fact) → is fact ≡ true → number_of is (fact ∷ facts) ≡ 1
unfolding number_of facts_before
number_here is fact facts e = rw (take_while-cons (λ f. not (is f)) fact facts, e) refl

number_later : (is : Fact → Bool) (fact : Fact) (facts : List Fact) → is fact ≡ false → number_of is (fact ∷ facts) ≡ number_of is facts + 1
unfolding number_of facts_before
number_later is fact facts e = rw (take_while-cons (λ f. not (is f)) fact facts, e) (omega arith)

number_from : (is : Fact → Bool) (facts : List Fact) → 1 ≤ number_of is facts
unfolding number_of
number_from is facts = omega arith

later_any : (is : Fact → Bool) (fact : Fact) (facts : List Fact) → is fact ≡ false → list_any is (fact ∷ facts) ≡ true → list_any is facts ≡ true
later_any is fact facts e any = subst (λ (b : Bool). (b || list_any is facts) ≡ true) e any

-- ---- among the first facts

any_by : (is : Fact → Bool) (b : Bool) (fact : Fact) (facts : List Fact) (n : ℕ) → is fact ≡ b → (list_any is (take n facts) ≡ true → number_of is facts ≤ n)
    → list_any is (fact ∷ take n facts) ≡ true → number_of is (fact ∷ facts) ≤ suc n
any_by is true fact facts n e rest any = let here = number_here is fact facts e in omega (arith, here)
any_by is false fact facts n e rest any =
    let later = number_later is fact facts e in
    let below = rest (later_any is fact (take n facts) e any) in
    omega (arith, later, below)

pub any_to : (is : Fact → Bool) (facts : List Fact) (n : ℕ) → list_any is (take n facts) ≡ true → number_of is facts ≤ n
any_to is [] zero any = absurd cc
any_to is [] (suc n) any = absurd cc
any_to is (fact ∷ facts) zero any = absurd cc
any_to is (fact ∷ facts) (suc n) any = any_by is (is fact) fact facts n refl (any_to is facts n) any

to_by : (is : Fact → Bool) (b : Bool) (fact : Fact) (facts : List Fact) (n : ℕ) → is fact ≡ b → (number_of is facts ≤ n → list_any is (take n facts) ≡ true)
    → number_of is (fact ∷ facts) ≤ suc n → list_any is (fact ∷ take n facts) ≡ true
to_by is true fact facts n e rest below = rw e refl
to_by is false fact facts n e rest below =
    let later = number_later is fact facts e in
    rw e (rest (omega (arith, later, below)))

pub to_any : (is : Fact → Bool) (facts : List Fact) (n : ℕ) → n ≤ length facts → number_of is facts ≤ n → list_any is (take n facts) ≡ true
to_any is [] n within below = absurd (omega (arith, number_from is [], within, below))
to_any is (fact ∷ facts) zero within below = absurd (omega (arith, number_from is (fact ∷ facts), below))
to_any is (fact ∷ facts) (suc n) within below = to_by is (is fact) fact facts n refl (to_any is facts n (omega (arith, within))) below

-- ---- the first one

pub record IsFirst (is : Fact → Bool) (facts : List Fact) : Type 0 where
  pub fact : Fact
  pub passes : is fact ≡ true
  pub at : IsFact facts (number_of is facts) fact

at_number : (facts : List Fact) (m n : ℕ) (fact first : Fact) → IsFact facts m fact → n ≡ m + 1 → IsFact (first ∷ facts) n fact
at_number facts zero n fact first is next = absurd (omega (arith, is.0))
at_number facts (suc m) n fact first is next =
    let to = is.1 in
    let place : n - 1 ≡ suc m = omega (arith, next) in
    let before : suc m - 1 ≡ m = omega arith in (
      omega (arith, next),
      omega (arith, next, to),
      is.2 ∙ ap (λ (i : ℕ). get_or facts i fact) before ∙ sym (ap (λ (i : ℕ). get_or (first ∷ facts) i fact) place),
    )

first_by : (is : Fact → Bool) (b : Bool) (fact : Fact) (facts : List Fact) → is fact ≡ b → (list_any is facts ≡ true → IsFirst is facts) → list_any is (fact ∷ facts) ≡ true
    → IsFirst is (fact ∷ facts)
first_by is true fact facts e rest any =
    let here = number_here is fact facts e in
    let place : number_of is (fact ∷ facts) - 1 ≡ 0 = omega (arith, here) in
    record {
      fact = fact;
      passes = e;
      at = (omega (arith, here), omega (arith, here), sym (ap (λ (i : ℕ). get_or (fact ∷ facts) i fact) place));
    }
first_by is false fact facts e rest any =
    let found = rest (later_any is fact facts e any) in
    record {
      fact = found.fact;
      passes = found.passes;
      at = at_number facts (number_of is facts) (number_of is (fact ∷ facts)) found.fact fact found.at (number_later is fact facts e);
    }

pub first_fact : (is : Fact → Bool) (facts : List Fact) → list_any is facts ≡ true → IsFirst is facts
first_fact is [] any = absurd cc
first_fact is (fact ∷ facts) any = first_by is (is fact) fact facts refl (first_fact is facts) any

-- ---- meetings

pub meeting_is : (id : CycleId) (fact : Fact) → is_meeting id fact ≡ true → (peer : TableContents) × (fact ≡ Met id peer)
meeting_is id (Contracted contract) e = absurd cc
meeting_is id (Noticed notice) e = absurd cc
meeting_is id (Nominated document) e = absurd cc
meeting_is id (Closed other rule) e = absurd cc
meeting_is id (Met other peer) e = (peer, ap (λ (cycle : CycleId). Met cycle peer) (same_cycle-is other id e))

first_met : (b : Bool) (peer : TableContents) (rest : List TableContents) (any : Bool) → is_some (slice_get rest 0) ≡ any
    → is_some (slice_get (cons_option (cond b (Some peer) None) rest) 0) ≡ (b || any)
first_met true peer rest any e = refl
first_met false peer rest any e = e

any_met : (id : CycleId) (facts : List Fact) → is_some (slice_get (filter_map (peer_in id) facts) 0) ≡ list_any (is_meeting id) facts
any_met id [] = refl
any_met id (Contracted contract ∷ facts) = any_met id facts
any_met id (Noticed notice ∷ facts) = any_met id facts
any_met id (Nominated document ∷ facts) = any_met id facts
any_met id (Closed other rule ∷ facts) = any_met id facts
any_met id (Met other peer ∷ facts) = first_met (same_cycle other id) peer (filter_map (peer_in id) facts) (list_any (is_meeting id) facts) (any_met id facts)

pub met_any : (id : CycleId) (facts : List Fact) → is_some (peer_of id facts) ≡ list_any (is_meeting id) facts
unfolding peer_of
met_any id facts = any_met id facts
