-- The closing of a cycle, saved or not.
use Rattle.std.proofs.Common.{◌≡◌, ◌≤◌, ◌<◌, ℕ, List, length, take, drop, Bool, true, false, cond, Some, None, refl, sym, ap, ◌∙◌, arith}
use Rattle.std.specs.List.{list_any}
use Rattle.std.proofs.lemmas.List.{take-append-drop}
use Rattle.std.proofs.lemmas.List.Folds.{list_any-append}
use Rattle.gi_pairs.specs.declared.cycle_id.CycleId.{CycleId}
use Rattle.gi_facts.specs.declared.fact.Fact.{Fact}
use Rattle.gi_desk.specs.History.{is_closed, is_closing, number_of}
use Rattle.gi_desk.specs.Machine.{DeskState}
use Rattle.gi_desk.specs.Queries.{closing}
use Rattle.gi_audit.specs.Finding.{closing_within}
use Rattle.gi_audit.proofs.Places.{any_to, to_any}

any_of_front : (is : Fact → Bool) (facts : List Fact) (n : ℕ) → list_any is (take n facts) ≡ true → list_any is facts ≡ true
any_of_front is facts n any = ap (list_any is) (sym (take-append-drop n facts)) ∙ list_any-append is (take n facts) (drop n facts) ∙ rw any refl

-- one that is not there is not saved
pub none_saved : (s : DeskState) (id : CycleId) → None ≡ closing s.facts id → None ≡ closing_within s id
unfolding is_closed
none_saved s id none = by (list_any (is_closing id) (take s.saved s.facts)) refl
  where
    by : (b : Bool) → list_any (is_closing id) (take s.saved s.facts) ≡ b → None ≡ cond b (Some (number_of (is_closing id) s.facts)) None
    by false is = refl
    by true is = let any = any_of_front (is_closing id) s.facts s.saved is in absurd (let no : None ≡ Some (number_of (is_closing id) s.facts) = rw any at none in cc)

number_is : (s : DeskState) (id : CycleId) (n : ℕ) → Some n ≡ closing s.facts id → n ≡ number_of (is_closing id) s.facts
unfolding is_closed
number_is s id n there = by (list_any (is_closing id) s.facts) there
  where
    by : (b : Bool) → Some n ≡ cond b (Some (number_of (is_closing id) s.facts)) None → n ≡ number_of (is_closing id) s.facts
    by true e = cc
    by false e = absurd cc

-- one that comes later is not
pub late : (s : DeskState) (id : CycleId) (n : ℕ) → Some n ≡ closing s.facts id → s.saved < n → None ≡ closing_within s id
unfolding is_closed
late s id n there after = by (list_any (is_closing id) (take s.saved s.facts)) refl
  where
    by : (b : Bool) → list_any (is_closing id) (take s.saved s.facts) ≡ b → None ≡ cond b (Some (number_of (is_closing id) s.facts)) None
    by false is = refl
    by true is = absurd (omega (arith, any_to (is_closing id) s.facts s.saved is, number_is s id n there, after))

-- and one among what is saved is
pub saved : (s : DeskState) (id : CycleId) (n : ℕ) → s.saved ≤ length s.facts → Some n ≡ closing s.facts id → n ≤ s.saved → Some n ≡ closing_within s id
unfolding is_closed
saved s id n within there before =
    let number = number_is s id n there in
    rw (to_any (is_closing id) s.facts s.saved within (omega (arith, number, before))) (ap Some number)
