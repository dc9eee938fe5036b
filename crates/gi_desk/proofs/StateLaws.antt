-- What later facts leave as it was.
use Rattle.std.proofs.Common.{arith, ◌≡◌, ℕ, ◌≤◌, List, [], ◌∷◌, ◌++◌, length, Bool, true, false, not, cond, ◌||◌, Option, Some, None, find, refl, sym, ap, ◌∙◌, subst}
use Rattle.std.specs.Option.{option_map_or}
use Rattle.std.specs.Prelude.{take_while, filter_map, slice_get}
use Rattle.std.specs.List.{list_any, cons_option}
use Rattle.std.proofs.lemmas.List.{take-append-le}
use Rattle.std.proofs.lemmas.List.Sums.{take_while-cons}
use Rattle.gi_pairs.specs.Table.{TableContents}
use Rattle.gi_pairs.specs.declared.cycle_id.CycleId.{CycleId}
use Rattle.gi_pairs.specs.declared.side.Side.{Side}
use Rattle.gi_processing.specs.Processing.{processed}
use Rattle.gi_processing.specs.declared.rule.Rule.TheVariants.{One}
use Rattle.gi_desk.specs.History.{capacity_of, documents_of, facts_before, frozen_cycle, frozen_table, is_closed, is_closing, met_by, number_of, peer_in, peer_of, rule_in, rule_of, state_of}
use Rattle.gi_desk.specs.LetOut.{let_out}
use Rattle.gi_facts.specs.declared.fact.Fact.{Fact}

-- what one of the first n facts lets out
pub lets_out : (side : Side) (point : List ℕ) (facts more : List Fact) (n : ℕ) → n ≤ length facts → let_out side point (facts ++ more) n ≡ let_out side point facts n
unfolding let_out
lets_out side point facts more n within = rw (take-append-le n facts more within) refl

-- the facts before one that is so
later_any : (is : Fact → Bool) (fact : Fact) (facts : List Fact) → is fact ≡ false → list_any is (fact ∷ facts) ≡ true → list_any is facts ≡ true
later_any is fact facts e any = subst (λ (b : Bool). (b || list_any is facts) ≡ true) e any

before_by : (is : Fact → Bool) (b : Bool) (fact : Fact) (facts more : List Fact) → is fact ≡ b → (list_any is facts ≡ true → take_while (λ f. not (is f)) (facts ++ more) ≡ take_while (λ f. not (is f)) facts)
    → list_any is (fact ∷ facts) ≡ true
    → cond (not (is fact)) (fact ∷ take_while (λ f. not (is f)) (facts ++ more)) [] ≡ cond (not (is fact)) (fact ∷ take_while (λ f. not (is f)) facts) []
before_by is true fact facts more e rest any = rw e refl
before_by is false fact facts more e rest any = rw e (ap (λ (fs : List Fact). fact ∷ fs) (rest (later_any is fact facts e any)))

before-more : (is : Fact → Bool) (facts more : List Fact) → list_any is facts ≡ true → take_while (λ f. not (is f)) (facts ++ more) ≡ take_while (λ f. not (is f)) facts
before-more is [] more any = absurd cc
before-more is (fact ∷ facts) more any =
    take_while-cons (λ f. not (is f)) fact (facts ++ more) ∙ before_by is (is fact) fact facts more refl (before-more is facts more) any
    ∙ sym (take_while-cons (λ f. not (is f)) fact facts)

pub facts_before-more : (is : Fact → Bool) (facts more : List Fact) → list_any is facts ≡ true → facts_before is (facts ++ more) ≡ facts_before is facts
unfolding facts_before
facts_before-more is facts more any = before-more is facts more any

-- the rule by which a cycle was closed
find_by : (is : Fact → Bool) (fact : Fact) (b : Bool) (facts more : List Fact) → is fact ≡ b → (list_any is facts ≡ true → find is (facts ++ more) ≡ find is facts) → (b || list_any is facts) ≡ true
    → cond b (Some fact) (find is (facts ++ more)) ≡ cond b (Some fact) (find is facts)
find_by is fact true facts more e rest any = refl
find_by is fact false facts more e rest any = rest any

find-more : (is : Fact → Bool) (facts more : List Fact) → list_any is facts ≡ true → find is (facts ++ more) ≡ find is facts
find-more is [] more any = absurd cc
find-more is (fact ∷ facts) more any = find_by is fact (is fact) facts more refl (find-more is facts more) any

pub rule_of-more : (id : CycleId) (facts more : List Fact) → is_closed id facts ≡ true → rule_of id (facts ++ more) ≡ rule_of id facts
unfolding rule_of is_closed
rule_of-more id facts more closed = ap (λ (o : Option Fact). option_map_or rule_in o One) (find-more (is_closing id) facts more closed)

-- the frozen quantities of a closed cycle
pub frozen_table-more : (side : Side) (facts more : List Fact) (id : CycleId) → is_closed id facts ≡ true → frozen_table side (facts ++ more) id ≡ frozen_table side facts id
unfolding frozen_table is_closed
frozen_table-more side facts more id closed =
    let before = facts_before-more (is_closing id) facts more closed in
    let rule = rule_of-more id facts more closed in
    λ i. processed (capacity_of (before i)) (documents_of (before i)) side id.day id.cycle (rule i)

-- a closed cycle stays closed
any_by : {X : Type 0} (test : X → Bool) (b : Bool) (xs ys : List X) → (list_any test xs ≡ true → list_any test (xs ++ ys) ≡ true) → (b || list_any test xs) ≡ true → (b || list_any test (xs ++ ys)) ≡ true
any_by test true xs ys rest any = refl
any_by test false xs ys rest any = rest any

pub any-more : {X : Type 0} (test : X → Bool) (xs ys : List X) → list_any test xs ≡ true → list_any test (xs ++ ys) ≡ true
any-more test [] ys any = absurd cc
any-more test (x ∷ xs) ys any = any_by test (test x) xs ys (any-more test xs ys) any

pub is_closed-more : (id : CycleId) (facts more : List Fact) → is_closed id facts ≡ true → is_closed id (facts ++ more) ≡ true
unfolding is_closed
is_closed-more id facts more closed = any-more (is_closing id) facts more closed

-- the table met first stays so
first_by : {Y : Type 0} (found : Option Y) (rest all : List Y) (y : Y) → (slice_get rest 0 ≡ Some y → slice_get all 0 ≡ Some y) → slice_get (cons_option found rest) 0 ≡ Some y
    → slice_get (cons_option found all) 0 ≡ Some y
first_by None rest all y later e = later e
first_by (Some z) rest all y later e = e

first-more : {X Y : Type 0} (h : X → Option Y) (xs ys : List X) (y : Y) → slice_get (filter_map h xs) 0 ≡ Some y → slice_get (filter_map h (xs ++ ys)) 0 ≡ Some y
first-more h [] ys y e = absurd cc
first-more h (x ∷ xs) ys y e = first_by (h x) (filter_map h xs) (filter_map h (xs ++ ys)) y (first-more h xs ys y) e

pub peer_of-more : (id : CycleId) (facts more : List Fact) (peer : TableContents) → peer_of id facts ≡ Some peer → peer_of id (facts ++ more) ≡ Some peer
unfolding peer_of
peer_of-more id facts more peer met = first-more (peer_in id) facts more peer met

-- how far a closed cycle is
pub state-closed : (side : Side) (facts : List Fact) (id : CycleId) → is_closed id facts ≡ true → state_of side facts id ≡ met_by (frozen_cycle side facts id) (peer_of id facts)
unfolding state_of
state-closed side facts id closed = rw closed refl

-- a matched cycle stays as it is
pub state_of-more : (side : Side) (facts more : List Fact) (id : CycleId) (peer : TableContents) → is_closed id facts ≡ true → peer_of id facts ≡ Some peer
    → state_of side (facts ++ more) id ≡ state_of side facts id
unfolding state_of
state_of-more side facts more id peer closed met =
    rw (closed, is_closed-more id facts more closed, met, peer_of-more id facts more peer met, frozen_table-more side facts more id closed) refl

-- the number of a fact is at least 1
pub number_of-from : (is : Fact → Bool) (facts : List Fact) → 1 ≤ number_of is facts
unfolding number_of
number_of-from is facts = omega arith
