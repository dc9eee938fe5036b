-- The numbers of the first and of the last fact that is so.
use Rattle.std.proofs.Common.{arith, ◌≡◌, ◌<◌, ◌≤◌, ◌+◌, ◌-◌, ℕ, suc, List, [], ◌∷◌, ◌++◌, length, take, reverse, drop, get_or, Bool, true, false, not, cond, ◌||◌, Option, Some, None, refl, sym, ap, ◌∙◌, subst, take_all, length-append}
use Rattle.std.specs.Prelude.{slice_get}
use Rattle.std.specs.List.{list_any}
use Rattle.std.specs.Option.{option_map_or}
use Rattle.std.proofs.lemmas.Bool.{or_parts}
use Rattle.std.proofs.lemmas.List.{length-take, reverse-append, take-append-drop, take_more}
use Rattle.std.proofs.lemmas.List.Folds.{list_any-append}
use Rattle.std.proofs.lemmas.List.Sums.{take_while-cons}
use Rattle.std.proofs.lemmas.Option.{slice_get-get_or}
use Rattle.gi_pairs.specs.declared.side.Side.{Side}
use Rattle.gi_facts.specs.declared.fact.Fact.{Fact}
use Rattle.gi_desk.specs.History.{facts_before, is_closing, is_meeting, number_of}
use Rattle.gi_desk.specs.Queries.{fact_at}
use Rattle.gi_desk.proofs.StageLaws.{all_before}
use Rattle.gi_desk.proofs.StateLaws.{facts_before-more}
use Rattle.gi_explanations.specs.Numbers.{counting, first_number, is_contract, is_nomination, is_notice, last_number, numbers, own}
use Rattle.gi_explanations.specs.declared.question.Question.{Question}

abbrev pub Test : Type 0
Test = Fact → Bool

-- ---- the facts before the first that is so

-- how many there are
abbrev pub skipped : Test → List Fact → ℕ
skipped is facts = length (facts_before is facts)

pub before-cons : (is : Test) (fact : Fact) (facts : List Fact) → facts_before is (fact ∷ facts) ≡ cond (is fact) [] (fact ∷ facts_before is facts)
unfolding facts_before
before-cons is fact facts = take_while-cons (λ f. not (is f)) fact facts ∙ by (is fact)
  where
    by : (b : Bool) → cond (not b) (fact ∷ facts_before is facts) [] ≡ cond b [] (fact ∷ facts_before is facts)
    by true = refl
    by false = refl

before-nil : (is : Test) → facts_before is [] ≡ []
unfolding facts_before
before-nil is = refl

pub skipped-cons : (is : Test) (fact : Fact) (facts : List Fact) → skipped is (fact ∷ facts) ≡ cond (is fact) 0 (suc (skipped is facts))
skipped-cons is fact facts = ap length (before-cons is fact facts) ∙ by (is fact)
  where
    by : (b : Bool) → length (cond b [] (fact ∷ facts_before is facts)) ≡ cond b 0 (suc (skipped is facts))
    by true = refl
    by false = refl

-- they are the first so many
pub front-taken : (is : Test) (facts : List Fact) → take (skipped is facts) facts ≡ facts_before is facts
front-taken is [] = rw (before-nil is) refl
front-taken is (fact ∷ facts) =
    subst (λ (fs : List Fact). take (length fs) (fact ∷ facts) ≡ fs) (sym (before-cons is fact facts)) (by (is fact) (front-taken is facts))
  where
    by : (b : Bool) → take (skipped is facts) facts ≡ facts_before is facts
        → take (length (cond b [] (fact ∷ facts_before is facts))) (fact ∷ facts) ≡ cond b [] (fact ∷ facts_before is facts)
    by true rest = refl
    by false rest = ap (λ (fs : List Fact). fact ∷ fs) rest

pub skipped-within : (is : Test) (facts : List Fact) → skipped is facts ≤ length facts
skipped-within is [] = rw (before-nil is) (omega arith)
skipped-within is (fact ∷ facts) = subst (λ n. n ≤ length (fact ∷ facts)) (sym (skipped-cons is fact facts)) (by (is fact) (skipped-within is facts))
  where
    by : (b : Bool) → skipped is facts ≤ length facts → cond b 0 (suc (skipped is facts)) ≤ suc (length facts)
    by true rest = omega arith
    by false rest = omega (arith, rest)

-- all, where none is so
pub none-before : (is : Test) (facts : List Fact) → list_any is facts ≡ false → facts_before is facts ≡ facts
none-before is [] none = before-nil is
none-before is (fact ∷ facts) none =
    let parts = or_parts (is fact) (list_any is facts) none in
    before-cons is fact facts ∙ ap (λ (b : Bool). cond b [] (fact ∷ facts_before is facts)) parts.0 ∙ ap (λ (fs : List Fact). fact ∷ fs) (none-before is facts parts.1)

-- ---- going over the facts

pub numbered : (facts : List Fact) (before : ℕ) → fact_at facts (before + 1) ≡ slice_get facts before
numbered facts before = let next : before + 1 ≡ suc before = omega arith in rw next refl

-- the fact at a place, and the facts up to it
pub record IsAt (facts : List Fact) (i : ℕ) : Type 0 where
  pub fact : Fact
  pub found : slice_get facts i ≡ Some fact
  pub front : take (i + 1) facts ≡ take i facts ++ fact ∷ []

pub at_place : (facts : List Fact) (i : ℕ) → i < length facts → IsAt facts i
at_place [] i below = absurd (omega (arith, below))
at_place (x ∷ xs) i below = record { fact = get_or (x ∷ xs) i x; found = slice_get-get_or (x ∷ xs) i x below; front = take_more (x ∷ xs) i x below }

-- what a test of the fact of a number says
pub tested : (is : Test) (facts : List Fact) (i : ℕ) (here : IsAt facts i) (b : Bool) → b ≡ option_map_or is (fact_at facts (i + 1)) false → b ≡ is here.fact
tested is facts i here b e = e ∙ ap (λ (o : Option Fact). option_map_or is o false) (numbered facts i ∙ here.found)

-- ---- the last

counted : (is : Test) (facts : List Fact) (fact : Fact) → skipped is (reverse (facts ++ fact ∷ [])) ≡ cond (is fact) 0 (suc (skipped is (reverse facts)))
counted is facts fact = ap (skipped is) (reverse-append facts (fact ∷ [])) ∙ skipped-cons is fact (reverse facts)

pub last-more : (is : Test) (facts : List Fact) (fact : Fact) → last_number is (facts ++ fact ∷ []) ≡ cond (is fact) (length facts + 1) (last_number is facts)
unfolding last_number number_of
last-more is facts fact = by (is fact) (counted is facts fact)
  where
    long : length (facts ++ fact ∷ []) ≡ length facts + 1
    long = length-append facts (fact ∷ [])

    by : (b : Bool) → skipped is (reverse (facts ++ fact ∷ [])) ≡ cond b 0 (suc (skipped is (reverse facts)))
        → length (facts ++ fact ∷ []) + 1 - (skipped is (reverse (facts ++ fact ∷ [])) + 1)
        ≡ cond b (length facts + 1) (length facts + 1 - (skipped is (reverse facts) + 1))
    by true e = let grown = long in omega (arith, e, grown)
    by false e = let grown = long in omega (arith, e, grown)

pub last-none : (is : Test) → last_number is [] ≡ 0
unfolding last_number number_of
last-none is = let none : skipped is (reverse []) ≡ 0 = ap length (before-nil is) in omega (arith, none)

pub last-begins : (is : Test) (facts : List Fact) → 0 ≡ last_number is (take 0 facts)
last-begins is [] = sym (last-none is)
last-begins is (fact ∷ facts) = sym (last-none is)

front-long : (facts : List Fact) (i : ℕ) → i < length facts → length (take i facts) ≡ i
front-long facts i below = let long = length-take i facts in omega (arith, long, below)

pub last-step : (is : Test) (facts : List Fact) (i : ℕ) (b : Bool) (number next : ℕ) → i < length facts → b ≡ option_map_or is (fact_at facts (i + 1)) false
    → number ≡ last_number is (take i facts) → next ≡ cond b (i + 1) number → next ≡ last_number is (take (i + 1) facts)
last-step is facts i b number next below b_is number_is next_is =
    let here = at_place facts i below in
    let long = front-long facts i below in
    next_is ∙ (λ t. cond (tested is facts i here b b_is t) (i + 1) (number_is t))
    ∙ ap (λ n. cond (is here.fact) (n + 1) (last_number is (take i facts))) (sym long)
    ∙ sym (last-more is (take i facts) here.fact) ∙ ap (last_number is) (sym here.front)

-- ---- the first

pub any-begins : (is : Test) (facts : List Fact) → list_any is (take 0 facts) ≡ false
any-begins is [] = refl
any-begins is (fact ∷ facts) = refl

any-last : (is : Test) (facts : List Fact) (fact : Fact) → list_any is facts ≡ false → list_any is (facts ++ fact ∷ []) ≡ is fact
any-last is facts fact none = list_any-append is facts (fact ∷ []) ∙ ap (λ (b : Bool). b || (is fact || false)) none ∙ by (is fact)
  where
    by : (b : Bool) → (b || false) ≡ b
    by true = refl
    by false = refl

pub any-step : (is : Test) (facts : List Fact) (i : ℕ) (b : Bool) → i < length facts → b ≡ option_map_or is (fact_at facts (i + 1)) false → b ≡ false
    → list_any is (take i facts) ≡ false → list_any is (take (i + 1) facts) ≡ false
any-step is facts i b below b_is not_here none =
    let here = at_place facts i below in
    ap (list_any is) here.front ∙ any-last is (take i facts) here.fact none ∙ sym (tested is facts i here b b_is) ∙ not_here

before-last : (is : Test) (front : List Fact) (fact : Fact) → list_any is front ≡ false → is fact ≡ true → facts_before is (front ++ fact ∷ []) ≡ front
unfolding facts_before
before-last is front fact none here = all_before is front fact none here

-- a front whose last fact is the first that is so
found-in : (is : Test) (front more : List Fact) (fact : Fact) → list_any is front ≡ false → is fact ≡ true
    → Some (length front + 1) ≡ first_number is ((front ++ fact ∷ []) ++ more)
unfolding first_number number_of
found-in is front more fact none here =
    let any : list_any is (front ++ fact ∷ []) ≡ true = any-last is front fact none ∙ here in
    let all_any : list_any is ((front ++ fact ∷ []) ++ more) ≡ true = list_any-append is (front ++ fact ∷ []) more ∙ ap (λ (b : Bool). b || list_any is more) any in
    let front_is : facts_before is ((front ++ fact ∷ []) ++ more) ≡ front = facts_before-more is (front ++ fact ∷ []) more any ∙ before-last is front fact none here in
    ap (λ (fs : List Fact). Some (length fs + 1)) (sym front_is) ∙ ap (λ (b : Bool). cond b (Some (skipped is ((front ++ fact ∷ []) ++ more) + 1)) None) (sym all_any)

pub first-found : (is : Test) (facts : List Fact) (i : ℕ) (b : Bool) → i < length facts → b ≡ option_map_or is (fact_at facts (i + 1)) false → b ≡ true
    → list_any is (take i facts) ≡ false → Some (i + 1) ≡ first_number is facts
first-found is facts i b below b_is so none =
    let here = at_place facts i below in
    let parts : (take i facts ++ here.fact ∷ []) ++ drop (i + 1) facts ≡ facts = ap (λ (fs : List Fact). fs ++ drop (i + 1) facts) (sym here.front) ∙ take-append-drop (i + 1) facts in
    ap (λ n. Some (n + 1)) (sym (front-long facts i below))
    ∙ found-in is (take i facts) (drop (i + 1) facts) here.fact none (sym (tested is facts i here b b_is) ∙ so) ∙ ap (first_number is) parts

none-found : (is : Test) (facts : List Fact) → list_any is facts ≡ false → None ≡ first_number is facts
unfolding first_number
none-found is facts none = ap (λ (b : Bool). cond b (Some (number_of is facts)) None) (sym none)

pub first-none : (is : Test) (facts : List Fact) (n : ℕ) → length facts ≤ n → list_any is (take n facts) ≡ false → None ≡ first_number is facts
first-none is facts n long none = none-found is facts (ap (list_any is) (sym (take_all n facts long)) ∙ none)

-- ---- how many facts stand before the first

pub record IsEnd (is : Test) (facts : List Fact) (end : ℕ) : Type 0 where
  pub front : take end facts ≡ facts_before is facts
  pub within : end ≤ length facts

end-by : (is : Test) (facts : List Fact) (any : Bool) → list_any is facts ≡ any → (end : ℕ)
    → end ≡ option_map_or (λ n. n - 1) (cond any (Some (skipped is facts + 1)) None) (length facts) → IsEnd is facts end
end-by is facts true any_is end end_is =
    let same : end ≡ skipped is facts = omega (arith, end_is) in
    record {
      front = ap (λ n. take n facts) same ∙ front-taken is facts;
      within = let few = skipped-within is facts in omega (arith, same, few);
    }
end-by is facts false any_is end end_is =
    record {
      front = take_all end facts (omega (arith, end_is)) ∙ sym (none-before is facts any_is);
      within = omega (arith, end_is);
    }

pub end-is : (is : Test) (facts : List Fact) (closing : Option ℕ) (all end : ℕ) → closing ≡ first_number is facts → all ≡ length facts
    → end ≡ option_map_or (λ n. n - 1) closing all → IsEnd is facts end
unfolding first_number number_of
end-is is facts closing all end closing_is all_is end_is =
    end-by is facts (list_any is facts) refl end (end_is ∙ (λ t. option_map_or (λ n. n - 1) (closing_is t) (all_is t)))

-- ---- all numbers

pub numbers-are : (side : Side) (facts : List Fact) (q : Question) (portfolio : List ℕ) (end nomination contract notice : ℕ) (closing meeting : Option ℕ)
    → portfolio ≡ own side q → IsEnd (is_closing q.id) facts end
    → nomination ≡ last_number (is_nomination portfolio q.id.day) (take end facts)
    → contract ≡ last_number (is_contract portfolio q.id.day q.direction) (take end facts)
    → notice ≡ last_number (is_notice q.id.day q.direction q.hour) (take end facts)
    → closing ≡ first_number (is_closing q.id) facts → meeting ≡ first_number (is_meeting q.id) facts
    → record { nomination = nomination; contract = contract; notice = notice; closing = closing; meeting = meeting } ≡ numbers side facts q
unfolding numbers
numbers-are side facts q portfolio end nomination contract notice closing meeting own_is ends nomination_is contract_is notice_is closing_is meeting_is =
    let front = ends.front in
    let nominated : nomination ≡ last_number (is_nomination (own side q) q.id.day) (counting facts q.id) = nomination_is ∙ (λ t. last_number (is_nomination (own_is t) q.id.day) (front t)) in
    let contracted : contract ≡ last_number (is_contract (own side q) q.id.day q.direction) (counting facts q.id) = contract_is ∙ (λ t. last_number (is_contract (own_is t) q.id.day q.direction) (front t)) in
    let noticed = notice_is ∙ ap (last_number (is_notice q.id.day q.direction q.hour)) front in
    λ t. record { nomination = nominated t; contract = contracted t; notice = noticed t; closing = closing_is t; meeting = meeting_is t }
