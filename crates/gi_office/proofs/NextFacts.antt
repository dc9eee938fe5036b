-- Facts that come next: the first of those that are left.
use Rattle.std.proofs.Common.{◌≡◌, ◌⊎◌, inl, inr, ℕ, zero, suc, ◌+◌, ◌-◌, min, List, [], ◌∷◌, ◌++◌, length, take, drop, slice_get, Some, refl, sym, ap, ◌∙◌, subst, arith}
use Rattle.std.specs.List.{AllByRecursion}
use Rattle.std.proofs.lemmas.Bool.{cases_eq}
use Rattle.std.proofs.lemmas.List.{length-drop, take_all, take_more}
use Rattle.std.proofs.lemmas.Option.{slice_get_within, get_or_from_slice_get}
use Rattle.gi_facts.specs.Batch.{most_facts}
use Rattle.gi_facts.specs.Grammar.{IsWritable}
use Rattle.gi_facts.specs.declared.fact.Fact.{Fact}
use Rattle.gi_desk.specs.Queries.{fact_at}

pub slice_get-append : {X : Type 0} (front rest : List X) (k : ℕ) (x : X) → slice_get (front ++ rest) k ≡ Some x → (slice_get front k ≡ Some x) ⊎ ((j : ℕ) × (length front + j ≡ k) × (slice_get rest j ≡ Some x))
slice_get-append [] rest k x is = inr (k, omega arith, is)
slice_get-append (y ∷ front) rest zero x is = inl is
slice_get-append (y ∷ front) rest (suc k) x is = elim (slice_get-append front rest k x is) [
  | inl here ↦ inl here
  | inr later ↦ inr (later.0, omega (arith, later.1), later.2)
]

pub slice_get-drop : {X : Type 0} (n : ℕ) (xs : List X) (k : ℕ) → slice_get (drop n xs) k ≡ slice_get xs (n + k)
slice_get-drop zero xs k = let e : k ≡ 0 + k = omega arith in ap (λ (i : ℕ). slice_get xs i) e
slice_get-drop (suc n) [] k = refl
slice_get-drop (suc n) (x ∷ xs) k = let e : suc (n + k) ≡ suc n + k = omega arith in slice_get-drop n xs k ∙ ap (λ (i : ℕ). slice_get (x ∷ xs) i) e

next_more : {X : Type 0} (saved i : ℕ) (facts : List X) (fact : X) → slice_get facts (saved + i) ≡ Some fact → take i (drop saved facts) ++ fact ∷ [] ≡ take (i + 1) (drop saved facts)
next_more saved i facts fact is =
    let there : slice_get (drop saved facts) i ≡ Some fact = slice_get-drop saved facts i ∙ is in
    let below = slice_get_within (drop saved facts) i fact there in
    sym (take_more (drop saved facts) i fact below ∙ ap (λ (x : _). take i (drop saved facts) ++ x ∷ []) (get_or_from_slice_get (drop saved facts) i fact fact there))

next_all : {X : Type 0} (saved count most : ℕ) (facts : List X) → count ≡ min (length facts - saved) most → take count (drop saved facts) ≡ take most (drop saved facts)
next_all saved count most facts is = elim (cases_eq count most) [
  | inl all ↦ ap (λ (k : ℕ). take k (drop saved facts)) all
  | inr fewer ↦
      let long = length-drop saved facts in
      take_all count (drop saved facts) (omega (arith, long, is, fewer)) ∙ sym (take_all most (drop saved facts) (omega (arith, long, is, fewer)))
]

AllByRecursion-push : {X : Type 0} (P : X → Type 0) (xs : List X) (x : X) → AllByRecursion P xs → P x → AllByRecursion P (xs ++ x ∷ [])
AllByRecursion-push P [] x all one = (one, tt)
AllByRecursion-push P (y ∷ xs) x all one = (all.0, AllByRecursion-push P xs x all.1 one)

numbered : (facts : List Fact) (before n : ℕ) → n ≡ before + 1 → fact_at facts n ≡ slice_get facts before
numbered facts before zero is = absurd (omega (arith, is))
numbered facts before (suc b) is = let same : b ≡ before = omega (arith, is) in ap (λ (k : ℕ). slice_get facts k) same

pub next_pushed :
    (saved before : ℕ) (facts copies pushed : List Fact) (fact : Fact) → fact_at facts (saved + before + 1) ≡ Some fact → copies ≡ take before (drop saved facts)
    → pushed ≡ copies ++ fact ∷ [] → pushed ≡ take (before + 1) (drop saved facts)
next_pushed saved before facts copies pushed fact found so push =
    let is : slice_get facts (saved + before) ≡ Some fact = sym (numbered facts (saved + before) (saved + before + 1) (omega arith)) ∙ found in
    push ∙ (ap (λ (fs : List Fact). fs ++ fact ∷ []) so ∙ next_more saved before facts fact is)

pub writable_pushed : (copies pushed : List Fact) (fact : Fact) → pushed ≡ copies ++ fact ∷ [] → AllByRecursion IsWritable copies → IsWritable fact → AllByRecursion IsWritable pushed
writable_pushed copies pushed fact push so one = subst (λ (fs : List Fact). AllByRecursion IsWritable fs) (sym push) (AllByRecursion-push IsWritable copies fact so one)

pub next_taken :
    (saved first count : ℕ) (facts copies : List Fact) → first ≡ saved → copies ≡ take count (drop first facts) → count ≡ min (length facts - first) most_facts
    → copies ≡ take most_facts (drop saved facts)
next_taken saved first count facts copies same so is = so ∙ (next_all first count most_facts facts is ∙ ap (λ (k : ℕ). take most_facts (drop k facts)) same)
