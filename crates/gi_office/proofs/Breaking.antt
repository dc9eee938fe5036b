-- Where a desk that is opened again goes on from the end of a life, and where not.
use Rattle.std.proofs.Common.{arith, ◌≡◌, ◌≤◌, ◌<◌, ◌+◌, inl, inr, ℕ, zero, suc, List, [], ◌∷◌, length, take, slice_get, refl, sym, ap, ◌∙◌, subst}
use Rattle.std.proofs.lemmas.List.{length-take-le, take-take}
use Rattle.gi_facts.specs.declared.fact.Fact.{Fact}
use Rattle.gi_desk.specs.Machine.{DeskState}
use Rattle.gi_desk.specs.Queries.{fact_at}
use Rattle.gi_office.specs.Joining.{Breaks, BreaksAfter, IsOther}
use Rattle.gi_office.specs.Settling.{GoesOn}

-- ---- facts that two lists have alike

suc_is : (n : ℕ) → n + 1 ≡ suc n
suc_is n = omega arith

at_next : (facts : List Fact) (n : ℕ) → fact_at facts (n + 1) ≡ slice_get facts n
at_next facts n = ap (fact_at facts) (suc_is n)

take_next : (xs ys : List Fact) (n : ℕ) → n < length xs → take n xs ≡ take n ys → slice_get xs n ≡ slice_get ys n → take (suc n) xs ≡ take (suc n) ys
take_next [] ys n below same next = absurd (omega (arith, below))
take_next (x ∷ xs) [] zero below same next = absurd cc
take_next (x ∷ xs) [] (suc n) below same next = absurd cc
take_next (x ∷ xs) (y ∷ ys) zero below same next = let e : x ≡ y = cc in ap (λ (fact : Fact). fact ∷ []) e
take_next (x ∷ xs) (y ∷ ys) (suc n) below same next =
    let e : x ≡ y = cc in
    let rest : take n xs ≡ take n ys = cc in
    let more = take_next xs ys n (omega (arith, below)) rest next in
    (λ i. e i ∷ more i)

pub one_same : (xs ys : List Fact) (n : ℕ) → n < length xs → take n xs ≡ take n ys → fact_at xs (n + 1) ≡ fact_at ys (n + 1) → take (n + 1) xs ≡ take (n + 1) ys
one_same xs ys n below same next =
    ap (λ k. take k xs) (suc_is n) ∙ take_next xs ys n below same (sym (at_next xs n) ∙ next ∙ at_next ys n) ∙ ap (λ k. take k ys) (sym (suc_is n))

get_front : (xs : List Fact) (n k : ℕ) → k < n → slice_get (take n xs) k ≡ slice_get xs k
get_front xs zero k below = absurd (omega (arith, below))
get_front [] (suc n) k below = refl
get_front (x ∷ xs) (suc n) zero below = refl
get_front (x ∷ xs) (suc n) (suc k) below = get_front xs n k (omega (arith, below))

-- ---- going on

pub goes_on : (end : DeskState) (point : List ℕ) (facts : List Fact) (opening : ℕ) → point ≡ end.point → opening ≤ length facts → take opening facts ≡ take opening end.facts
    → end.saved ≤ opening → GoesOn end point (take opening facts)
goes_on end point facts opening same within alike saved =
    let count = length-take-le opening facts within in
    record { point = same; front = alike ∙ ap (λ n. take n end.facts) (sym count); saved = omega (arith, saved, count) }

pub breaks_at : (end : DeskState) (point : List ℕ) (facts : List Fact) (opening before : ℕ) → point ≡ end.point → opening ≤ length facts → IsOther end.facts facts opening before
    → Breaks end point (take opening facts) (before + 1)
breaks_at end point facts opening before same within is =
    let below = is.within in
    let count = length-take-le opening facts within in
    let at = get_front facts opening before below in
    let after : BreaksAfter end point (take opening facts) before = record {
      point = same;
      alike = take-take before opening facts (omega (arith, below)) ∙ is.alike;
      broken = inl (omega (arith, below, count), λ e. is.other (sym at ∙ e));
    } in
    subst (λ (n : ℕ). Breaks end point (take opening facts) n) (sym (suc_is before)) after

pub breaks_short : (end : DeskState) (point : List ℕ) (facts : List Fact) (opening : ℕ) → point ≡ end.point → opening ≤ length facts → take opening facts ≡ take opening end.facts
    → opening < end.saved → Breaks end point (take opening facts) (opening + 1)
breaks_short end point facts opening same within alike short =
    let after : BreaksAfter end point (take opening facts) opening = record {
      point = same;
      alike = take-take opening opening facts (omega arith) ∙ alike;
      broken = inr (sym (length-take-le opening facts within), short);
    } in
    subst (λ (n : ℕ). Breaks end point (take opening facts) n) (sym (suc_is opening)) after
