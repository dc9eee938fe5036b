-- The first facts of a desk, one by one.
use Rattle.std.proofs.Common.{◌≡◌, ◌+◌, ℕ, suc, List, [], ◌∷◌, ◌++◌, take, Some, arith, sym, ap, ◌∙◌}
use Rattle.std.specs.Prelude.{slice_get}
use Rattle.std.proofs.lemmas.Option.{get_or_from_slice_get, slice_get_within}
use Rattle.gi_desk.specs.Queries.{fact_at}
use Rattle.gi_desk.proofs.HistoryLaws.{one_more}
use Rattle.gi_facts.specs.declared.fact.Fact.{Fact}

-- with the next one
next_at : (facts : List Fact) (n : ℕ) → fact_at facts (n + 1) ≡ slice_get facts n
next_at facts n = ap (fact_at facts) (suc_is n)
  where
    suc_is : (n : ℕ) → n + 1 ≡ suc n
    suc_is n = omega arith

pub front-more : (facts kept : List Fact) (n : ℕ) (fact : Fact) → kept ≡ take n facts → fact_at facts (n + 1) ≡ Some fact → kept ++ fact ∷ [] ≡ take (n + 1) facts
front-more facts kept n fact is at =
    let found = sym (next_at facts n) ∙ at in
    ap (λ (front : List Fact). front ++ fact ∷ []) is ∙ sym (one_more facts n fact (slice_get_within facts n fact found) (sym (get_or_from_slice_get facts n fact fact found)))
