use Rattle.std.proofs.Common.{◌≡◌, rules}
use Rattle.std.proofs.lemmas.Fn.{always_returns_same}
use Rattle.std.proofs.lemmas.List.Sorted.{IsNonDecreasingBy-from_sort_by_key}
use Rattle.gi_day_tables.specs.Cuts.{smallness}
use Rattle.gi_day_tables.proofs.cuts.largest_first.Goals as goal

pub returns : goal.returns
returns c = record {
  same = c.in_ok-sort_by_key.ensures.permutation;
  largest_first = IsNonDecreasingBy-from_sort_by_key smallness _ c.in_ok-sort_by_key.ensures.sorted (λ a r q k. search rules);
  stable = c.in_ok-sort_by_key.ensures.stable smallness (always_returns_same _ (λ a r. r ≡ smallness a.0.now) _ (λ a r q k. search rules));
}
