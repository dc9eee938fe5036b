-- The portfolios of counted submissions, in order.
use Rattle.std.proofs.Common.{◌≡◌, ◌≤◌, ℕ, ◌++◌, List, [], ◌∷◌, map, length, Bool, true, false, not, cond, nat_lt, Option, Some, None, unwrap_or, refl, ap, arith}
use Rattle.std.specs.List.{flat_map, position, position_or_len}
use Rattle.std.proofs.lemmas.List.Sums.{prefix_len-le-length}
use Rattle.gi_reports.specs.Refused.{first_places, refused_counts, times}
use Rattle.gi_serving.specs.Assigning.{code_in, in_order}

abbrev pub Who : Type 0
Who = Option (List ℕ)

abbrev pub codes_in : List (Who × ℕ) → List (List ℕ)
codes_in counts = flat_map (λ (counted : Who × ℕ). code_in counted.0) counts

kept : (count : Who → ℕ) (whos : List Who) → codes_in (map (λ (who : Who). (who, count who)) whos) ≡ flat_map code_in whos
kept count [] = refl
kept count (who ∷ whos) = ap (λ (rest : List (List ℕ)). code_in who ++ rest) (kept count whos)

pub counts_in_order : (portfolios : List Who) → codes_in (refused_counts portfolios) ≡ in_order portfolios
unfolding refused_counts
counts_in_order portfolios = kept (λ (who : Who). times who portfolios) (first_places portfolios)

-- ---- the place of a portfolio

pub placed : (test : List ℕ → Bool) (order : List (List ℕ)) → unwrap_or (position test order) (length order) ≡ position_or_len test order
placed test order = by (nat_lt (position_or_len test order) (length order)) refl
  where
    few : position_or_len test order ≤ length order
    few = prefix_len-le-length (λ portfolio. not (test portfolio)) order

    by : (b : Bool) → nat_lt (position_or_len test order) (length order) ≡ b
        → unwrap_or (cond b (Some (position_or_len test order)) None) (length order) ≡ position_or_len test order
    by true e = refl
    by false e = grind (arith, few, e)
