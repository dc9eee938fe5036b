use Rattle.std.proofs.Common.{◌≡◌, ℕ, zero, suc, List, [], ◌∷◌, length, map, replicate, ap, ◌∙◌, refl, sym, rules, arith}
use Rattle.gi_lesser.specs.Walk.{with_hours}
use Rattle.gi_lesser.proofs.walk.row_alone.Goals as goal

zeros : (n : ℕ) (xs : List ℕ) → length xs ≡ n → replicate {A = ℕ} n 0 ≡ map (λ _. 0) xs
zeros zero [] e = refl
zeros zero (x ∷ xs) e = absurd (omega arith)
zeros (suc n) [] e = absurd (omega arith)
zeros (suc n) (x ∷ xs) e = ap (λ (l : List ℕ). 0 ∷ l) (zeros n xs (omega arith))

pub returns : goal.returns
returns c =
    let zero_is : c.unwrap-zero.result ≡ 0 = search rules in
    let count : length c.args.row.now.hours ≡ length c.as_slice.result.now = ap length (sym c.as_slice.ensures.value) in
    let hours = c.into.ensures ∙ c.in_ok-zeros.ensures.items_if_clones_equal (λ y e. e) ∙ ap (replicate (length c.as_slice.result.now)) zero_is
    ∙ zeros (length c.as_slice.result.now) c.args.row.now.hours count in
    ap (with_hours c.args.row.now) hours
