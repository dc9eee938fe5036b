-- Numbers in text.
use Rattle.std.proofs.Common.{◌≡◌, ◌<◌, ◌≤◌, ◌-◌, ◌/◌, ℕ, zero, suc, List, ◌++◌, codes, false, true, refl, sym, ap, ◌∙◌, arith}
use Rattle.std.proofs.lemmas.Bool.Decides.{nat_tests}
use Rattle.std.specs.Prelude.{nat_lt, if◌then◌else◌}
use Rattle.std.specs.Fmt.{decimal}
use Rattle.gi_picture.specs.Numbers.{groups, three_digits}

small : (n : ℕ) → n < 1000 → nat_lt n 1000 ≡ true
small n below = grind (arith, nat_tests)

large : (n : ℕ) → 1000 ≤ n → nat_lt n 1000 ≡ false
large n above = grind (arith, nat_tests)

pub groups_small : (more n : ℕ) → n < 1000 → groups more n ≡ decimal n
groups_small zero n below = refl
groups_small (suc more) n below = ap (λ b. if b then decimal n else (groups more (n / 1000) ++ (codes "," ++ three_digits n))) (small n below)

pub groups_more : (more n : ℕ) → 0 < more → 1000 ≤ n → groups more n ≡ groups (more - 1) (n / 1000) ++ (codes "," ++ three_digits n)
groups_more zero n some above = elim some [ ]
groups_more (suc more) n some above =
    let same : suc more - 1 ≡ more = omega arith in
    ap (λ b. if b then decimal n else (groups more (n / 1000) ++ (codes "," ++ three_digits n))) (large n above) ∙ ap (λ m. groups m (n / 1000) ++ (codes "," ++ three_digits n)) (sym same)

pub parts_are : (more n : ℕ) (front last : List ℕ) → 0 < more → 1000 ≤ n → front ≡ groups (more - 1) (n / 1000) → last ≡ three_digits n
    → front ++ (codes "," ++ last) ≡ groups more n
parts_are more n front last some above front_is last_is = (λ t. front_is t ++ (codes "," ++ last_is t)) ∙ sym (groups_more more n some above)
