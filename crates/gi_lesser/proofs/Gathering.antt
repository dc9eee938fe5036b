-- What the workers gave, in order.
use Rattle.std.proofs.Common.{◌≡◌, ℕ, List, [], ◌∷◌, map, Result, Ok, Err, Vec, Global, IfOk, MatchResult, Contains, refl, ap, ◌∙◌, subst}
use Rattle.std.specs.List.{AllZip}
use Rattle.std.specs.declared.alloc.AllocError.{AllocError}
use Rattle.gi_pairs.specs.declared.row.Row.{Row}

read : (part : ℕ → List Row) (is : List ℕ) (ys : List (Vec Row Global)) → AllZip (λ i (x : Result (Vec Row Global) AllocError). IfOk x (λ v. v.items ≡ part i)) is (map Ok ys)
    → map (λ (v : Vec Row Global). v.items) ys ≡ map part is
read part [] [] z = refl
read part [] (y ∷ ys) z = absurd z
read part (i ∷ is) [] z = absurd z
read part (i ∷ is) (y ∷ ys) z = let rest = read part is ys z.1 in λ t. z.0 t ∷ rest t

pub gathered : (part : ℕ → List Row) (is places : List ℕ) (rs : List (Result (Vec Row Global) AllocError)) (r : Result (Vec (Vec Row Global) Global) AllocError)
    → is ≡ places → AllZip (λ i (x : Result (Vec Row Global) AllocError). IfOk x (λ v. v.items ≡ part i)) is rs
    → MatchResult r (λ c. (ys : List (Vec Row Global)) × (rs ≡ map Ok ys) × (c.items ≡ ys)) (λ e. Contains rs (Err e))
    → IfOk r (λ parts. map (λ (v : Vec Row Global). v.items) parts.items ≡ map part places)
gathered part is places rs (Ok c) e z m =
    ap (map (λ (v : Vec Row Global). v.items)) m.2
    ∙ read part is m.0 (subst (λ (xs : List (Result (Vec Row Global) AllocError)). AllZip (λ i (x : Result (Vec Row Global) AllocError). IfOk x (λ v. v.items ≡ part i)) is xs) m.1 z)
    ∙ ap (map part) e
gathered part is places rs (Err f) e z m = tt
