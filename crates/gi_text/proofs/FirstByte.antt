-- The first byte that passes a test, as a position.
use Rattle.std.proofs.Common.{◌≡◌, ◌<◌, ◌∙◌, ℕ, Bool, true, false, cond, List, length, Option, None, Some, refl, sym, ap, arith}
use Rattle.std.specs.Prelude.{nat_lt}
use Rattle.std.specs.List.{position, position_or_len}
use Rattle.std.proofs.lemmas.List.Sums.{position_or_len_is}
use Rattle.memchr.specs.Find.{IsFirstByte}

not_true : (b : Bool) → ¬ (b ≡ true) → b ≡ false
not_true true never = absurd (never refl)
not_true false never = refl

answers : (test : ℕ → Bool) (bytes : List ℕ) (at : ℕ) (within : Bool) → position_or_len test bytes ≡ at → nat_lt at (length bytes) ≡ within
    → cond within (Some at) None ≡ position test bytes
answers test bytes at within is decided =
    ap (λ (b : Bool). cond b (Some at) None) (sym decided) ∙ ap (λ (n : ℕ). cond (nat_lt n (length bytes)) (Some n) None) (sym is)

pub first_byte : (test : ℕ → Bool) (bytes : List ℕ) (found : Option ℕ) → IsFirstByte test bytes found → found ≡ position test bytes
first_byte test bytes None none =
    let at = position_or_len_is test bytes (length bytes) 0 (omega arith) (λ k below. not_true _ (none k (omega arith) below)) (λ below. absurd (omega arith)) in
    answers test bytes (length bytes) false at (grind arith)
first_byte test bytes (Some k) first =
    let within : k < length bytes = first.0.high in
    let at = position_or_len_is test bytes k 0 (omega (arith, within)) (λ j below. not_true _ (first.0.before j (omega arith) below)) (λ below. first.1) in
    answers test bytes k true at (grind arith)
