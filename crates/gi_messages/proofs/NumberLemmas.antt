-- Numbers by their sign.
use Rattle.std.proofs.Common.{◌≡◌, ℕ, ◌<◌, List, [], ◌∷◌, ◌++◌, length, append-nil, arith, lt-ltb, ne_eqb, Some, subst, drop, get_or, Bool, true, false, cond, ◌==◌, ◌&&◌, nat_lt, nat_le, ◌^◌, None, option_and_then, refl, sym, ap, ◌∙◌}
use Rattle.std.proofs.lemmas.Float.Parse.{scan_numeral-text_of}
use Rattle.std.specs.Char.{digit_value}
use Rattle.std.specs.Str.Parse.{AllDigits, IsNumeral, digits_value, without_leading_plus}
use Rattle.std.specs.Float.{binary64, float_is_finite}
use Rattle.fast_float.specs.Text.{Parts, scan, digits_of, nearest, IsWellFormed}
use Rattle.serde_json.specs.Data.{unsigned}
use Rattle.serde_json.specs.Find.{as_u64}
use Rattle.serde_json.specs.Read.{number_of, number_from, float_of, is_integer}

pub with_minus : (s : List ℕ) → (get_or s 0 0 == 45) ≡ true → number_of s ≡ number_from true (scan (drop 1 s))
unfolding number_of
with_minus s signed = rw signed

pub without_minus : (s : List ℕ) → (get_or s 0 0 == 45) ≡ false → number_of s ≡ number_from false (scan s)
unfolding number_of
without_minus s plain = rw plain

no_u64_float : (p : Parts) (b : Bool) → float_is_finite (nearest binary64 true p) ≡ b → option_and_then as_u64 (float_of true p) ≡ None
no_u64_float p true is = rw is
no_u64_float p false is = rw is

no_u64 : (p : Parts) (b : Bool) → is_integer p && nat_lt 0 (digits_of p) && nat_le (digits_of p) (2 ^ 63) ≡ b → option_and_then as_u64 (number_from true p) ≡ None
no_u64 p true is = rw is
no_u64 p false is = rw is (no_u64_float p _ refl)

pub never_whole : (s : List ℕ) → (get_or s 0 0 == 45) ≡ true → option_and_then as_u64 (number_of s) ≡ None
never_whole s signed = ap (option_and_then as_u64) (with_minus s signed) ∙ no_u64 (scan (drop 1 s)) _ refl

-- ---- digits alone

no_minus : (ds : List ℕ) → AllDigits 10 ds → 0 < length ds → get_or ds 0 0 ≡ 45 → ⊥
no_minus [] h some e = omega arith
no_minus (d ∷ ds) h some e = let digit : digit_value d < 10 = h.0 in let is : d ≡ 45 = e in grind arith

abbrev parts : List ℕ → Parts
parts ds = record { whole = ds; point = false; fraction = []; exponent_negative = false; exponent = []; len = length (ds ++ []) }

scan-digits : (ds : List ℕ) → AllDigits 10 ds → scan ds ≡ parts ds
scan-digits ds h =
    let formed : IsWellFormed (parts ds) = record { whole_digits = h; fraction_digits = tt; exponent_digits = tt; no_point = λ _. refl; no_exponent = λ _. refl; len_is = refl } in
    ap scan (sym (append-nil ds)) ∙ scan_numeral-text_of (parts ds) formed

number_of-digits : (ds : List ℕ) → IsNumeral 10 ds → digits_value 10 ds < 2 ^ 64 → number_of ds ≡ Some (unsigned (digits_value 10 ds))
number_of-digits ds h fits =
    without_minus ds (ne_eqb (get_or ds 0 0) 45 (no_minus ds h.1 h.0)) ∙ ap (number_from false) (scan-digits ds h.1)
    ∙ rw (lt-ltb _ _ h.0, append-nil ds, lt-ltb _ _ fits) refl

pub number_of-parsed : (s : List ℕ) (n : ℕ) → (get_or s 0 0 == 43) ≡ false
    → (IsNumeral 10 (without_leading_plus s) × (digits_value 10 (without_leading_plus s) < 2 ^ 64)) × (n ≡ digits_value 10 (without_leading_plus s)) → number_of s ≡ Some (unsigned n)
number_of-parsed s n plain h =
    let same : without_leading_plus s ≡ s = ap (λ b. drop (cond b 1 0) s) plain in
    let number = subst (λ t. (IsNumeral 10 t × (digits_value 10 t < 2 ^ 64)) × (n ≡ digits_value 10 t)) same h in
    number_of-digits s number.0.0 number.0.1 ∙ ap (λ m. Some (unsigned m)) (sym number.1)
