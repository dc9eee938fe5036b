-- What the columns of a report print.
use Rattle.std.proofs.Common.{◌≡◌, ◌<◌, ℕ, suc, ◌+◌, ◌^◌, ◌-◌, List, [], ◌∷◌, ◌++◌, length, cond, ◌||◌, nat_le, refl, ap, ◌∙◌, arith}
use Rattle.std.proofs.Padding.{padded_integral_right, take_chars_all, repeat_ascii, char_count-nil, char_count-cons}
use Rattle.std.proofs.lemmas.Bool.{lt-ltb}
use Rattle.std.specs.Fmt.{char_count, decimal, format_spec, padded, styled_decimal, styled_text}
use Rattle.std.specs.Str.{IsAscii}
use Rattle.gi_reports.specs.Columns.{left_in}
use Rattle.gi_text.specs.Columns.{right_in}

-- what `{:>6}` and `{:>12}` write of a number
pub six_is : (number : ℕ) → styled_decimal (format_spec 32 3 0 6 (2 ^ 64 - 1)) number ≡ right_in 6 number
six_is number = padded_integral_right (format_spec 32 3 0 6 (2 ^ 64 - 1)) (decimal number) refl refl (omega arith) (omega arith) (omega arith)

pub twelve_is : (number : ℕ) → styled_decimal (format_spec 32 3 0 12 (2 ^ 64 - 1)) number ≡ right_in 12 number
twelve_is number = padded_integral_right (format_spec 32 3 0 12 (2 ^ 64 - 1)) (decimal number) refl refl (omega arith) (omega arith) (omega arith)

-- each byte of an ASCII text is a character
one_each : (text : List ℕ) → IsAscii text → char_count text ≡ length text
one_each [] ascii = char_count-nil
one_each (b ∷ text) ascii =
    let rest = one_each text (λ i. ascii (suc i)) in
    let start = lt-ltb b 128 (ascii 0) in
    char_count-cons b text ∙ ap (λ low. cond (low || nat_le 192 b) 1 0 + char_count text) start ∙ omega (arith, rest)

-- what `{:<16}` writes of an ASCII text
pub sixteen_is : (text : List ℕ) → IsAscii text → length text < 2 ^ 64 → styled_text (format_spec 32 1 0 16 (2 ^ 64 - 1)) text ≡ left_in 16 text
unfolding padded
sixteen_is text ascii short =
    let whole = take_chars_all (2 ^ 64 - 1) text (omega (arith, short)) in
    let all : 16 - length text - 0 ≡ 16 - length text = omega arith in
    rw (whole, one_each text ascii, all) (ap (λ (fill : List ℕ). text ++ fill) (repeat_ascii (16 - length text) 32 (omega arith)))
