-- What the columns print.
use Rattle.std.proofs.Common.{◌≡◌, ℕ, ◌^◌, ◌-◌, refl, arith}
use Rattle.std.proofs.Padding.{padded_integral_right, padded_integral_zeros}
use Rattle.std.specs.Fmt.{decimal, format_spec, styled_decimal}
use Rattle.gi_text.specs.Columns.{right_in, two_digits}

-- what `{:>2}` writes of a number
pub two_is : (number : ℕ) → styled_decimal (format_spec 32 3 0 2 (2 ^ 64 - 1)) number ≡ right_in 2 number
two_is number = padded_integral_right (format_spec 32 3 0 2 (2 ^ 64 - 1)) (decimal number) refl refl (omega arith) (omega arith) (omega arith)

-- what `{:02}` writes of a number
pub digits_are : (number : ℕ) → styled_decimal (format_spec 32 0 4 2 (2 ^ 64 - 1)) number ≡ two_digits number
digits_are number = padded_integral_zeros (format_spec 32 0 4 2 (2 ^ 64 - 1)) (decimal number) refl refl
