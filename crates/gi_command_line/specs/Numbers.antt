-- Numbers, as words.
use Rattle.std.specs.Prelude.{ℕ, ◌+◌, ◌*◌, ◌-◌, List, [], ◌∷◌, Bool, true, false, not, ◌&&◌, ◌==◌, nat_le, if◌then◌else◌, Option, None, Some}
use Rattle.std.specs.Char.{is_ascii_digit}
use Rattle.std.specs.List.{list_all}
use Rattle.std.specs.Str.Parse.{digits_value}

-- a byte between two
abbrev pub is_between : ℕ → ℕ → ℕ → Bool
is_between first last byte = nat_le first byte && nat_le byte last

-- a number of one digit or of two, of which the first is not 0
abbrev pub number_named : List ℕ → Option ℕ
number_named [] = None
number_named (ones ∷ []) = if is_between 48 57 ones then Some (ones - 48) else None
number_named (tens ∷ ones ∷ []) = if is_between 49 57 tens && is_between 48 57 ones then Some (10 * (tens - 48) + (ones - 48)) else None
number_named (tens ∷ ones ∷ more ∷ rest) = None

-- where it is one of these
abbrev pub within : ℕ → ℕ → Option ℕ → Option ℕ
within first last None = None
within first last (Some number) = if is_between first last number then Some number else None

-- the last cycle of any gas day is 36, and its last hour 25
unfoldable pub cycle_named : List ℕ → Option ℕ
cycle_named word = within 0 36 (number_named word)

unfoldable pub hour_named : List ℕ → Option ℕ
hour_named word = within 1 25 (number_named word)

-- ---- numbers of any length

-- there is a digit, and a zero in front stands alone
abbrev pub begins_right : List ℕ → Bool
begins_right [] = false
begins_right (only ∷ []) = true
begins_right (first ∷ second ∷ rest) = not (first == 48)

-- decimal digits, with no sign and no zero in front
abbrev pub is_number : List ℕ → Bool
is_number word = begins_right word && list_all is_ascii_digit word

-- the number that they write, where it is at most so great
abbrev pub number_up_to : ℕ → List ℕ → Option ℕ
number_up_to most word = if is_number word && nat_le (digits_value 10 word) most then Some (digits_value 10 word) else None
