-- Numbers in columns: they stand right, and spaces or zeros fill what is left.
use Rattle.std.specs.Prelude.{ℕ, ◌-◌, List, ◌++◌, length, replicate}
use Rattle.std.specs.Fmt.{decimal}

-- a number with so many of this byte before it that it fills these places
abbrev pub filled_in : ℕ → ℕ → ℕ → List ℕ
filled_in fill places number = replicate (places - length (decimal number)) fill ++ decimal number

-- a number right in so many places, and one in two digits
abbrev pub right_in : ℕ → ℕ → List ℕ
right_in places number = filled_in 32 places number

abbrev pub two_digits : ℕ → List ℕ
two_digits number = filled_in 48 2 number
