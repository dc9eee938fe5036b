-- Numbers in text.
use Rattle.std.specs.Prelude.{ℕ, zero, suc, ◌-◌, ◌/◌, ◌%◌, List, ◌++◌, codes, nat_lt, if◌then◌else◌, Option, Some, None}
use Rattle.std.specs.Fmt.{decimal}

-- the last three digits of a number
abbrev pub three_digits : ℕ → List ℕ
three_digits n = decimal (n / 100 % 10) ++ (decimal (n / 10 % 10) ++ decimal (n % 10))

-- a comma before each three digits, in at most so many places
abbrev pub groups : ℕ → ℕ → List ℕ
groups zero n = decimal n
groups (suc more) n = if nat_lt n 1000 then decimal n else (groups more (n / 1000) ++ (codes "," ++ three_digits n))

-- `1,500,000`: twelve commas are enough for each number of 128 bits
unfoldable pub grouped : ℕ → List ℕ
grouped n = groups 12 n

-- the first number less the second, with its sign; 0 has none
unfoldable pub difference : ℕ → ℕ → List ℕ
difference n less =
    if nat_lt less n then (codes "+" ++ grouped (n - less)) else if nat_lt n less then (codes "&minus;" ++ grouped (less - n)) else codes "0"

-- a dash where there is no number
unfoldable pub cell : Option ℕ → List ℕ
cell None = codes "&ndash;"
cell (Some n) = grouped n
