-- Numbers as words, and their limits.
use Rattle.std.specs.Prelude.{◌≡◌, ◌≤◌, ℕ, List}
use Rattle.std.specs.Str.Parse.{IsNumeral, digits_value}

-- The word is decimal digits, one or more and nothing else, that write the number, which is at most
-- so great.
pub record IsNumber (most : ℕ) (word : List ℕ) (n : ℕ) : Type 0 where
  pub digits : IsNumeral 10 word
  pub value : n ≡ digits_value 10 word
  pub within : n ≤ most

-- the greatest hour or cycle that is read: a byte
abbrev pub most_byte : ℕ
most_byte = 255

-- the greatest per-mille number that is read
abbrev pub most_permille : ℕ
most_permille = 65_535

-- the greatest number of a packet, or of facts that a restart keeps
abbrev pub most_number : ℕ
most_number = 4_294_967_295

-- the most facts that one line saves
abbrev pub most_count : ℕ
most_count = 1_000_000

-- a count is not 0
pub record IsCount (word : List ℕ) (n : ℕ) : Type 0 where
  pub number : IsNumber most_count word n
  pub some : 1 ≤ n
