-- Codes of portfolios and points, as texts.
use Rattle.std.specs.Prelude.{◌≡◌, ℕ, ◌-◌, ◌≤◌, List, ◌++◌, length, take, replicate, All, Bool, ◌||◌, ◌==◌, IsTrue}
use Rattle.std.specs.Int.{is_in_range}

-- `A` to `Z`, `0` to `9` and `-`
abbrev pub is_character : ℕ → Bool
is_character c = is_in_range 65 90 c || is_in_range 48 57 c || c == 45

-- a code has 1 to 16 of these characters (this project's choice)
pub record IsCode (text : List ℕ) : Type 0 where
  pub some : 1 ≤ length text
  pub short : length text ≤ 16
  pub characters : All (λ c. IsTrue (is_character c)) text

-- how a code is kept: its bytes, and zeros to sixteen
abbrev pub padded : List ℕ → List ℕ
padded text = text ++ replicate (16 - length text) 0

-- bytes and a length that keep a code so
pub record CodeInvariant (bytes : List ℕ) (len : ℕ) : Type 0 where
  pub code : IsCode (take len bytes)
  pub exact : length (take len bytes) ≡ len
  pub rest : bytes ≡ padded (take len bytes)
