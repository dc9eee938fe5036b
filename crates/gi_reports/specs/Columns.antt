-- Columns of a report: texts stand left in them, and spaces fill what is left.
use Rattle.std.specs.Prelude.{ℕ, ◌-◌, List, ◌++◌, length, replicate, Option, Some, None, codes}

-- a text left in so many places
abbrev pub left_in : ℕ → List ℕ → List ℕ
left_in places text = text ++ replicate (places - length text) 32

-- the name of a portfolio, and `?` where there is none
abbrev pub name_of : Option (List ℕ) → List ℕ
name_of None = codes "?"
name_of (Some code) = code
