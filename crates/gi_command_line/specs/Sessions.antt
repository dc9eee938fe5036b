-- How many sessions each running office has.
use Rattle.std.specs.Prelude.{◌≤◌, ℕ, ◌-◌, List, [], ◌∷◌, Bool, ◌&&◌, nat_le, if◌then◌else◌, Option, None, Some}

-- at least one, and at most eight (this project's choice)
abbrev pub IsSessions : ℕ → Type 0
IsSessions count = (1 ≤ count) × (count ≤ 8)

abbrev pub default_sessions : ℕ
default_sessions = 2

-- the number that a word names: one of the digits 1 to 8
abbrev pub is_named : ℕ → Bool
is_named byte = nat_le 49 byte && nat_le byte 56

abbrev pub sessions_named : List ℕ → Option ℕ
sessions_named [] = None
sessions_named (byte ∷ []) = if is_named byte then Some (byte - 48) else None
sessions_named (byte ∷ more ∷ rest) = None
