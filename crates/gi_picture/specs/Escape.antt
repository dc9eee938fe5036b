-- Text as it is written into the page.
use Rattle.std.specs.Prelude.{◌≡◌, ℕ, List, [], ◌∷◌, codes, nat_eq, Bool, true, not, ◌&&◌, if◌then◌else◌}
use Rattle.std.specs.List.{flat_map, list_all}

-- `&`, `<`, `>` and `"` are written by name
abbrev pub escaped_byte : ℕ → List ℕ
escaped_byte byte =
    if nat_eq byte 38 then codes "&amp;" else if nat_eq byte 60 then codes "&lt;" else if nat_eq byte 62 then codes "&gt;"
    else if nat_eq byte 34 then codes "&quot;" else byte ∷ []

abbrev pub escaped : List ℕ → List ℕ
escaped text = flat_map escaped_byte text

-- a byte that begins or ends no tag, and ends no value
abbrev pub is_plain : ℕ → Bool
is_plain byte = not (nat_eq byte 60) && (not (nat_eq byte 62) && not (nat_eq byte 34))

-- Escaped text begins and ends no tag, and ends no value.
abbrev pub WritesPlain : Type 0
WritesPlain = (text : List ℕ) → list_all is_plain (escaped text) ≡ true
