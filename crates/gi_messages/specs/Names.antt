-- The code that a text names.
use Rattle.std.specs.Prelude.{ℕ, List, length, Bool, ◌&&◌, nat_le, Option, Some, None, if◌then◌else◌}
use Rattle.std.specs.List.{list_all}
use Rattle.gi_pairs.specs.Code.{is_character}

-- 1 to 16 characters of a code
abbrev pub is_code : List ℕ → Bool
is_code text = nat_le 1 (length text) && nat_le (length text) 16 && list_all is_character text

unfoldable pub code_of : List ℕ → Option (List ℕ)
code_of text = if is_code text then Some text else None
