-- The first facts that a book is expected to have, as a word: their number, a colon and their digest.
use Rattle.std.specs.Prelude.{ℕ, List, Bool, ◌&&◌, ◌||◌, ◌==◌, length, if◌then◌else◌, Option, None, Some}
use Rattle.std.specs.Int.{is_in_range}
use Rattle.std.specs.List.{after_first, before_first, list_all}
use Rattle.gi_command_line.specs.Numbers.{number_up_to}

-- a digest is 64 of `0` to `9` and `a` to `f`
abbrev pub is_hexadecimal : ℕ → Bool
is_hexadecimal byte = is_in_range 48 57 byte || is_in_range 97 102 byte

abbrev pub is_digest : List ℕ → Bool
is_digest text = length text == 64 && list_all is_hexadecimal text

-- a book takes no more facts
abbrev pub most_facts : ℕ
most_facts = 1_000_000

abbrev pub expected_of : Option ℕ → List ℕ → Option (ℕ × List ℕ)
expected_of None digest = None
expected_of (Some facts) digest = if is_digest digest then Some (facts, digest) else None

-- what stands before the first colon, and behind it
unfoldable pub expected_named : List ℕ → Option (ℕ × List ℕ)
expected_named word = expected_of (number_up_to most_facts (before_first (λ b. b == 58) word)) (after_first (λ b. b == 58) word)
