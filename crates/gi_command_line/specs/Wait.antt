-- How long is waited for a book that is in use, in seconds.
use Rattle.std.specs.Prelude.{◌≤◌, ℕ, List, Option}
use Rattle.gi_command_line.specs.Numbers.{number_up_to}

-- at most an hour (this project's choice)
abbrev pub most_wait : ℕ
most_wait = 3_600

abbrev pub IsWait : ℕ → Type 0
IsWait seconds = seconds ≤ most_wait

-- where none is named
abbrev pub no_wait : ℕ
no_wait = 0

-- the seconds that a word names
unfoldable pub wait_named : List ℕ → Option ℕ
wait_named word = number_up_to most_wait word
