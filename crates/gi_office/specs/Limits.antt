-- How much an office takes on (this project's choice).
use Rattle.std.specs.Prelude.{ℕ}

-- seats, at most; at least one
abbrev pub most_seats : ℕ
most_seats = 16

-- notes in the list of a seat
abbrev pub most_notes : ℕ
most_notes = 4_000_000
