-- The limits of a carrier and of a plan (this project's choice).
use Rattle.std.specs.Prelude.{ℕ}

-- how many messages wait at most
abbrev pub most_waiting : ℕ
most_waiting = 4_096

-- how many moves a plan has at most
abbrev pub most_moves : ℕ
most_moves = 1_000
