-- The limits of tables (the first by the calendar, the others this project's choice).
use Rattle.std.specs.Prelude.{ℕ}

-- the number of the last hour of the longest gas day
abbrev pub last_hour : ℕ
last_hour = 25

-- how many rows a table of processed quantities has at most
abbrev pub most_processed_rows : ℕ
most_processed_rows = 4_096

-- how many rows a table has at most
abbrev pub most_rows : ℕ
most_rows = 8_192
