-- Some rows of a table.
use Rattle.std.specs.Prelude.{ℕ, drop, take}
use Rattle.gi_pairs.specs.Table.{TableContents}

-- the table of the rows from a place on, counted from 0, at most so many: those that there are
abbrev pub slice_of : ℕ → ℕ → TableContents → TableContents
slice_of from most table = record { first = table.first; last = table.last; rows = take most (drop from table.rows) }
