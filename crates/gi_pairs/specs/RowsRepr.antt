-- What rows are, however they are kept.
use Rattle.std.specs.Prelude.{List}
use Rattle.gi_pairs.specs.declared.row.Row.{Row}
use Rattle.gi_pairs.specs.declared.rows.Kept.{Kept}
use Rattle.gi_pairs.specs.declared.rows.Kept.TheVariants.{Own, Shared}

abbrev pub kept_rows : Kept → List Row
kept_rows (Own rows) = rows.items
kept_rows (Shared rows) = rows.value.items
