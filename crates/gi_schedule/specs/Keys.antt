-- The pairs and directions that a gas day's schedule lists: those of all rows of the day's confirmed cycles.
use Rattle.std.specs.Prelude.{ℕ, ◌+◌, ◌*◌, List, [], ◌∷◌, if◌then◌else◌, Option, Some, None}
use Rattle.std.specs.BTreeSet.{insert_key}
use Rattle.std.specs.List.{flat_map, range_with_len}
use Rattle.jiff_core.specs.declared.civil.date.Date.{Date}
use Rattle.gi_pairs.specs.Key.{key_cmp}
use Rattle.gi_pairs.specs.Limits.{most_rows}
use Rattle.gi_pairs.specs.Row.{key_of}
use Rattle.gi_pairs.specs.Table.{TableContents}
use Rattle.gi_pairs.specs.declared.key.Key.{Key}
use Rattle.gi_pairs.specs.declared.row.Row.{Row}
use Rattle.gi_messages.specs.Limits.{last_cycle}
use Rattle.gi_schedule.specs.InForce.{Confirmed, cycle_of}
use Rattle.gi_schedule.specs.Wanted.{wants_pair}

-- what a row is for, where its pair is wanted
abbrev pub row_keys : Option (List ℕ) → Row → List Key
row_keys portfolio row = if wants_pair portfolio row.pair then key_of row ∷ [] else []

-- the same of each row of a table
abbrev pub table_keys : Option (List ℕ) → TableContents → List Key
table_keys portfolio table = flat_map (row_keys portfolio) table.rows

abbrev pub keys_if : Option (List ℕ) → Option TableContents → List Key
keys_if portfolio None = []
keys_if portfolio (Some table) = table_keys portfolio table

-- keys in table order, and with them each of others that does not stand there
unfoldable pub with_each : List Key → List Key → List Key
with_each keys [] = keys
with_each keys (key ∷ others) = with_each (insert_key key_cmp keys key) others

-- those of the day's confirmed cycles before a number, in table order, each once
abbrev pub keys_before : Confirmed → Option (List ℕ) → Date → ℕ → List Key
keys_before confirmed portfolio day end = with_each [] (flat_map (λ cycle. keys_if portfolio (confirmed (cycle_of day cycle))) (range_with_len 0 end))

unfoldable pub day_keys : Confirmed → Option (List ℕ) → Date → List Key
day_keys confirmed portfolio day = keys_before confirmed portfolio day (last_cycle + 1)

-- as many as the confirmed tables of a day have rows at most
abbrev pub most_keys : ℕ
most_keys = (last_cycle + 1) * most_rows
