-- The pairs and directions of a page: those of all rows of the day's closed cycles, and of its confirmed ones.
use Rattle.std.specs.Prelude.{◌≡◌, ℕ, ◌≤◌, ◌+◌, ◌*◌, List, [], ◌++◌, Some, None, Contains}
use Rattle.std.specs.List.{flat_map, range_with_len}
use Rattle.jiff_core.specs.declared.civil.date.Date.{Date}
use Rattle.gi_pairs.specs.Limits.{most_rows}
use Rattle.gi_pairs.specs.Row.{key_of}
use Rattle.gi_pairs.specs.Table.{TableContents}
use Rattle.gi_pairs.specs.declared.cycle_id.CycleId.{CycleId}
use Rattle.gi_pairs.specs.declared.key.Key.{Key}
use Rattle.gi_pairs.specs.declared.row.Row.{Row}
use Rattle.gi_pairs.specs.declared.side.Side.{Side}
use Rattle.gi_messages.specs.Limits.{last_cycle}
use Rattle.gi_desk.specs.Machine.{DeskState}
use Rattle.gi_desk.specs.Queries.{confirmed, frozen}
use Rattle.gi_schedule.specs.InForce.{Confirmed, cycle_of}
use Rattle.gi_schedule.specs.Keys.{keys_if, with_each}

-- the frozen table of each closed cycle
abbrev pub frozen_tables : Side → DeskState → Confirmed
frozen_tables side s id = frozen side s.facts id

-- those of a cycle
abbrev pub cycle_keys : Side → DeskState → CycleId → List Key
cycle_keys side s id = keys_if None (frozen side s.facts id) ++ keys_if None (confirmed side s id)

-- in table order, each once
unfoldable pub page_keys : Side → DeskState → Date → List Key
page_keys side s day = with_each [] (flat_map (λ cycle. cycle_keys side s (cycle_of day cycle)) (range_with_len 0 (last_cycle + 1)))

-- as many as the tables of a day have rows at most
abbrev pub most_page_keys : ℕ
most_page_keys = (last_cycle + 1) * (2 * most_rows)
