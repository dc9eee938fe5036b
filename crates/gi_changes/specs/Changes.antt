-- What each confirmed cycle of a gas day changed against what was in force before it.
use Rattle.std.specs.Prelude.{◌≡◌, ℕ, pos, ◌+◌, ◌-ℤ◌, List, [], ◌∷◌, nat_eq, if◌then◌else◌, Option, Some, None}
use Rattle.std.specs.List.{flat_map, range_with_len}
use Rattle.jiff_core.specs.declared.civil.date.Date.{Date}
use Rattle.gi_pairs.specs.Table.{TableContents, covered, reading}
use Rattle.gi_pairs.specs.declared.cycle_id.CycleId.{CycleId}
use Rattle.gi_pairs.specs.declared.key.Key.{Key}
use Rattle.gi_pairs.specs.declared.side.Side.{Side}
use Rattle.gi_messages.specs.Limits.{last_cycle}
use Rattle.gi_desk.specs.Machine.{DeskState}
use Rattle.gi_desk.specs.Queries.{confirmed}
use Rattle.gi_reports.specs.Cycles.{AreClosedCycles}
use Rattle.gi_schedule.specs.InForce.{Confirmed, cycle_of, is_covered, last_below, quantity_of}
use Rattle.gi_schedule.specs.Keys.{keys_before}
use Rattle.gi_schedule.specs.Lines.{is_listed}
use Rattle.gi_schedule.specs.declared.wanted.Wanted.{Wanted}
use Rattle.gi_changes.specs.declared.change_line.ChangeLine.{ChangeLine}

-- what a cycle has for an hour, and 0 where there is none
abbrev pub quantity_if : Confirmed → Date → Key → ℕ → Option ℕ → ℕ
quantity_if confirmed day key hour None = 0
quantity_if confirmed day key hour (Some cycle) = quantity_of confirmed day key (record { hour = hour; cycle = cycle })

-- What was in force for an hour before a cycle: what the last of the day's confirmed cycles before it that covers the hour
-- has, and 0 where none does.
abbrev pub quantity_before : Confirmed → Date → Key → ℕ → ℕ → ℕ
quantity_before confirmed day key hour end = quantity_if confirmed day key hour (last_below (is_covered confirmed day hour) end)

abbrev pub line_of : CycleId → Key → ℕ → ℕ → ℕ → ChangeLine
line_of id key hour before after = record {
  id = id;
  direction = key.direction;
  pair = key.pair;
  hour = hour;
  before = before;
  after = after;
  change = pos after -ℤ pos before;
}

-- an hour of a pair and a direction, by the confirmed table of a cycle
abbrev pub hour_change : Confirmed → CycleId → Key → TableContents → ℕ → ChangeLine
hour_change confirmed id key table hour =
    line_of id key hour (quantity_before confirmed id.day key hour id.cycle) (reading table key.pair key.direction hour)

-- where the two differ
abbrev pub if_changed : ChangeLine → List ChangeLine
if_changed line = if nat_eq line.before line.after then [] else line ∷ []

-- the hours that the cycle covers
abbrev pub key_changes : Confirmed → CycleId → TableContents → Key → List ChangeLine
key_changes confirmed id table key =
    flat_map (λ hour. if_changed (hour_change confirmed id key table hour)) (range_with_len table.first (covered table.first table.last))

abbrev pub keys_changes : Confirmed → CycleId → List Key → TableContents → List ChangeLine
keys_changes confirmed id keys table = flat_map (key_changes confirmed id table) keys

abbrev pub changes_if : Confirmed → CycleId → List Key → Option TableContents → List ChangeLine
changes_if confirmed id keys None = []
changes_if confirmed id keys (Some table) = keys_changes confirmed id keys table

-- the pairs and directions of the rows of all the day's confirmed cycles up to this one: one that has no row any more changes to 0
abbrev pub cycle_changes : Confirmed → Option (List ℕ) → Date → ℕ → List ChangeLine
cycle_changes confirmed portfolio day cycle =
    changes_if confirmed (cycle_of day cycle) (keys_before confirmed portfolio day (cycle + 1)) (confirmed (cycle_of day cycle))

-- the changes of a gas day: the cycles in order, each pair and direction in table order, the hours in order
unfoldable pub changes : Confirmed → Option (List ℕ) → Date → List ChangeLine
changes confirmed portfolio day = flat_map (cycle_changes confirmed portfolio day) (range_with_len 0 (last_cycle + 1))

-- ---- gas days

-- a gas day that is wanted is listed at its last confirmed cycle
abbrev pub changes_at : Confirmed → Wanted → CycleId → List ChangeLine
changes_at confirmed wanted id = if is_listed confirmed wanted id then changes confirmed wanted.portfolio id.day else []

abbrev pub all_changes : Confirmed → Wanted → List CycleId → List ChangeLine
all_changes confirmed wanted ids = flat_map (changes_at confirmed wanted) ids

-- the changes of a side: of each gas day that has a confirmed cycle, in order
pub record AreChanges (side : Side) (s : DeskState) (wanted : Wanted) (lines : List ChangeLine) : Type 0 where
  pub ids : List CycleId
  pub closed : AreClosedCycles s.facts ids
  pub listed : lines ≡ all_changes (confirmed side s) wanted ids
