-- What is shown of an hour, of a pair in a direction, and of all pairs together.
use Rattle.std.specs.Prelude.{ℕ, List, map, Option, Some, None, option_map}
use Rattle.std.specs.List.{sum_by}
use Rattle.jiff_core.specs.declared.civil.date.Date.{Date}
use Rattle.gi_pairs.specs.declared.direction.Direction.{Direction}
use Rattle.gi_pairs.specs.declared.direction.Direction.TheVariants.{IM, MI}
use Rattle.gi_pairs.specs.declared.key.Key.{Key}
use Rattle.gi_pairs.specs.declared.side.Side.{Side}
use Rattle.gi_messages.specs.declared.nomination_line.NominationLine.{NominationLine}
use Rattle.gi_desk.specs.Machine.{DeskState}
use Rattle.gi_desk.specs.Queries.{confirmed, meeting}
use Rattle.gi_schedule.specs.InForce.{Confirmed, cycle_of, quantity_in}
use Rattle.gi_schedule.specs.Lines.{counted}
use Rattle.gi_schedule.specs.Nominated.{nominated_line, quantity_if}
use Rattle.gi_picture.specs.declared.hour.Amounts.{Amounts}
use Rattle.gi_picture.specs.declared.hour.Hour.{Hour}
use Rattle.gi_day_tables.specs.declared.flow_hour.FlowHour.{FlowHour}
use Rattle.gi_page.specs.Keys.{frozen_tables}
use Rattle.gi_page.specs.declared.hour_cycles.HourCycles.{HourCycles}

-- the peer's table that each cycle met
abbrev pub met : DeskState → Confirmed
met s id = option_map (λ meeting. meeting.1) (meeting s.facts id)

-- what was nominated as a cycle was closed, and 0 where there is no cycle
abbrev pub nominated_if : Side → DeskState → Date → Key → ℕ → Option ℕ → ℕ
nominated_if side s day key hour None = 0
nominated_if side s day key hour (Some cycle) = quantity_if hour (nominated_line side s.facts (cycle_of day cycle) key)

-- what the table of a cycle has, of those tables, and 0 where there is no cycle
abbrev pub read_if : Confirmed → Date → Key → ℕ → Option ℕ → ℕ
read_if tables day key hour None = 0
read_if tables day key hour (Some cycle) = quantity_in key hour (tables (cycle_of day cycle))

-- nominated and processed of the cycle that is shown, the peer's and in force of the cycle in force
abbrev pub amounts_of : Side → DeskState → Date → Key → HourCycles → Amounts
amounts_of side s day key at = record {
  nominated = nominated_if side s day key at.number at.shown;
  processed = read_if (frozen_tables side s) day key at.number at.shown;
  peers = read_if (met s) day key at.number at.cycle;
  in_force = read_if (confirmed side s) day key at.number at.cycle;
}

abbrev pub flow_hour : Side → DeskState → Date → Key → HourCycles → FlowHour
flow_hour side s day key at = record { number = at.number; shown = at.shown; cycle = at.cycle; amounts = amounts_of side s day key at }

-- the hours of a pair in a direction
abbrev pub flow_hours : Side → DeskState → Date → List HourCycles → Key → List FlowHour
flow_hours side s day cycles key = map (flow_hour side s day key) cycles

-- ---- of all pairs together

-- the sum, over the pairs of a direction, of one of the amounts
unfoldable pub sum_of : (Amounts → ℕ) → Side → DeskState → Date → Direction → HourCycles → List Key → ℕ
sum_of amount side s day direction at keys = sum_by (λ key. counted direction key.direction (amount (amounts_of side s day key at))) keys

abbrev pub sums_of : Side → DeskState → Date → Direction → HourCycles → List Key → Amounts
sums_of side s day direction at keys = record {
  nominated = sum_of (λ amounts. amounts.nominated) side s day direction at keys;
  processed = sum_of (λ amounts. amounts.processed) side s day direction at keys;
  peers = sum_of (λ amounts. amounts.peers) side s day direction at keys;
  in_force = sum_of (λ amounts. amounts.in_force) side s day direction at keys;
}

abbrev pub hour_of : Side → DeskState → Date → List Key → HourCycles → Hour
hour_of side s day keys at = record {
  number = at.number;
  shown = at.shown;
  cycle = at.cycle;
  im = sums_of side s day IM at keys;
  mi = sums_of side s day MI at keys;
}

-- the hours of the day
abbrev pub hours_of : Side → DeskState → Date → List Key → List HourCycles → List Hour
hours_of side s day keys cycles = map (hour_of side s day keys) cycles
