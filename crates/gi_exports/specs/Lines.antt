-- The lines of the reports, before they are written in any form: those of the text reports, in the same order.
use Rattle.std.specs.Prelude.{◌≡◌, ℕ, List, [], map, filter, Option, Some, None}
use Rattle.std.specs.List.{enumerate_from, flat_map}
use Rattle.gi_pairs.specs.Table.{TableContents}
use Rattle.gi_pairs.specs.declared.cycle_id.CycleId.{CycleId}
use Rattle.gi_pairs.specs.declared.row.Row.{Row}
use Rattle.gi_pairs.specs.declared.side.Side.{Side}
use Rattle.gi_desk.specs.History.{state_of}
use Rattle.gi_desk.specs.Machine.{DeskState}
use Rattle.gi_desk.specs.Queries.{confirmed, stage_of}
use Rattle.gi_reports.specs.Cycles.{AreClosedCycles}
use Rattle.gi_reports.specs.Open.{is_open}
use Rattle.gi_exports.specs.declared.confirmed_hour.ConfirmedHour.{ConfirmedHour}
use Rattle.gi_exports.specs.declared.open_cycle.OpenCycle.{OpenCycle}

-- an hour of a row
abbrev pub hour_of : CycleId → Row → ℕ → ℕ → ConfirmedHour
hour_of id row hour quantity = record { id = id; direction = row.direction; pair = row.pair; hour = hour; quantity = quantity }

-- each hour of a row, from the table's first hour on
abbrev pub row_hours : CycleId → ℕ → Row → List ConfirmedHour
row_hours id first row = map (λ counted. hour_of id row counted.0 counted.1) (enumerate_from first row.hours)

-- each row of a table, in table order
abbrev pub table_hours : CycleId → TableContents → List ConfirmedHour
table_hours id table = flat_map (row_hours id table.first) table.rows

abbrev pub hours_if : CycleId → Option TableContents → List ConfirmedHour
hours_if id None = []
hours_if id (Some table) = table_hours id table

-- the hours of those cycles that are confirmed
abbrev pub hours_of : Side → DeskState → List CycleId → List ConfirmedHour
hours_of side s ids = flat_map (λ id. hours_if id (confirmed side s id)) ids

-- what is confirmed: each confirmed cycle by gas day and number, each row, each hour
pub record AreConfirmedHours (side : Side) (s : DeskState) (hours : List ConfirmedHour) : Type 0 where
  pub ids : List CycleId
  pub closed : AreClosedCycles s.facts ids
  pub listed : hours ≡ hours_of side s ids

abbrev pub cycle_of : Side → DeskState → CycleId → OpenCycle
cycle_of side s id = record { id = id; stage = stage_of (state_of side s.facts id) }

-- those cycles that are not confirmed
abbrev pub cycles_of : Side → DeskState → List CycleId → List OpenCycle
cycles_of side s ids = map (cycle_of side s) (filter (is_open side s) ids)

-- what stays open: each closed cycle that is not confirmed, by gas day and number
pub record AreOpenCycles (side : Side) (s : DeskState) (cycles : List OpenCycle) : Type 0 where
  pub ids : List CycleId
  pub closed : AreClosedCycles s.facts ids
  pub listed : cycles ≡ cycles_of side s ids
