-- What the exported reports have in common with the text reports.
use Rattle.std.specs.Prelude.{◌≡◌, ℕ, List, []}
use Rattle.std.specs.List.{flat_map}
use Rattle.gi_pairs.specs.declared.cycle_id.CycleId.{CycleId}
use Rattle.gi_pairs.specs.declared.side.Side.{Side}
use Rattle.gi_desk.specs.Machine.{DeskState}
use Rattle.gi_reports.specs.Confirmed.{confirmed_line, confirmed_lines}
use Rattle.gi_reports.specs.Open.{open_line, open_lines}
use Rattle.gi_exports.specs.Lines.{cycles_of, hours_of}
use Rattle.gi_exports.specs.declared.confirmed_hour.ConfirmedHour.{ConfirmedHour}
use Rattle.gi_exports.specs.declared.open_cycle.OpenCycle.{OpenCycle}

-- the line of the text report, in which no other quantity of the row stands
abbrev pub hour_line : ConfirmedHour → List ℕ
hour_line h = confirmed_line h.id (record { pair = h.pair; direction = h.direction; hours = [] }) h.hour h.quantity

abbrev pub cycle_line : OpenCycle → List ℕ
cycle_line c = open_line c.id c.stage

-- Of the same cycles, the text report of what is confirmed has a line for each exported hour, in the same order.
abbrev pub ListsConfirmed : Type 0
ListsConfirmed = (side : Side) (s : DeskState) (ids : List CycleId) → confirmed_lines side s ids ≡ flat_map hour_line (hours_of side s ids)

-- Of the same cycles, the text report of what stays open has a line for each exported cycle, in the same order.
abbrev pub ListsOpen : Type 0
ListsOpen = (side : Side) (s : DeskState) (ids : List CycleId) → open_lines side s ids ≡ flat_map cycle_line (cycles_of side s ids)
