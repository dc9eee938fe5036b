-- Of which cycle what is nominated and processed for an hour is shown.
use Rattle.std.specs.Prelude.{ℕ, zero, suc, List, [], ◌∷◌, ◌++◌, Option, Some, None}
use Rattle.jiff_core.specs.declared.civil.date.Date.{Date}
use Rattle.gi_pairs.specs.declared.side.Side.{Side}
use Rattle.gi_desk.specs.Machine.{DeskState}
use Rattle.gi_desk.specs.Queries.{confirmed}
use Rattle.gi_schedule.specs.InForce.{cycle_in_force}
use Rattle.gi_page.specs.Keys.{frozen_tables}
use Rattle.gi_page.specs.declared.hour_cycles.HourCycles.{HourCycles}

-- the last closed cycle that covers the hour
abbrev pub last_closed : Side → DeskState → Date → ℕ → Option ℕ
last_closed side s day hour = cycle_in_force (frozen_tables side s) day hour

abbrev pub first_of : Option ℕ → Option ℕ → Option ℕ
first_of None other = other
first_of (Some cycle) other = Some cycle

-- the cycle in force, and where there is none the last closed one that covers the hour
abbrev pub shown_cycle : Side → DeskState → Date → ℕ → Option ℕ
shown_cycle side s day hour = first_of (cycle_in_force (confirmed side s) day hour) (last_closed side s day hour)

abbrev pub cycles_at : Side → DeskState → Date → ℕ → HourCycles
cycles_at side s day number = record { number = number; shown = shown_cycle side s day number; cycle = cycle_in_force (confirmed side s) day number }

-- each hour of a day, in order
abbrev pub hour_cycles : Side → DeskState → Date → ℕ → List HourCycles
hour_cycles side s day zero = []
hour_cycles side s day (suc before) = hour_cycles side s day before ++ cycles_at side s day (suc before) ∷ []
