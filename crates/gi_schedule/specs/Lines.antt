-- The lines of a schedule, before they are written in any form.
use Rattle.std.specs.Prelude.{◌≡◌, ℕ, ℤ, pos, ◌*◌, ◌-ℤ◌, List, [], ◌∷◌, ◌++◌, map, Bool, false, ◌&&◌, if◌then◌else◌, nat_eq, Option, Some, None, option_map, codes}
use Rattle.std.specs.List.{flat_map, sum_by}
use Rattle.jiff_core.specs.declared.civil.date.Date.{Date}
use Rattle.gi_pairs.specs.Direction.{direction_text}
use Rattle.gi_pairs.specs.Quantity.{most_quantity}
use Rattle.gi_pairs.specs.declared.cycle_id.CycleId.{CycleId}
use Rattle.gi_pairs.specs.declared.direction.Direction.{Direction}
use Rattle.gi_pairs.specs.declared.direction.Direction.TheVariants.{IM, MI}
use Rattle.gi_pairs.specs.declared.key.Key.{Key}
use Rattle.gi_pairs.specs.declared.side.Side.{Side}
use Rattle.gi_desk.specs.Machine.{DeskState}
use Rattle.gi_desk.specs.Queries.{confirmed}
use Rattle.gi_reports.specs.Cycles.{AreClosedCycles}
use Rattle.gi_schedule.specs.InForce.{Confirmed, hours_in_force, last_confirmed, quantity_of}
use Rattle.gi_schedule.specs.Keys.{day_keys, most_keys}
use Rattle.gi_schedule.specs.Wanted.{wants_day}
use Rattle.gi_schedule.specs.declared.hour_in_force.HourInForce.{HourInForce}
use Rattle.gi_schedule.specs.declared.schedule_line.Flow.{Flow}
use Rattle.gi_schedule.specs.declared.schedule_line.Flow.TheVariants.{Gross, Net}
use Rattle.gi_schedule.specs.declared.schedule_line.ScheduleLine.{ScheduleLine}
use Rattle.gi_schedule.specs.declared.wanted.Wanted.{Wanted}

abbrev pub flow_text : Flow → List ℕ
flow_text (Gross direction) = direction_text direction
flow_text Net = codes "net"

-- the portfolios of the line's pair, where it is of one
abbrev pub initiating_of : ScheduleLine → Option (List ℕ)
initiating_of line = option_map (λ pair. pair.initiating) line.pair

abbrev pub matching_of : ScheduleLine → Option (List ℕ)
matching_of line = option_map (λ pair. pair.matching) line.pair

-- ---- pairs

-- what is in force for a pair and a direction in an hour
abbrev pub hour_line : Confirmed → Date → Key → HourInForce → ScheduleLine
hour_line confirmed day key at = record {
  day = day;
  cycle = Some at.cycle;
  flow = Gross key.direction;
  pair = Some key.pair;
  hour = Some at.hour;
  quantity = pos (quantity_of confirmed day key at);
}

-- the same of each hour
abbrev pub key_lines : Confirmed → Date → List HourInForce → Key → List ScheduleLine
key_lines confirmed day hours key = map (hour_line confirmed day key) hours

abbrev pub keys_lines : Confirmed → Date → List Key → List HourInForce → List ScheduleLine
keys_lines confirmed day keys hours = flat_map (key_lines confirmed day hours) keys

-- ---- totals

-- a quantity counts for its own direction
abbrev pub counted : Direction → Direction → ℕ → ℕ
counted IM IM quantity = quantity
counted IM MI quantity = 0
counted MI IM quantity = 0
counted MI MI quantity = quantity

-- what is in force in a direction, of all pairs together: in an hour, in kWh/h, and on the day, in kWh
abbrev pub hour_total : Confirmed → Date → Direction → List Key → HourInForce → ℕ
hour_total confirmed day direction keys at = sum_by (λ key. counted direction key.direction (quantity_of confirmed day key at)) keys

abbrev pub day_total : Confirmed → Date → Direction → List Key → List HourInForce → ℕ
day_total confirmed day direction keys hours = sum_by (hour_total confirmed day direction keys) hours

abbrev pub most_hourly : ℕ
most_hourly = most_keys * most_quantity

abbrev pub total_line : Date → Option HourInForce → Flow → ℤ → ScheduleLine
total_line day at flow quantity = record {
  day = day;
  cycle = option_map (λ at. at.cycle) at;
  flow = flow;
  pair = None;
  hour = option_map (λ at. at.hour) at;
  quantity = quantity;
}

-- what goes in each direction, and what goes out of the initiating operator's system less what comes into it
abbrev pub total_lines : Date → Option HourInForce → ℕ → ℕ → List ScheduleLine
total_lines day at initiating matching =
    total_line day at (Gross IM) (pos initiating) ∷ total_line day at (Gross MI) (pos matching) ∷ total_line day at Net (pos initiating -ℤ pos matching) ∷ []

abbrev pub hour_totals : Confirmed → Date → List Key → List HourInForce → List ScheduleLine
hour_totals confirmed day keys hours =
    flat_map (λ at. total_lines day (Some at) (hour_total confirmed day IM keys at) (hour_total confirmed day MI keys at)) hours

-- ---- gas days

-- the lines of the pairs, the totals of the hours, the totals of the day
abbrev pub day_lines : Confirmed → Date → List Key → List HourInForce → List ScheduleLine
day_lines confirmed day keys hours =
    keys_lines confirmed day keys hours ++ (hour_totals confirmed day keys hours
    ++ total_lines day None (day_total confirmed day IM keys hours) (day_total confirmed day MI keys hours))

unfoldable pub schedule : Confirmed → Option (List ℕ) → Date → List ScheduleLine
schedule confirmed portfolio day = day_lines confirmed day (day_keys confirmed portfolio day) (hours_in_force confirmed day)

-- a gas day is listed at its last confirmed cycle
abbrev pub is_number : ℕ → Option ℕ → Bool
is_number n None = false
is_number n (Some other) = nat_eq n other

unfoldable pub is_listed : Confirmed → Wanted → CycleId → Bool
is_listed confirmed wanted id = wants_day wanted.day id.day && is_number id.cycle (last_confirmed confirmed id.day)

abbrev pub lines_if : Confirmed → Wanted → CycleId → List ScheduleLine
lines_if confirmed wanted id = if is_listed confirmed wanted id then schedule confirmed wanted.portfolio id.day else []

abbrev pub schedules : Confirmed → Wanted → List CycleId → List ScheduleLine
schedules confirmed wanted ids = flat_map (lines_if confirmed wanted) ids

-- the schedule of a side: each gas day that has a confirmed cycle, in order
pub record IsSchedule (side : Side) (s : DeskState) (wanted : Wanted) (lines : List ScheduleLine) : Type 0 where
  pub ids : List CycleId
  pub closed : AreClosedCycles s.facts ids
  pub listed : lines ≡ schedules (confirmed side s) wanted ids
