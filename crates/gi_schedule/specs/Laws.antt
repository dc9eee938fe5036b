-- What holds of all schedules.
use Rattle.std.specs.Prelude.{◌≡◌, ◌≤◌, ◌+◌, ◌-◌, ℕ, List, map, true, Option, All, Contains, Some, None}
use Rattle.std.specs.List.Sorted.{IsStrictlyIncreasing, IsStrictlySortedBy}
use Rattle.jiff_core.specs.declared.civil.date.Date.{Date}
use Rattle.gi_pairs.specs.Key.{key_cmp}
use Rattle.gi_pairs.specs.Limits.{last_hour}
use Rattle.gi_pairs.specs.Row.{key_of}
use Rattle.gi_pairs.specs.Table.{TableContents}
use Rattle.gi_messages.specs.Limits.{last_cycle}
use Rattle.gi_pairs.specs.declared.row.Row.{Row}
use Rattle.gi_pairs.specs.declared.cycle_id.CycleId.{CycleId}
use Rattle.gi_pairs.specs.declared.side.Side.{Side}
use Rattle.gi_desk.specs.Machine.{DeskState, bad_fact}
use Rattle.gi_desk.specs.Queries.{confirmed}
use Rattle.gi_desk.specs.Writable.{FitsDesk}
use Rattle.gi_schedule.specs.Cuts.{cuts}
use Rattle.gi_schedule.specs.InForce.{Confirmed, cycle_in_force, cycle_of, hours_in_force}
use Rattle.gi_schedule.specs.Keys.{day_keys}
use Rattle.gi_schedule.specs.Lines.{IsSchedule}
use Rattle.gi_schedule.specs.Wanted.{wants_pair}
use Rattle.gi_schedule.specs.declared.cut_line.CutLine.{CutLine}
use Rattle.gi_schedule.specs.declared.schedule_line.ScheduleLine.{ScheduleLine}
use Rattle.gi_schedule.specs.declared.wanted.Wanted.{Wanted}

-- A schedule lists an hour with the cycle that is in force for it.
abbrev pub ListsWhatIsInForce : Type 0
ListsWhatIsInForce = (c : Confirmed) (day : Date) → All (λ at. cycle_in_force c day at.hour ≡ Some at.cycle) (hours_in_force c day)

-- It lists each hour for which a cycle is in force, and each pair and direction for which a confirmed cycle of the day has a row.
abbrev pub ListsEachHour : Type 0
ListsEachHour =
    (c : Confirmed) (day : Date) (hour cycle : ℕ) → 1 ≤ hour → hour ≤ last_hour → cycle_in_force c day hour ≡ Some cycle
    → Contains (hours_in_force c day) (record { hour = hour; cycle = cycle })

abbrev pub ListsEachPair : Type 0
ListsEachPair =
    (c : Confirmed) (portfolio : Option (List ℕ)) (day : Date) (cycle : ℕ) (table : TableContents) (row : Row) → cycle ≤ last_cycle → c (cycle_of day cycle) ≡ Some table
    → Contains table.rows row → wants_pair portfolio row.pair ≡ true → Contains (day_keys c portfolio day) (key_of row)

-- The pairs and directions stand in table order, each once, and the hours in order, each once.
abbrev pub ListsEachPairOnce : Type 0
ListsEachPairOnce = (c : Confirmed) (portfolio : Option (List ℕ)) (day : Date) → IsStrictlySortedBy key_cmp (day_keys c portfolio day)

abbrev pub ListsEachHourOnce : Type 0
ListsEachHourOnce = (c : Confirmed) (day : Date) → IsStrictlyIncreasing (map (λ at. at.hour) (hours_in_force c day))

-- Two sides that have confirmed the same have the same schedule.
abbrev pub SharesSchedules : Type 0
SharesSchedules =
    (side other : Side) (s t : DeskState) (wanted : Wanted) (lines others : List ScheduleLine) → bad_fact side s.point s.facts ≡ None → bad_fact other t.point t.facts ≡ None
    → ((id : CycleId) → confirmed side s id ≡ confirmed other t id) → IsSchedule side s wanted lines → IsSchedule other t wanted others → lines ≡ others

-- What was nominated less what is confirmed is what the two are said to have cut.
abbrev pub IsTold : CutLine → Type 0
IsTold line = line.by_capacity + line.by_peer ≡ line.nominated - line.confirmed

abbrev pub SaysWhatWasCut : Type 0
SaysWhatWasCut =
    (side : Side) (s : DeskState) (wanted : Wanted) (ids : List CycleId) → bad_fact side s.point s.facts ≡ None → FitsDesk side s.point s.facts
    → All IsTold (cuts side s wanted ids)
