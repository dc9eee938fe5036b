-- What holds of all pages.
use Rattle.std.specs.Prelude.{◌≡◌, ◌≤◌, ℕ, List, Option, Some, None, All, Contains}
use Rattle.std.specs.List.{sum_by}
use Rattle.std.specs.List.Sorted.{IsStrictlySortedBy}
use Rattle.jiff_core.specs.declared.civil.date.Date.{Date}
use Rattle.gi_pairs.specs.Key.{key_cmp}
use Rattle.gi_pairs.specs.Row.{key_of}
use Rattle.gi_pairs.specs.Table.{TableContents}
use Rattle.gi_pairs.specs.declared.direction.Direction.{Direction}
use Rattle.gi_pairs.specs.declared.key.Key.{Key}
use Rattle.gi_pairs.specs.declared.row.Row.{Row}
use Rattle.gi_pairs.specs.declared.side.Side.{Side}
use Rattle.gi_messages.specs.Limits.{last_cycle}
use Rattle.gi_desk.specs.Machine.{DeskState}
use Rattle.gi_desk.specs.Queries.{confirmed, frozen}
use Rattle.gi_schedule.specs.InForce.{cycle_in_force, cycle_of, quantity_of}
use Rattle.gi_schedule.specs.Keys.{day_keys}
use Rattle.gi_schedule.specs.Lines.{counted, hour_total}
use Rattle.gi_schedule.specs.declared.hour_in_force.HourInForce.{HourInForce}
use Rattle.gi_picture.specs.declared.hour.Amounts.{Amounts}
use Rattle.gi_picture.specs.declared.hour.Hour.{Hour}
use Rattle.gi_page.specs.Flows.{flow_hour, hours_of, sums_of}
use Rattle.gi_page.specs.Keys.{page_keys}
use Rattle.gi_page.specs.Shown.{hour_cycles, shown_cycle}
use Rattle.gi_page.specs.declared.hour_cycles.HourCycles.{HourCycles}

-- an hour for which a cycle is in force
abbrev pub at_hour : HourInForce → Option ℕ → HourCycles
at_hour at shown = record { number = at.hour; shown = shown; cycle = Some at.cycle }

-- What is in force for a pair in an hour is what the schedule says.
abbrev pub TellsTheSchedule : Type 0
TellsTheSchedule =
    (side : Side) (s : DeskState) (day : Date) (key : Key) (at : HourInForce) (shown : Option ℕ)
    → (flow_hour side s day key (at_hour at shown)).amounts.in_force ≡ quantity_of (confirmed side s) day key at

-- The sum that is in force is that of the schedule, over the same keys.
abbrev pub SumsTheSchedule : Type 0
SumsTheSchedule =
    (side : Side) (s : DeskState) (day : Date) (direction : Direction) (keys : List Key) (at : HourInForce) (shown : Option ℕ)
    → (sums_of side s day direction (at_hour at shown) keys).in_force ≡ hour_total (confirmed side s) day direction keys at

-- In an hour for which a cycle is in force, the sum over the keys of the page is that of the schedule of the day.
abbrev pub SumsTheDay : Type 0
SumsTheDay =
    (side : Side) (s : DeskState) (day : Date) (direction : Direction) (at : HourInForce) (shown : Option ℕ) → cycle_in_force (confirmed side s) day at.hour ≡ Some at.cycle
    → (sums_of side s day direction (at_hour at shown) (page_keys side s day)).in_force ≡ hour_total (confirmed side s) day direction (day_keys (confirmed side s) None day) at

-- The sums of an hour in a direction are those of what the rows of the direction show.
abbrev pub row_sum : (Amounts → ℕ) → Side → DeskState → Date → Direction → HourCycles → List Key → ℕ
row_sum amount side s day direction at keys = sum_by (λ key. counted direction key.direction (amount (flow_hour side s day key at).amounts)) keys

pub record AreRowSums (side : Side) (s : DeskState) (day : Date) (direction : Direction) (at : HourCycles) (keys : List Key) (sums : Amounts) : Type 0 where
  pub nominated : sums.nominated ≡ row_sum (λ amounts. amounts.nominated) side s day direction at keys
  pub processed : sums.processed ≡ row_sum (λ amounts. amounts.processed) side s day direction at keys
  pub peers : sums.peers ≡ row_sum (λ amounts. amounts.peers) side s day direction at keys
  pub in_force : sums.in_force ≡ row_sum (λ amounts. amounts.in_force) side s day direction at keys

abbrev pub SumsTheRows : Type 0
SumsTheRows =
    (side : Side) (s : DeskState) (day : Date) (direction : Direction) (at : HourCycles) (keys : List Key)
    → AreRowSums side s day direction at keys (sums_of side s day direction at keys)

-- An hour of a page stands with the cycle in force for it, and with the one that is shown.
pub record IsShown (side : Side) (s : DeskState) (day : Date) (hour : Hour) : Type 0 where
  pub in_force : hour.cycle ≡ cycle_in_force (confirmed side s) day hour.number
  pub shown : hour.shown ≡ shown_cycle side s day hour.number

abbrev pub ShowsWhatIsInForce : Type 0
ShowsWhatIsInForce =
    (side : Side) (s : DeskState) (day : Date) (keys : List Key) (count : ℕ) → All (IsShown side s day) (hours_of side s day keys (hour_cycles side s day count))

-- Each row of a closed cycle, and of a confirmed one, is listed.
abbrev pub ListsEachFrozen : Type 0
ListsEachFrozen =
    (side : Side) (s : DeskState) (day : Date) (cycle : ℕ) (table : TableContents) (row : Row) → cycle ≤ last_cycle → frozen side s.facts (cycle_of day cycle) ≡ Some table
    → Contains table.rows row → Contains (page_keys side s day) (key_of row)

abbrev pub ListsEachConfirmed : Type 0
ListsEachConfirmed =
    (side : Side) (s : DeskState) (day : Date) (cycle : ℕ) (table : TableContents) (row : Row) → cycle ≤ last_cycle → confirmed side s (cycle_of day cycle) ≡ Some table
    → Contains table.rows row → Contains (page_keys side s day) (key_of row)

-- The pairs and directions stand in table order, each once.
abbrev pub ListsEachOnce : Type 0
ListsEachOnce = (side : Side) (s : DeskState) (day : Date) → IsStrictlySortedBy key_cmp (page_keys side s day)
