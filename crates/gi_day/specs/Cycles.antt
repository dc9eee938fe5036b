-- The gas day and its cycles, on instants (whole seconds since 1970-01-01T00:00Z).
-- Source: Regulation (EU) 312/2014, Articles 14 and 15, but for the two choices that are named.
use Rattle.std.specs.Prelude.{ℕ, ℤ, pos, ◌+◌, ◌-◌, ◌*◌, ◌<◌, ◌≤◌, ◌==◌, ◌+ℤ◌, ◌-ℤ◌, ◌*ℤ◌, ◌≤ℤ◌, int_lt, int_div, unsigned_abs, if◌then◌else◌, Option, Some, None, ⊤}
use Rattle.jiff_core.specs.Date.{epoch_day}
use Rattle.jiff_core.specs.declared.civil.date.Date.{Date}
use Rattle.gi_day.specs.Zone.{instant_at}

-- a gas day starts at 06:00 of its date, and ends where the next one starts
unfoldable pub day_start : Date → ℤ
day_start day = instant_at (epoch_day day) 6

unfoldable pub day_end : Date → ℤ
day_end day = instant_at (epoch_day day +ℤ pos 1) 6

-- how many hours it has
unfoldable pub hour_count : Date → ℕ
hour_count day = unsigned_abs (int_div (day_end day -ℤ day_start day) (pos 3600))

-- where an hour starts; hours are numbered from 1
unfoldable pub hour_start : Date → ℕ → ℤ
hour_start day hour = day_start day +ℤ (pos hour -ℤ pos 1) *ℤ pos 3600

-- cycle 0 starts at 14:00 of the date before: the nomination deadline
unfoldable pub first_cycle_start : Date → ℤ
first_cycle_start day = instant_at (epoch_day day -ℤ pos 1) 14

-- Cycle 1 starts three hours later, which is one hour after the confirmation (this project's
-- choice), and then one at every full hour.
unfoldable pub wait_hours : ℕ → ℕ
wait_hours cycle = if cycle == 0 then 0 else cycle + 2

unfoldable pub cycle_start : Date → ℕ → ℤ
cycle_start day cycle = first_cycle_start day +ℤ pos (wait_hours cycle * 3600)

-- The day has the cycle: it starts not later than three hours before the day's end (that the last
-- one starts exactly then is this project's choice).
unfoldable pub IsCycle : Date → ℕ → Type 0
IsCycle day cycle = (cycle_start day cycle +ℤ pos 10_800) ≤ℤ day_end day

-- How many cycles it has. Where it ends n hours after cycle 0 starts, the last cycle is n - 5: that one starts
-- n - 5 + 2 hours after cycle 0.
unfoldable pub cycle_count : Date → ℕ
cycle_count day = unsigned_abs (int_div (day_end day -ℤ first_cycle_start day) (pos 3600)) - 4

-- the number, or 1 where it is below 1
abbrev from_one : ℤ → ℕ
from_one n = if int_lt n (pos 1) then 1 else unsigned_abs n

-- the first hour that a cycle covers: a change takes effect two hours after the cycle's start
unfoldable pub first_hour : Date → ℕ → ℕ
first_hour day cycle =
    from_one (int_div (cycle_start day cycle +ℤ pos 7200 -ℤ day_start day) (pos 3600) +ℤ pos 1)

-- the cycle covers the hour, where the day has it: it starts two hours after the cycle's start or later
unfoldable pub IsCovered : Date → ℕ → ℕ → Type 0
IsCovered day cycle hour = (cycle_start day cycle +ℤ pos 7200) ≤ℤ hour_start day hour

-- the cycle comes after the last closed one, if any is closed
abbrev pub IsOpen : Option ℕ → ℕ → Type 0
IsOpen None cycle = ⊤
IsOpen (Some last_closed) cycle = last_closed < cycle

-- the least of those
abbrev pub IsLeastOpen : Option ℕ → ℕ → Type 0
IsLeastOpen last_closed cycle = IsOpen last_closed cycle × ((other : ℕ) → IsOpen last_closed other → cycle ≤ other)

-- At the moment the cycle is due: the day has it, it is the least after the last closed one, and it has started.
pub record IsDue (day : Date) (moment : ℤ) (last_closed : Option ℕ) (cycle : ℕ) : Type 0 where
  pub is_cycle : IsCycle day cycle
  pub is_least : IsLeastOpen last_closed cycle
  pub started : cycle_start day cycle ≤ℤ moment
