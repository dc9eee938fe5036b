-- The confirmed cycle that is in force for an hour: of the confirmed cycles of the gas day the last that covers it.
use Rattle.std.specs.Prelude.{◌≡◌, ℕ, zero, suc, ◌+◌, ◌<◌, List, [], ◌∷◌, Bool, true, false, ◌&&◌, nat_le, if◌then◌else◌, Option, Some, None, is_some}
use Rattle.std.specs.List.{flat_map, range_with_len}
use Rattle.jiff_core.specs.declared.civil.date.Date.{Date}
use Rattle.gi_pairs.specs.Limits.{last_hour}
use Rattle.gi_pairs.specs.Table.{TableContents, reading}
use Rattle.gi_pairs.specs.declared.cycle_id.CycleId.{CycleId}
use Rattle.gi_pairs.specs.declared.key.Key.{Key}
use Rattle.gi_messages.specs.Limits.{last_cycle}
use Rattle.gi_schedule.specs.declared.hour_in_force.HourInForce.{HourInForce}

-- what a side has confirmed of each cycle
abbrev pub Confirmed : Type 0
Confirmed = CycleId → Option TableContents

abbrev pub cycle_of : Date → ℕ → CycleId
cycle_of day cycle = record { day = day; cycle = cycle }

-- a confirmed table, if there is one, covers the hour
abbrev pub covers : ℕ → Option TableContents → Bool
covers hour None = false
covers hour (Some table) = nat_le table.first hour && nat_le hour table.last

-- the cycle is confirmed and covers the hour
abbrev pub is_covered : Confirmed → Date → ℕ → ℕ → Bool
is_covered confirmed day hour cycle = covers hour (confirmed (cycle_of day cycle))

-- the last of the numbers below n that pass a test
unfoldable pub last_below : (ℕ → Bool) → ℕ → Option ℕ
last_below test zero = None
last_below test (suc n) = if test n then Some n else last_below test n

-- the cycle in force for an hour: of the day's confirmed cycles the last that covers it
abbrev pub cycle_in_force : Confirmed → Date → ℕ → Option ℕ
cycle_in_force confirmed day hour = last_below (is_covered confirmed day hour) (last_cycle + 1)

-- The cycle is confirmed and covers the hour, and no later confirmed cycle of the day does.
pub record IsInForce (confirmed : Confirmed) (day : Date) (hour cycle : ℕ) : Type 0 where
  pub covered : is_covered confirmed day hour cycle ≡ true
  pub last : (later : ℕ) → cycle < later → is_covered confirmed day hour later ≡ false

-- the day's last confirmed cycle
abbrev pub last_confirmed : Confirmed → Date → Option ℕ
last_confirmed confirmed day = last_below (λ cycle. is_some (confirmed (cycle_of day cycle))) (last_cycle + 1)

-- what a confirmed table has for a pair, a direction and an hour: 0 where it has no row for them
abbrev pub quantity_in : Key → ℕ → Option TableContents → ℕ
quantity_in key hour None = 0
quantity_in key hour (Some table) = reading table key.pair key.direction hour

-- what the cycle in force for an hour has
abbrev pub quantity_of : Confirmed → Date → Key → HourInForce → ℕ
quantity_of confirmed day key at = quantity_in key at.hour (confirmed (cycle_of day at.cycle))

abbrev pub hour_if : ℕ → Option ℕ → List HourInForce
hour_if hour None = []
hour_if hour (Some cycle) = record { hour = hour; cycle = cycle } ∷ []

-- each hour of the day for which a cycle is in force, in order
unfoldable pub hours_in_force : Confirmed → Date → List HourInForce
hours_in_force confirmed day = flat_map (λ hour. hour_if hour (cycle_in_force confirmed day hour)) (range_with_len 1 last_hour)
