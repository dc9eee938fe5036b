-- The clock of the gas day: Central European time, as a rule text says it, and the instants of its full hours.
-- Instants are whole seconds since 1970-01-01T00:00Z. Days are day numbers from 1970-01-01, and
-- civil seconds are what the clock shows, counted from the start of that day.
use Rattle.std.specs.Prelude.{◌≡◌, ℕ, ℤ, pos, ◌*◌, ◌<◌, ◌+ℤ◌, ◌-ℤ◌, ◌*ℤ◌, ◌&&◌, Bool, int_le, int_lt, if◌then◌else◌, List, codes}
use Rattle.jiff_core.specs.Date.{epoch_day}
use Rattle.jiff_core.specs.Time.{time_nanos}
use Rattle.jiff_core.specs.Timestamp.{nanos_of_seconds}
use Rattle.jiff_core.specs.declared.civil.datetime.DateTime.{DateTime}
use Rattle.jiff_tz.specs.PosixRule.{last_weekday}
use Rattle.jiff_tz.specs.Year.{year_of_day}
use Rattle.jiff_tz.specs.declared.timezone.TimeZone.{TimeZone}
use Rattle.jiff_zoned.specs.Zoned.{picked_instant}
use Rattle.jiff.specs.Placed.{IsPosixZone}

-- the rule text of the zone: UTC+1, and UTC+2 from the last Sunday in March to the last one in October
abbrev pub zone_text : List ℕ
zone_text = codes "CET-1CEST,M3.5.0,M10.5.0/3"

-- the last Sunday of the month, at 03:00 on the clock: a Sunday has number 0
unfoldable pub last_sunday_at_three : ℤ → ℕ → ℤ
last_sunday_at_three year month = last_weekday year month 0 *ℤ pos 86400 +ℤ pos 10800

-- Summer time runs from 03:00 in March (02:00 to 03:00 is skipped) to 03:00 in October (02:00 to 03:00 comes twice).
unfoldable pub is_summer : ℤ → ℤ → Bool
is_summer year civil = int_le (last_sunday_at_three year 3) civil && int_lt civil (last_sunday_at_three year 10)

-- how far the clock is ahead of UTC, in seconds
unfoldable pub clock_offset : ℤ → ℤ → ℤ
clock_offset year civil = if is_summer year civil then pos 7200 else pos 3600

-- the civil seconds of a full hour of a day
unfoldable pub civil_hour : ℤ → ℕ → ℤ
civil_hour day hour = day *ℤ pos 86400 +ℤ pos (hour * 3600)

-- the instant of a full hour of a day
unfoldable pub instant_at : ℤ → ℕ → ℤ
instant_at day hour = civil_hour day hour -ℤ clock_offset (year_of_day day) (civil_hour day hour)

-- the clock shows this full hour
abbrev pub IsFullHour : ℕ → DateTime → Type 0
IsFullHour hour dt = (hour < 24) × (time_nanos dt.time ≡ hour * 3_600_000_000_000)

-- the instants of full hours are those that the library picks in the zone of this rule text
abbrev pub GivesInstants : List ℕ → (ℤ → ℕ → ℤ) → Type 0
GivesInstants text instant =
    (tz : TimeZone) → IsPosixZone text tz → (dt : DateTime) (hour : ℕ) → IsFullHour hour dt
    → picked_instant tz dt ≡ nanos_of_seconds (instant (epoch_day dt.date) hour)
