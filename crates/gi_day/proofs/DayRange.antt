-- Gas days lie far within the numbers that the program counts in.
use Rattle.std.proofs.Common.{◌≡◌, ℕ, ◌<◌, ℤ, pos, neg_ℤ, ◌+ℤ◌, ◌-ℤ◌, ◌≤ℤ◌, int_div, w64, to_z, of_z, to_z-of_z, FitsSigned, Result, Ok, ◌∙◌, arith, refl}
use Rattle.jiff_core.proofs.CalendarLemmas.{day_count-later_year, day_count-lt_year, day_count-epoch, days_from_civil-day_count, day_count-day_of_year}
use Rattle.jiff_core.proofs.DateLemmas.{civil}
use Rattle.jiff_core.proofs.MarchLemmas.{day_count-early}
use Rattle.jiff_core.proofs.SignedLemmas.{signed_arith}
use Rattle.jiff_core.specs.Calendar.{day_count, IsBetween}
use Rattle.jiff_core.specs.Date.{epoch_day}
use Rattle.jiff_core.specs.Timestamp.{nanos_of_seconds, IsTimestampNanos}
use Rattle.jiff_core.specs.declared.civil.date.Date.{Date}
use Rattle.gi_day.proofs.DayFacts.{ahead}
use Rattle.gi_day.specs.Cycles.{first_cycle_start}
use Rattle.gi_day.specs.Zone.{instant_at}
use Rattle.gi_day.specs.declared.calendar.CalendarFault.{CalendarFault}
use Rattle.gi_day.specs.Day.{IsClose, IsGasYear}

-- 2200-01-01 is day 84,006
day_count-2200 : day_count (pos 2200) 1 1 ≡ 4_455_959
day_count-2200 = day_count-early (pos 2200) 12199 1 1 refl (omega arith) (omega arith) (omega arith)

-- a gas day comes after 1970-01-01 and before 2200-01-01
pub gas_day_range : (day : Date) → IsGasYear day.year → (pos 1 ≤ℤ epoch_day day) × (epoch_day day ≤ℤ pos 84_005)
gas_day_range day h =
    let date = civil day in
    let first = day_count-later_year (pos 1970) day.year (omega (arith, signed_arith)) (omega (arith, signed_arith, h)) in
    let place = day_count-day_of_year day.year day.month day.day date.2.0 in
    let last = day_count-lt_year day.year day.month day.day (pos 2200) 1 1 date (omega arith) (omega (arith, signed_arith, h)) in
    let count = days_from_civil-day_count day.year day.month day.day in
    omega (arith, signed_arith, day_count-epoch, day_count-2200)

-- and so do the dates beside it
pub close_to : (near day : Date) → IsGasYear day.year → (epoch_day day ≤ℤ (epoch_day near +ℤ pos 1)) × (epoch_day near ≤ℤ (epoch_day day +ℤ pos 1)) → IsClose near
close_to near day h beside = omega (arith, signed_arith, gas_day_range day h, beside)

-- so does the start of its first cycle
pub first_cycle_range : (day : Date) → IsGasYear day.year → IsBetween (pos 0) (pos 9_000_000_000) (first_cycle_start day)
unfolding first_cycle_start
first_cycle_range day h =
    let range = gas_day_range day h in
    let at = ahead (epoch_day day -ℤ pos 1) 14 in
    omega (arith, signed_arith, range, at.is, at.hours_in)

-- and the instants of a close date
pub close_instant : (date : Date) (hour : ℕ) → IsClose date → hour < 24
    → IsBetween (neg_ℤ (pos 10_000_000_000)) (pos 10_000_000_000) (instant_at (epoch_day date) hour)
close_instant date hour close h =
    let at = ahead (epoch_day date) hour in
    omega (arith, signed_arith, at.is, at.hours_in, close)

-- the whole seconds of an instant, and that it is one the library has
pub seconds_of : (nanos instant : ℤ) → nanos ≡ nanos_of_seconds instant → int_div nanos (pos 1_000_000_000) ≡ instant
seconds_of nanos instant e = omega (arith, signed_arith, e)

pub in_range : (nanos instant : ℤ) → nanos ≡ nanos_of_seconds instant → IsBetween (neg_ℤ (pos 10_000_000_000)) (pos 10_000_000_000) instant → IsTimestampNanos nanos
in_range nanos instant e range = omega (arith, signed_arith, e, range)

-- an instant that was answered, as a number of 64 bits
pub answered : (date : Date) (hour : ℕ) (given : ℤ) → IsClose date → hour < 24
    → ◌≡◌ {A = Result ℤ CalendarFault} (Ok given) (Ok (instant_at (epoch_day date) hour)) → to_z w64 (of_z w64 given) ≡ instant_at (epoch_day date) hour
answered date hour given close h e =
    let is : given ≡ instant_at (epoch_day date) hour = cc in
    let range = close_instant date hour close h in
    let fits : FitsSigned w64 given = omega (arith, signed_arith, is, range) in
    to_z-of_z fits ∙ is
