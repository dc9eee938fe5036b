-- What the rule text of the zone says of each full hour.
use Rattle.std.proofs.Common.{◌≡◌, ℕ, ◌<◌, ◌&&◌, int_lt, int_le, if◌then◌else◌, ℤ, pos, ◌+ℤ◌, ◌-ℤ◌, ◌*ℤ◌, ◌≤ℤ◌, codes, Option, Some, None, option_map, ap, sym, ◌∙◌, arith, refl}
use Rattle.std.proofs.lemmas.Int.{ints}
use Rattle.std.specs.Int.{IsInRange}
use Rattle.std.specs.Prelude.{IsSome}
use Rattle.jiff_core.proofs.SignedLemmas.{signed_arith}
use Rattle.jiff_core.proofs.CalendarLemmas.{days_from_civil-day_count, day_count-day_of_year, days_in_month_bounds, day_of_year_bound, day_count-day, day_count-lt_month}
use Rattle.jiff_core.proofs.DateTimeLemmas.{civil_nanos-parts}
use Rattle.jiff_core.specs.Calendar.{IsYear, days_from_civil, days_in_month, days_in_year}
use Rattle.jiff_core.specs.Date.{epoch_day}
use Rattle.jiff_core.specs.DateTime.{civil_nanos}
use Rattle.jiff_core.specs.Timestamp.{nanos_of_seconds}
use Rattle.jiff_core.specs.declared.Offset.{Offset}
use Rattle.jiff_core.specs.declared.civil.datetime.DateTime.{DateTime}
use Rattle.jiff_tz.proofs.OnLiterals.{jiff_tz_on_literals}
use Rattle.jiff_tz.proofs.PosixLemmas.{ambiguous_at-some}
use Rattle.jiff_tz.proofs.YearLemmas.{year_of_day-date, year_start_bound, year_end_bound}
use Rattle.jiff_tz.specs.Ambiguous.{compatible_offset}
use Rattle.jiff_tz.specs.PosixReader.{read_whole}
use Rattle.jiff_tz.specs.PosixRule.{rule_nanos, rule_day, last_weekday, first_day, first_nanosecond, last_nanosecond, clamp_to, ambiguous_by, saturating_add, shift_between, civil_min, civil_max}
use Rattle.jiff_tz.specs.PosixText.{TzText, DstText, tz_view, dst_view, day_time_view}
use Rattle.jiff_tz.specs.Zone.{ambiguous_at}
use Rattle.jiff_tz.specs.declared.posix.Day.TheVariants.{WeekdayOfMonth}
use Rattle.jiff_tz.specs.declared.posix.DayTime.{DayTime}
use Rattle.jiff_tz.specs.declared.posix.Dst.{Dst}
use Rattle.jiff_tz.specs.declared.posix.TimeZone.{TimeZone as Rule}
use Rattle.jiff_tz.specs.declared.timezone.TimeZone.{TimeZone}
use Rattle.jiff_tz.specs.declared.timezone.TimeZone.TheVariants.{UTC, Unknown, Fixed, Posix, Tzif}
use Rattle.jiff_zoned.specs.Zoned.{picked_instant}
use Rattle.jiff.specs.Placed.{IsPosixZone}
use Rattle.gi_day.specs.Zone.{zone_text, last_sunday_at_three, is_summer, clock_offset, civil_hour, instant_at, IsFullHour}

-- what the rule text says
summer_text : DstText
summer_text = record {
  name = codes "CEST";
  seconds = pos 7200;
  start = (WeekdayOfMonth 3 5 0, pos 7200);
  finish = (WeekdayOfMonth 10 5 0, pos 10800);
}

rule_text : TzText
rule_text = record {
  std_name = codes "CET";
  std_seconds = pos 3600;
  dst = Some summer_text;
}

text_is : read_whole zone_text ≡ Some rule_text
unfolding jiff_tz_on_literals rule_text summer_text
text_is = refl

-- it is read
pub is_read : IsSome (read_whole zone_text)
is_read = rw text_is refl

-- the last Sunday of a month lies in its last seven days
sunday_in : (year : ℤ) (month : ℕ) → ((days_from_civil year month (days_in_month year month) -ℤ pos 6) ≤ℤ last_weekday year month 0)
    × (last_weekday year month 0 ≤ℤ days_from_civil year month (days_in_month year month))
sunday_in year month = omega (arith, signed_arith)

-- so it lies in its year
month_in_year : (year : ℤ) (month : ℕ) → IsYear year → IsInRange 1 12 month
    → (first_day year ≤ℤ last_weekday year month 0) × ((last_weekday year month 0 +ℤ pos 1) ≤ℤ (first_day year +ℤ pos (days_in_year year)))
month_in_year year month y m =
    let length = days_in_month_bounds year month in
    let last : ℕ = days_in_month year month in
    let place = day_count-day_of_year year month last (omega (arith, length)) in
    let bound = day_of_year_bound year month last (y, m, omega (arith, length)) in
    let count = days_from_civil-day_count year month last in
    let first = days_from_civil-day_count year 1 1 in
    let week = sunday_in year month in
    omega (arith, signed_arith, length)

kept : (low high n : ℤ) → low ≤ℤ n → n ≤ℤ high → clamp_to low high n ≡ n
kept low high n a b = grind (arith, ints, a, b)

-- when a rule's moment falls in a year, on the clock
rule_at : (year : ℤ) (d : DayTime) (month seconds : ℕ) → IsYear year → IsInRange 1 12 month → seconds < 86400
    → day_time_view d ≡ (WeekdayOfMonth month 5 0, pos seconds)
    → rule_nanos year d (pos 0) ≡ nanos_of_seconds (last_weekday year month 0 *ℤ pos 86400 +ℤ pos seconds)
unfolding rule_nanos rule_day
rule_at year d month seconds y m s is =
    let date : d.date ≡ WeekdayOfMonth month 5 0 = ap (λ p. p.0) is in
    let time : d.time ≡ pos seconds = ap (λ p. p.1) is in
    let within = month_in_year year month y m in
    let moment : ℤ = last_weekday year month 0 *ℤ pos 86_400_000_000_000 +ℤ nanos_of_seconds (pos seconds -ℤ pos 0) in
    let same : moment ≡ nanos_of_seconds (last_weekday year month 0 *ℤ pos 86400 +ℤ pos seconds) = omega (arith, signed_arith) in
    let fits = kept (first_nanosecond year) (last_nanosecond year) moment (omega (arith, signed_arith)) (omega (arith, signed_arith)) in
    rw (date, time) (fits ∙ same)

-- the offset of a moment on the clock, between a start in spring and an end in autumn
offset_by : (std dst : Offset) (start end at : ℤ) → std.seconds ≡ pos 3600 → dst.seconds ≡ pos 7200 → start ≤ℤ end
    → saturating_add start (shift_between std dst) ≡ start +ℤ pos 3_600_000_000_000
    → (compatible_offset (ambiguous_by std dst (start, end) at)).seconds
    ≡ (if int_le (start +ℤ pos 3_600_000_000_000) at && int_lt at end then pos 7200 else pos 3600)
offset_by std dst start end at s d order shifted = grind (arith, ints, s, d, order, shifted)

-- the clock of the zone, in its rule
record Clock (rule : Rule) : Type 0 where
  std : rule.std_offset.seconds ≡ pos 3600
  summer : Dst
  has_summer : rule.dst ≡ Some summer
  ahead : summer.offset.seconds ≡ pos 7200
  start : day_time_view summer.rule.start ≡ (WeekdayOfMonth 3 5 0, pos 7200)
  finish : day_time_view summer.rule.end ≡ (WeekdayOfMonth 10 5 0, pos 10800)

some_summer : (dst : Option Dst) (text : DstText) → option_map dst_view dst ≡ Some text → (d : Dst) × (dst ≡ Some d) × (dst_view d ≡ text)
some_summer None text e = absurd (cc)
some_summer (Some d) text e = let same : dst_view d ≡ text = cc in (d, refl, same)

clock_of : (rule : Rule) (d : Dst) → rule.std_offset.seconds ≡ pos 3600 → rule.dst ≡ Some d → dst_view d ≡ summer_text → Clock rule
unfolding summer_text
clock_of rule d std dst is = record {
  std = std;
  summer = d;
  has_summer = dst;
  ahead = ap (λ t. t.seconds) is;
  start = ap (λ t. t.start) is;
  finish = ap (λ t. t.finish) is;
}

clock_is : (rule : Rule) → read_whole zone_text ≡ Some (tz_view rule) → Clock rule
unfolding rule_text
clock_is rule read =
    let both : Some (tz_view rule) ≡ Some rule_text = sym read ∙ text_is in
    let view : tz_view rule ≡ rule_text = cc in
    let std : rule.std_offset.seconds ≡ pos 3600 = ap (λ t. t.std_seconds) view in
    let dst : option_map dst_view rule.dst ≡ Some summer_text = ap (λ t. t.dst) view in
    let found = some_summer rule.dst summer_text dst in
    clock_of rule found.0 std found.1 found.2

-- the last Sunday in March comes before the last one in October
spring_first : (year : ℤ) → IsYear year → (last_weekday year 3 0 +ℤ pos 1) ≤ℤ last_weekday year 10 0
spring_first year y =
    let spring = sunday_in year 3 in
    let autumn = sunday_in year 10 in
    let order = day_count-lt_month year 3 31 10 25 (y, omega arith, omega arith) (omega arith) (omega arith) in
    let days = day_count-day year 10 25 31 (omega arith) (omega arith) in
    let march = days_from_civil-day_count year 3 31 in
    let october = days_from_civil-day_count year 10 31 in
    omega (arith, signed_arith, spring, autumn)

-- tests of whole seconds, made in nanoseconds
le_nanos : (a b : ℤ) → int_le (nanos_of_seconds a) (nanos_of_seconds b) ≡ int_le a b
le_nanos a b = grind (arith, ints)

lt_nanos : (a b : ℤ) → int_lt (nanos_of_seconds a) (nanos_of_seconds b) ≡ int_lt a b
lt_nanos a b = grind (arith, ints)

-- an hour after the start in spring lies within the clock's range
shifted : (year : ℤ) (std dst : Offset) → IsYear year → std.seconds ≡ pos 3600 → dst.seconds ≡ pos 7200
    → saturating_add (nanos_of_seconds (last_weekday year 3 0 *ℤ pos 86400 +ℤ pos 7200)) (shift_between std dst)
    ≡ nanos_of_seconds (last_weekday year 3 0 *ℤ pos 86400 +ℤ pos 7200) +ℤ pos 3_600_000_000_000
shifted year std dst y s d =
    let within = month_in_year year 3 y (omega arith) in
    let low = year_start_bound year y in
    let high = year_end_bound year y in
    let start : ℤ = nanos_of_seconds (last_weekday year 3 0 *ℤ pos 86400 +ℤ pos 7200) in
    let later : ℤ = start +ℤ (nanos_of_seconds (pos 7200) -ℤ nanos_of_seconds (pos 3600)) in
    let is : later ≡ start +ℤ pos 3_600_000_000_000 = omega (arith, signed_arith) in
    rw (s, d) (kept civil_min civil_max later (omega (arith, signed_arith)) (omega (arith, signed_arith)) ∙ is)

-- the offset of a full hour, by the rule
picked_seconds : (rule : Rule) (dt : DateTime) (hour : ℕ) → Clock rule → IsFullHour hour dt
    → (compatible_offset (ambiguous_at (Posix rule) dt)).seconds ≡ clock_offset dt.date.year (civil_hour (epoch_day dt.date) hour)
unfolding ambiguous_at clock_offset is_summer civil_hour last_sunday_at_three
picked_seconds rule dt hour clock at =
    let year = dt.date.year in
    let y = dt.date.year_in in
    let start_is = rule_at year clock.summer.rule.start 3 7200 y (omega arith) (omega arith) clock.start in
    let end_is = rule_at year clock.summer.rule.end 10 10800 y (omega arith) (omega arith) clock.finish in
    let offsets = ambiguous_at-some rule clock.summer dt clock.has_summer in
    let spring : ℤ = last_weekday year 3 0 *ℤ pos 86400 in
    let autumn : ℤ = last_weekday year 10 0 *ℤ pos 86400 in
    let civil : civil_nanos dt ≡ nanos_of_seconds (civil_hour (epoch_day dt.date) hour) = omega (arith, signed_arith, civil_nanos-parts dt, at.1) in
    let order = spring_first year y in
    let by = offset_by rule.std_offset clock.summer.offset (nanos_of_seconds (spring +ℤ pos 7200)) (nanos_of_seconds (autumn +ℤ pos 10800)) (civil_nanos dt)
    clock.std clock.ahead (omega (arith, signed_arith, order)) (shifted year rule.std_offset clock.summer.offset y clock.std clock.ahead) in
    let later : nanos_of_seconds (spring +ℤ pos 7200) +ℤ pos 3_600_000_000_000 ≡ nanos_of_seconds (spring +ℤ pos 10800) = omega (arith, signed_arith) in
    let first = le_nanos (spring +ℤ pos 10800) (civil_hour (epoch_day dt.date) hour) in
    let second = lt_nanos (civil_hour (epoch_day dt.date) hour) (autumn +ℤ pos 10800) in
    rw (offsets, start_is, end_is, by, later, civil, first, second) refl

-- The instants of full hours, in the zone of the rule text.
pub hours_at : (tz : TimeZone) → IsPosixZone zone_text tz → (dt : DateTime) (hour : ℕ) → IsFullHour hour dt
    → picked_instant tz dt ≡ nanos_of_seconds (instant_at (epoch_day dt.date) hour)
unfolding instant_at civil_hour
hours_at (Posix rule) zone dt hour at =
    let seconds = picked_seconds rule dt hour (clock_is rule zone) at in
    let year = year_of_day-date dt.date in
    rw (year, seconds) (omega (arith, signed_arith, civil_nanos-parts dt, at.1))
hours_at UTC zone dt hour at = absurd zone
hours_at Unknown zone dt hour at = absurd zone
hours_at (Fixed offset) zone dt hour at = absurd zone
hours_at (Tzif z) zone dt hour at = absurd zone
