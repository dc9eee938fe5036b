-- A moment's text, and what it is read as.
use Rattle.std.proofs.Common.{take-append-drop, ◌≡◌, ℕ, ◌+◌, ◌*◌, ℤ, pos, negsuc, ◌+ℤ◌, ◌-ℤ◌, ◌*ℤ◌, ◌≤ℤ◌, List, [], ◌∷◌, ◌++◌, take, drop, Ok, Err, ap, sym, ◌∙◌, subst, arith, refl, inl, inr, ◌⊎◌, zero, suc, ◌<ℤ◌}
use Rattle.std.proofs.lemmas.Bool.{cases_lt}
use Rattle.jiff_core.proofs.SignedLemmas.{signed_arith}
use Rattle.jiff_core.proofs.CalendarLemmas.{day_count-later_year, day_count-lt_year, days_from_civil-day_count, day_count-day_of_year}
use Rattle.jiff_core.proofs.DateLemmas.{civil, epoch_day_injective}
use Rattle.jiff_core.proofs.DateTimeLemmas.{civil_nanos-parts, time_nanos_bound}
use Rattle.jiff_core.proofs.MarchLemmas.{day_count-early}
use Rattle.jiff_core.specs.Calendar.{day_count, days_in_year}
use Rattle.jiff_fmt.proofs.RoundTrip.{parse_date-date_text}
use Rattle.jiff_core.specs.Date.{epoch_day}
use Rattle.jiff_core.specs.DateTime.{civil_nanos}
use Rattle.jiff_core.specs.Time.{time_nanos}
use Rattle.jiff_core.specs.declared.civil.date.Date.{Date}
use Rattle.jiff_core.specs.declared.civil.datetime.DateTime.{DateTime}
use Rattle.jiff_core.specs.declared.error.Error.{Error}
use Rattle.jiff_fmt.specs.Temporal.{DateParts, parse_date, date_parts, date_view}
use Rattle.jiff_fmt.specs.Text.{date_text, year_text, pad2}
use Rattle.gi_day.proofs.DayLaws.{one_day}
use Rattle.gi_day.proofs.DayFacts.{ahead}
use Rattle.gi_day.specs.Cycles.{day_start}
use Rattle.gi_moments.specs.Near.{AreDaysFrom, IsDayAt}
use Rattle.gi_day.specs.Day.{IsDayText, IsGasYear, day_text}
use Rattle.gi_moments.specs.Moment.{IsMinute, IsMoment, moment_of}

-- the text of a date's parts
abbrev text_of : DateParts → List ℕ
text_of p = year_text p.year ++ 45 ∷ [] ++ pad2 p.month ++ 45 ∷ [] ++ pad2 p.day

-- the date that is parsed is that of the text
pub parsed_is : (text : List ℕ) (day date : Date) → IsGasYear day.year → IsDayText day text → date_view (Ok date) ≡ parse_date text → IsGasYear date.year × (text ≡ day_text date)
parsed_is text day date year is parsed =
    let here : parse_date text ≡ Ok (date_parts day) = ap parse_date is.1 ∙ parse_date-date_text day in
    let parts : date_parts date ≡ date_parts day = cc in
    let same : text ≡ date_text date = is.1 ∙ sym (ap (λ p. text_of p) parts) in
    (subst (λ (d : Date). IsGasYear d.year) (one_day day date text is.1 same) year, same)

pub not_parsed : (text : List ℕ) (e : Error) → date_view (Err e) ≡ parse_date text → (day : Date) → IsDayText day text → ⊥
not_parsed text e refused day is =
    let here : parse_date text ≡ Ok (date_parts day) = ap parse_date is.1 ∙ parse_date-date_text day in
    cc

-- what a clock shows, in nanoseconds
pub nanos_is : (dt : DateTime) (date : Date) (hour minute : ℕ) → dt.date ≡ date → time_nanos dt.time ≡ (hour * 3600 + minute * 60) * 1_000_000_000
    → civil_nanos dt ≡ moment_of date hour minute *ℤ pos 1_000_000_000
nanos_is dt date hour minute day time =
    let parts = civil_nanos-parts dt in
    let same : epoch_day dt.date ≡ epoch_day date = ap epoch_day day in
    omega (arith, signed_arith)

-- 2200-01-01 is day 84,006, and 1999-01-01 day 10,592
day_count-2200 : day_count (pos 2200) 1 1 ≡ 4_455_959
day_count-2200 = day_count-early (pos 2200) 12199 1 1 refl (omega arith) (omega arith) (omega arith)

day_count-1999 : day_count (pos 1999) 1 1 ≡ 4_382_545
day_count-1999 = day_count-early (pos 1999) 11998 1 1 refl (omega arith) (omega arith) (omega arith)

days_in_1999 : days_in_year (pos 1999) ≡ 365
days_in_1999 = refl

-- so a gas day lies between
pub gas_days : (day : Date) → IsGasYear day.year → (pos 10_957 ≤ℤ epoch_day day) × (epoch_day day ≤ℤ pos 84_005)
gas_days day h =
    let date = civil day in
    let first = day_count-later_year (pos 1999) day.year (omega (arith, signed_arith)) (omega (arith, signed_arith, h)) in
    let place = day_count-day_of_year day.year day.month day.day date.2.0 in
    let last = day_count-lt_year day.year day.month day.day (pos 2200) 1 1 date (omega arith) (omega (arith, signed_arith, h)) in
    let count = days_from_civil-day_count day.year day.month day.day in
    omega (arith, signed_arith, day_count-1999, days_in_1999, day_count-2200)

day_count-2000 : day_count (pos 2000) 1 1 ≡ 4_382_910
day_count-2000 = day_count-early (pos 2000) 11999 1 1 refl (omega arith) (omega arith) (omega arith)

day_count-2199 : day_count (pos 2199) 1 1 ≡ 4_455_594
day_count-2199 = day_count-early (pos 2199) 12198 1 1 refl (omega arith) (omega arith) (omega arith)

days_in_2199 : days_in_year (pos 2199) ≡ 365
days_in_2199 = refl

not_below : (year : ℤ) → ¬ (year <ℤ pos 2000) → pos 2000 ≤ℤ year
not_below (pos n) unless = elim (cases_lt n 2000) [
  | inl early ↦ absurd (unless (omega (arith, signed_arith, early)))
  | inr from ↦ omega (arith, signed_arith, from)
]
not_below (negsuc n) unless = absurd (unless (omega (arith, signed_arith)))

not_above : (year : ℤ) → ¬ (pos 2199 <ℤ year) → year ≤ℤ pos 2199
not_above (pos n) unless = elim (cases_lt 2199 n) [
  | inl late ↦ absurd (unless (omega (arith, signed_arith, late)))
  | inr to ↦ omega (arith, signed_arith, to)
]
not_above (negsuc n) unless = omega (arith, signed_arith)

-- and what lies there is one
pub gas_year : (day : Date) → pos 10_957 ≤ℤ epoch_day day → epoch_day day ≤ℤ pos 84_005 → IsGasYear day.year
gas_year day from to =
    let date = civil day in
    let place = day_count-day_of_year day.year day.month day.day date.2.0 in
    let count = days_from_civil-day_count day.year day.month day.day in (
      not_below day.year (λ early.
          let before = day_count-lt_year day.year day.month day.day (pos 2000) 1 1 date (omega arith) early in
          omega (arith, signed_arith, day_count-2000, before, count, from)),
      not_above day.year (λ late.
          let after = day_count-later_year (pos 2199) day.year (omega (arith, signed_arith)) late in
          omega (arith, signed_arith, day_count-2199, days_in_2199, after, place, count, to)),
    )

pub moment_range : (date : Date) (hour minute : ℕ) → IsGasYear date.year → IsMinute hour minute → IsMoment (moment_of date hour minute)
moment_range date hour minute year is =
    omega (arith, signed_arith, gas_days date year, is.hours, is.minutes)

-- the day of what a clock shows
pub day_part : (dt : DateTime) (date : Date) (moment : ℤ) → date ≡ dt.date → civil_nanos dt ≡ moment *ℤ pos 1_000_000_000
    → ((epoch_day date *ℤ pos 86_400) ≤ℤ moment) × (moment <ℤ (epoch_day date *ℤ pos 86_400 +ℤ pos 86_400))
day_part dt date moment is nanos =
    let same : epoch_day date ≡ epoch_day dt.date = ap epoch_day is in
    let parts = civil_nanos-parts dt in
    let time = time_nanos_bound dt.time in
    (omega (arith, signed_arith), omega (arith, signed_arith))

-- ---- how a moment's text is cut

pub both_parts : (text front back day clock : List ℕ) → front ≡ take 10 text → back ≡ drop 10 text → front ≡ day → back ≡ clock → text ≡ day ++ clock
both_parts text front back day clock front_is back_is day_is clock_is =
    sym (take-append-drop 10 text) ∙ ap (λ l. l ++ drop 10 text) (sym front_is ∙ day_is) ∙ ap (λ l. day ++ l) (sym back_is ∙ clock_is)

-- ---- the gas day of a moment

-- it is the day of the date, where that one has begun
pub is_today : (date : Date) (moment start : ℤ) → moment <ℤ (epoch_day date *ℤ pos 86_400 +ℤ pos 86_400) → start ≡ day_start date → start ≤ℤ moment → IsDayAt moment (epoch_day date)
unfolding day_start
is_today date moment start to is begun =
    let next = ahead (epoch_day date +ℤ pos 1) 6 in record {
      begun = omega (arith, signed_arith, is, begun);
      lasts = omega (arith, signed_arith, next.is, next.hours_in, to);
    }

-- else the one before
pub is_yesterday : (date before : Date) (moment start : ℤ) → (epoch_day date *ℤ pos 86_400) ≤ℤ moment → start ≡ day_start date → moment <ℤ start
    → epoch_day before ≡ epoch_day date -ℤ pos 1 → IsDayAt moment (epoch_day before)
unfolding day_start
is_yesterday date before moment start from is early day =
    let this : epoch_day before +ℤ pos 1 ≡ epoch_day date = omega (arith, signed_arith, day) in
    let last = ahead (epoch_day before) 6 in record {
      begun = omega (arith, signed_arith, last.is, last.hours_in, from, day);
      lasts = rw this (omega (arith, signed_arith, is, early));
    }

-- ---- the days beside it

-- whether a year has gas days
pub is_gas_year-cases : (year : ℤ) → IsGasYear year ⊎ (IsGasYear year → ⊥)
is_gas_year-cases (pos n) = elim (cases_lt n 2000) [
  | inl early ↦ inr (λ is. absurd (omega (arith, signed_arith, early, is)))
  | inr from ↦ elim (cases_lt 2199 n) [
    | inl late ↦ inr (λ is. absurd (omega (arith, signed_arith, late, is)))
    | inr to ↦ inl (omega (arith, signed_arith, from), omega (arith, signed_arith, to))
  ]
]
is_gas_year-cases (negsuc n) = inr (λ is. absurd (omega (arith, signed_arith, is)))

-- a day more
more_some : (number : ℤ) (count : ℕ) (days : List Date) (day : Date) → AreDaysFrom number count days → epoch_day day ≡ number +ℤ pos count → IsGasYear day.year
    → AreDaysFrom number (suc count) (days ++ day ∷ [])
more_some number zero days day are is year =
    inl (day, [], record { year = year; is = omega (arith, signed_arith, is) }, ap (λ l. l ++ day ∷ []) are, refl)
more_some number (suc count) days day (inl (first, later, of, same, rest)) is year =
    inl (first, later ++ day ∷ [], of, ap (λ l. l ++ day ∷ []) same, more_some (number +ℤ pos 1) count later day rest (omega (arith, signed_arith, is)) year)
more_some number (suc count) days day (inr (none, rest)) is year =
    inr (none, more_some (number +ℤ pos 1) count days day rest (omega (arith, signed_arith, is)) year)

-- a date more, which is none
more_none : (number : ℤ) (count : ℕ) (days : List Date) (date : Date) → AreDaysFrom number count days → epoch_day date ≡ number +ℤ pos count → (IsGasYear date.year → ⊥)
    → AreDaysFrom number (suc count) days
more_none number zero days date are is none =
    inr (
      (λ day of.
          let same = epoch_day_injective day date (omega (arith, signed_arith, of.is, is)) in
          none (subst (λ y. IsGasYear y) same.0 of.year)),
      are,
    )
more_none number (suc count) days date (inl (first, later, of, same, rest)) is none =
    inl (first, later, of, same, more_none (number +ℤ pos 1) count later date rest (omega (arith, signed_arith, is)) none)
more_none number (suc count) days date (inr (other, rest)) is none =
    inr (other, more_none (number +ℤ pos 1) count days date rest (omega (arith, signed_arith, is)) none)

pub more_days : (number : ℤ) (count : ℕ) (days new : List Date) (date : Date) → AreDaysFrom number count days → epoch_day date ≡ number +ℤ pos count
    → (IsGasYear date.year → new ≡ days ++ date ∷ []) → ((IsGasYear date.year → ⊥) → new ≡ days) → AreDaysFrom number (suc count) new
more_days number count days new date are is some none = elim (is_gas_year-cases date.year) [
  | inl year ↦ subst (λ l. AreDaysFrom number (suc count) l) (sym (some year)) (more_some number count days date are is year)
  | inr not_one ↦ subst (λ l. AreDaysFrom number (suc count) l) (sym (none not_one)) (more_none number count days date are is not_one)
]
