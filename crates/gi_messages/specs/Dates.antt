-- The gas day that a text names.
use Rattle.std.specs.Prelude.{◌≡◌, ℕ, List, Bool, true, false, ◌&&◌, pos, int_le, nat_le, Option, Some, None, Result, Ok, Err, if◌then◌else◌, refl}
use Rattle.std.specs.Str.{bytes_eq}
use Rattle.std.proofs.Common.{arith, leb-true}
use Rattle.std.proofs.lemmas.Bool.{and_parts}
use Rattle.std.proofs.lemmas.Int.{ints}
use Rattle.gi_day.specs.Day.{IsGasYear}
use Rattle.jiff_core.specs.Calendar.{IsCivilDate, days_in_month}
use Rattle.jiff_core.specs.declared.civil.date.Date.{Date}
use Rattle.jiff_core.specs.declared.error.Error.{Error}
use Rattle.jiff_fmt.specs.Temporal.{DateParts, parse_date}
use Rattle.jiff_fmt.specs.Text.{date_text}

-- a year from 2000 to 2199
abbrev pub is_gas_year : DateParts → Bool
is_gas_year p = int_le (pos 2000) p.year && int_le p.year (pos 2199)

-- a month, and a day of that month
abbrev pub is_day : DateParts → Bool
is_day p = nat_le 1 p.month && nat_le p.month 12 && nat_le 1 p.day && nat_le p.day (days_in_month p.year p.month)

pub year_bounds : (p : DateParts) → is_gas_year p ≡ true → IsGasYear p.year
year_bounds p e = let year = and_parts (int_le (pos 2000) p.year) (int_le p.year (pos 2199)) e in (grind (arith, ints), grind (arith, ints))

pub civil : (p : DateParts) → is_gas_year p && is_day p ≡ true → IsCivilDate p.year p.month p.day
civil p e =
    let both = and_parts (is_gas_year p) (is_day p) e in
    let range : IsGasYear p.year = year_bounds p both.0 in
    let a = and_parts (nat_le 1 p.month && nat_le p.month 12 && nat_le 1 p.day) (nat_le p.day (days_in_month p.year p.month)) both.1 in
    let b = and_parts (nat_le 1 p.month && nat_le p.month 12) (nat_le 1 p.day) a.0 in
    let c = and_parts (nat_le 1 p.month) (nat_le p.month 12) b.0 in
    ((omega (arith, ints, range), omega (arith, ints, range)), (leb-true 1 p.month c.0, leb-true p.month 12 c.1), (leb-true 1 p.day b.1, leb-true p.day (days_in_month p.year p.month) a.1))

-- the date of these parts, where there is one
abbrev pub dated : (p : DateParts) (b : Bool) → is_gas_year p && is_day p ≡ b → Option Date
dated p true e = Some (record { year = p.year; month = p.month; day = p.day; year_in = (civil p e).0; month_in = (civil p e).1; day_in = (civil p e).2 })
dated p false e = None

-- the text of a date is read as the date, and no other text is
abbrev pub if_text : List ℕ → Option Date → Option Date
if_text text None = None
if_text text (Some date) = if bytes_eq (date_text date) text then Some date else None

abbrev pub of_parts : List ℕ → Result DateParts Error → Option Date
of_parts text (Ok p) = if_text text (dated p (is_gas_year p && is_day p) refl)
of_parts text (Err e) = None

unfoldable pub day_of : List ℕ → Option Date
day_of text = of_parts text (parse_date text)
