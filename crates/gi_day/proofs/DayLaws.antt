-- What the text of a day says of the day, for the crates above.
use Rattle.std.proofs.Common.{◌≡◌, ℕ, ◌+◌, ◌/◌, ◌%◌, ◌<◌, ◌≤◌, pos, negsuc, List, [], ◌∷◌, ◌++◌, Ok, ap, sym, ◌∙◌, arith, refl, Result, Err, ℤ, lit<, subst}
use Rattle.std.proofs.Props.{props}
use Rattle.std.proofs.lemmas.Int.{ints}
use Rattle.std.proofs.lemmas.Str.{IsAscii-append}
use Rattle.std.proofs.lemmas.Str.Ascii.{IsAscii-cons, IsAscii-nil}
use Rattle.std.specs.Int.{IsInRange}
use Rattle.std.specs.Str.{IsAscii}
use mathlib.Core.HLevel.{is_prop→PathP}
use Rattle.jiff_core.specs.declared.civil.date.Date.{Date}
use Rattle.jiff_core.specs.Calendar.{IsYear, days_in_month}
use Rattle.jiff_core.proofs.CalendarLemmas.{days_in_month_bounds}
use Rattle.jiff_fmt.specs.Text.{date_text, year_text, pad2}
use Rattle.jiff_fmt.specs.Temporal.{date_parts, parse_date}
use Rattle.jiff_fmt.proofs.RoundTrip.{parse_date-date_text}
use Rattle.gi_day.specs.declared.gas_day.DayFault.{DayFault}
use Rattle.gi_day.specs.declared.gas_day.DayFault.TheVariants.{DayText, DayRange}
use Rattle.gi_day.specs.Day.{IsGasYear, IsDayText, day_text}
use Rattle.gi_day.specs.Read.{IsDayRead}
use Rattle.gi_day.specs.SameDay.{same_day}
use Rattle.jiff_core.specs.Date.{epoch_day}
use Rattle.jiff_core.proofs.DateLemmas.{epoch_day_injective}
use Rattle.std.specs.Bool.{Decides}
use Rattle.std.proofs.lemmas.Bool.Decides.{Decides-int_eq}

-- two dates of the same parts are one date
same_date : (a b : Date) → date_parts a ≡ date_parts b → a ≡ b
same_date a b e =
    let year = ap (λ p. p.year) e in
    let month = ap (λ p. p.month) e in
    let day = ap (λ p. p.day) e in
    λ i. record {
      year = year i;
      month = month i;
      day = day i;
      year_in = is_prop→PathP (λ j. IsYear (year j)) (λ j. hlevel props) a.year_in b.year_in i;
      month_in = is_prop→PathP (λ j. IsInRange 1 12 (month j)) (λ j. hlevel props) a.month_in b.month_in i;
      day_in = is_prop→PathP (λ j. IsInRange 1 (days_in_month (year j) (month j)) (day j)) (λ j. hlevel props) a.day_in b.day_in i;
    }

-- two dates of one text are one date
pub one_day : (a b : Date) (text : List ℕ) → text ≡ date_text a → text ≡ date_text b → a ≡ b
one_day a b text here there =
    let same : date_text a ≡ date_text b = sym here ∙ there in
    let read = sym (parse_date-date_text a) ∙ ap parse_date same ∙ parse_date-date_text b in
    let parts : date_parts a ≡ date_parts b = cc in
    same_date a b parts

-- one day number is one day, and each day has its own
pub same_day-Decides : (a b : Date) → Decides (same_day a b) (a ≡ b)
same_day-Decides a b = (
  λ is.
      let parts = epoch_day_injective a b ((Decides-int_eq (epoch_day a) (epoch_day b)).0 is) in
      one_day a b (date_text a) refl (rw (parts.0, parts.1, parts.2) refl),
  λ same. (Decides-int_eq (epoch_day a) (epoch_day b)).1 (ap epoch_day same),
)

-- a gas day's text is a day's text
pub is_text : (d : Date) → IsGasYear d.year → IsDayText d (day_text d)
is_text d range = (omega (arith, ints, range), refl)

two_digits-ascii : (n : ℕ) → n < 100 → IsAscii (pad2 n)
two_digits-ascii n h =
    let tens : 48 + n / 10 < 128 = omega arith in
    let ones : 48 + n % 10 < 128 = omega arith in
    IsAscii-cons (48 + n / 10) ((48 + n % 10) ∷ []) tens (IsAscii-cons (48 + n % 10) [] ones IsAscii-nil)

year-ascii : (year : ℤ) → IsGasYear year → IsAscii (year_text year)
year-ascii (pos n) range =
    let low : 2000 ≤ n = omega (arith, ints, range) in
    let high : n ≤ 2199 = omega (arith, ints, range) in
    IsAscii-append (pad2 (n / 100)) (pad2 (n % 100)) (two_digits-ascii (n / 100) (omega arith)) (two_digits-ascii (n % 100) (omega arith))
year-ascii (negsuc n) range = absurd (omega (arith, ints, range))

-- a gas day's text is ASCII
pub day_text-ascii : (d : Date) → IsGasYear d.year → IsAscii (day_text d)
day_text-ascii d range =
    let dash : IsAscii (45 ∷ []) = IsAscii-cons 45 [] (lit< tt) IsAscii-nil in
    let month : d.month < 100 = omega (arith, d.month_in) in
    let day : d.day < 100 = omega (arith, d.day_in, days_in_month_bounds d.year d.month) in
    let year = year_text d.year in
    let to_month = year ++ 45 ∷ [] ++ pad2 d.month in
    let a = IsAscii-append year (45 ∷ []) (year-ascii d.year range) dash in
    let b = IsAscii-append (year ++ 45 ∷ []) (pad2 d.month) a (two_digits-ascii d.month month) in
    let c = IsAscii-append to_month (45 ∷ []) b dash in
    IsAscii-append (to_month ++ 45 ∷ []) (pad2 d.day) c (two_digits-ascii d.day day)

-- what a gas day's text is read as
pub read-day_text : (text : List ℕ) (r : Result Date DayFault) → IsDayRead text r → (d : Date) → IsGasYear d.year → text ≡ day_text d → r ≡ Ok d
read-day_text text (Ok a) read d range is = ap Ok (one_day a d text read.1.1 is)
read-day_text text (Err DayText) read d range is = absurd (read d (omega (arith, ints, range), is))
read-day_text text (Err DayRange) read d range is =
    let same : d ≡ read.0 = one_day d read.0 text is read.1.1 in
    absurd (read.2 (subst (λ (x : Date). IsGasYear x.year) same range))
