-- A text is read as the gas day whose text it is.
use Rattle.std.proofs.Common.{◌≡◌, ℕ, pos, List, Bool, true, false, cond, ◌&&◌, nat_le, Option, Some, None, Result, Ok, Err, ℤ, ◌++◌, [], ◌∷◌, refl, sym, ap, subst, ◌∙◌, arith, le-leb}
use Rattle.std.specs.Prelude.{int_le}
use Rattle.std.specs.Str.{bytes_eq}
use Rattle.std.proofs.lemmas.Bool.{and_from, and_parts}
use Rattle.std.proofs.lemmas.Option.{same_Some}
use Rattle.std.proofs.lemmas.Int.{ints}
use Rattle.std.proofs.lemmas.Slice.Eq.{bytes_eq-Decides}
use Rattle.jiff_core.specs.Calendar.{days_in_month}
use Rattle.jiff_core.specs.declared.civil.date.Date.{Date}
use Rattle.jiff_core.specs.declared.error.Error.{Error}
use Rattle.jiff_fmt.specs.Temporal.{DateParts, parse_date, date_parts}
use Rattle.jiff_fmt.specs.Text.{date_text, year_text, pad2}
use Rattle.jiff_fmt.proofs.RoundTrip.{parse_date-date_text}
use Rattle.gi_day.specs.Day.{IsGasYear, IsDayText, day_text}
use Rattle.gi_day.specs.Read.{IsDayRead}
use Rattle.gi_day.specs.declared.gas_day.DayFault.{DayFault}
use Rattle.gi_day.proofs.DayLaws.{one_day, read-day_text}
use Rattle.gi_messages.specs.Dates.{is_gas_year, is_day, year_bounds, dated, if_text, of_parts, day_of}

chosen : (b : Bool) (x d : Date) → cond b (Some x) None ≡ Some d → (b ≡ true) × (x ≡ d)
chosen true x d e = (refl, cc)
chosen false x d e = absurd cc

if_text_some : (text : List ℕ) (o : Option Date) (d : Date) → if_text text o ≡ Some d → (o ≡ Some d) × (text ≡ date_text d)
if_text_some text None d e = absurd cc
if_text_some text (Some x) d e =
    let c = chosen (bytes_eq (date_text x) text) x d e in
    (ap Some c.1, sym ((bytes_eq-Decides (date_text x) text).0 c.0) ∙ ap date_text c.1)

dated_some : (p : DateParts) (b : Bool) (e : is_gas_year p && is_day p ≡ b) (d : Date) → dated p b e ≡ Some d → IsGasYear d.year
dated_some p true e d is = subst (λ (x : Date). IsGasYear x.year) (same_Some _ d is) (year_bounds p (and_parts (is_gas_year p) (is_day p) e).0)
dated_some p false e d is = absurd cc

of_parts_some : (text : List ℕ) (r : Result DateParts Error) (d : Date) → of_parts text r ≡ Some d → IsGasYear d.year × (text ≡ date_text d)
of_parts_some text (Ok p) d e = let i = if_text_some text (dated p (is_gas_year p && is_day p) refl) d e in (dated_some p (is_gas_year p && is_day p) refl d i.0, i.1)
of_parts_some text (Err f) d e = absurd cc

pub day_of-takes : (text : List ℕ) (d : Date) → day_of text ≡ Some d → IsGasYear d.year × IsDayText d text
unfolding day_of
day_of-takes text d e =
    let s = of_parts_some text (parse_date text) d e in
    let range : IsGasYear d.year = s.0 in
    (range, (omega (arith, ints, range), s.1))

-- ---- the other way

gas_year : (year : ℤ) → IsGasYear year → int_le (pos 2000) year && int_le year (pos 2199) ≡ true
gas_year year range = grind (arith, ints)

is_gas_day : (d : Date) → IsGasYear d.year → is_gas_year (date_parts d) && is_day (date_parts d) ≡ true
is_gas_day d range =
    let month = and_from (nat_le 1 d.month) (nat_le d.month 12) (le-leb 1 d.month d.month_in.0) (le-leb d.month 12 d.month_in.1) in
    let first = and_from (nat_le 1 d.month && nat_le d.month 12) (nat_le 1 d.day) month (le-leb 1 d.day d.day_in.0) in
    let whole = and_from (nat_le 1 d.month && nat_le d.month 12 && nat_le 1 d.day) (nat_le d.day (days_in_month d.year d.month)) first (le-leb d.day (days_in_month d.year d.month) d.day_in.1) in
    and_from (is_gas_year (date_parts d)) (is_day (date_parts d)) (gas_year d.year range) whole

dated_again : (p : DateParts) (b : Bool) (e : is_gas_year p && is_day p ≡ b) → b ≡ true → (x : Date) × (dated p b e ≡ Some x) × (date_parts x ≡ p)
dated_again p true e is = (_, refl, refl)
dated_again p false e is = absurd cc

-- the text of a date's parts
abbrev date_text_of : DateParts → List ℕ
date_text_of p = year_text p.year ++ 45 ∷ [] ++ pad2 p.month ++ 45 ∷ [] ++ pad2 p.day

pub day_of-again : (text : List ℕ) (d : Date) → IsGasYear d.year → text ≡ day_text d → day_of text ≡ Some d
unfolding day_of
day_of-again text d range is =
    let parsed : parse_date text ≡ Ok (date_parts d) = ap parse_date is ∙ parse_date-date_text d in
    let p = date_parts d in
    let made = dated_again p (is_gas_year p && is_day p) refl (is_gas_day d range) in
    let written : date_text made.0 ≡ text = ap date_text_of made.2 ∙ sym is in
    let same : made.0 ≡ d = one_day made.0 d text (sym written) is in
    ap (of_parts text) parsed ∙ ap (if_text text) made.1 ∙ ap (λ b. cond b (Some made.0) None) ((bytes_eq-Decides (date_text made.0) text).1 written) ∙ ap Some same

-- what `GasDay::read` answers
pub day_of-read : (text : List ℕ) (d : Date) → IsDayRead text (Ok d) → day_of text ≡ Some d
day_of-read text d read = day_of-again text d read.0 read.1.1

refused : (text : List ℕ) (f : DayFault) (o : Option Date) → IsDayRead text (Err f) → day_of text ≡ o → o ≡ None
refused text f None read e = refl
refused text f (Some d) read e =
    let takes = day_of-takes text d e in
    let other : Result Date DayFault = Err f in
    let ok = read-day_text text other read d takes.0 takes.1.1 in
    absurd cc

pub day_of-refused : (text : List ℕ) (f : DayFault) → IsDayRead text (Err f) → day_of text ≡ None
day_of-refused text f read = refused text f (day_of text) read refl
