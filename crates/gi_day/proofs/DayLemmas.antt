-- A date's text is read as that date alone.
use Rattle.std.proofs.Common.{◌≡◌, ℕ, List, [], ◌∷◌, ◌++◌, Ok, Err, Bool, true, false, not, ap, sym, ◌∙◌, refl}
use Rattle.std.specs.Str.{bytes_eq}
use Rattle.std.proofs.lemmas.Slice.Eq.{bytes_eq-Decides}
use Rattle.jiff_core.specs.declared.civil.date.Date.{Date}
use Rattle.jiff_core.specs.declared.error.Error.{Error}
use Rattle.jiff_fmt.specs.Text.{date_text, year_text, pad2}
use Rattle.jiff_fmt.specs.Temporal.{DateParts, parse_date, date_parts, date_view}
use Rattle.jiff_fmt.proofs.RoundTrip.{parse_date-date_text}
use Rattle.gi_day.specs.Day.{IsNoDay}

-- the text of a date's parts
abbrev date_text_of : DateParts → List ℕ
date_text_of p = year_text p.year ++ 45 ∷ [] ++ pad2 p.month ++ 45 ∷ [] ++ pad2 p.day

by_cases : (b : Bool) → not b ≡ false → b ≡ true
by_cases true e = refl
by_cases false e = cc

-- a text that is no date is no date's text
pub no_day-refused : (text : List ℕ) (e : Error) → date_view (Err e) ≡ parse_date text → IsNoDay text
no_day-refused text e refused date is =
    let read = parse_date-date_text date in
    let here : parse_date text ≡ Ok (date_parts date) = ap parse_date is.1 ∙ read in
    cc

-- a text that is read as one date is no other date's text
pub same_parts : (text : List ℕ) (date other : Date) → date_view (Ok date) ≡ parse_date text → text ≡ date_text other
    → date_parts date ≡ date_parts other
same_parts text date other read is =
    let here : parse_date text ≡ Ok (date_parts other) = ap parse_date is ∙ parse_date-date_text other in
    cc

-- so it has that date's text
pub same_text : (text : List ℕ) (date other : Date) → date_view (Ok date) ≡ parse_date text → text ≡ date_text other → date_text date ≡ text
same_text text date other read is =
    let same = same_parts text date other read is in
    ap (λ p. date_text_of p) same ∙ sym is

-- what `!=` answers of two texts
pub same_from_ne : (xs ys : List ℕ) → not (bytes_eq xs ys) ≡ false → xs ≡ ys
same_from_ne xs ys e = (bytes_eq-Decides xs ys).0 (by_cases (bytes_eq xs ys) e)

pub differ_from_ne : (xs ys : List ℕ) → not (bytes_eq xs ys) ≡ true → xs ≡ ys → ⊥
differ_from_ne xs ys e same = let yes = (bytes_eq-Decides xs ys).1 same in cc
