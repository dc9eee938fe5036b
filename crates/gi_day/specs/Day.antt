-- Gas days as dates, and their text.
use Rattle.std.specs.Prelude.{◌≡◌, ℤ, pos, ◌≤ℤ◌, List, ℕ}
use Rattle.jiff_core.specs.Date.{epoch_day}
use Rattle.jiff_core.specs.declared.civil.date.Date.{Date}
use Rattle.jiff_fmt.specs.Text.{date_text}

-- gas days lie in the years 2000 to 2199 (this project's choice)
abbrev pub IsGasYear : ℤ → Type 0
IsGasYear year = (pos 2000 ≤ℤ year) × (year ≤ℤ pos 2199)

-- day numbers 0 to 100,000: each gas day, and the dates beside it
abbrev pub IsClose : Date → Type 0
IsClose date = (pos 0 ≤ℤ epoch_day date) × (epoch_day date ≤ℤ pos 100_000)

-- the text is exactly `YYYY-MM-DD` of the date: a year of four digits has no sign
abbrev pub IsDayText : Date → List ℕ → Type 0
IsDayText date text = (pos 0 ≤ℤ date.year) × (text ≡ date_text date)

-- no date has this text
abbrev pub IsNoDay : List ℕ → Type 0
IsNoDay text = (date : Date) → ¬ (IsDayText date text)

-- how a gas day is printed: as it is read
abbrev pub day_text : Date → List ℕ
day_text date = date_text date
