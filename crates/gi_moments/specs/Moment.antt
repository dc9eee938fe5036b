-- Moments, in whole seconds since 1970-01-01T00:00Z, and their text, to the minute (this project's form).
use Rattle.std.specs.Prelude.{◌≡◌, ◌<◌, ◌*◌, ◌+◌, ℕ, ℤ, pos, ◌+ℤ◌, ◌*ℤ◌, List, ◌++◌, codes}
use Rattle.jiff_core.specs.Calendar.{IsBetween}
use Rattle.jiff_core.specs.Date.{epoch_day}
use Rattle.jiff_core.specs.declared.civil.date.Date.{Date}
use Rattle.jiff_fmt.specs.Text.{pad2}
use Rattle.gi_day.specs.Day.{IsGasYear, day_text}

-- from 2000-01-01T00:00:00Z to 2199-12-31T23:59:59Z
abbrev pub IsMoment : ℤ → Type 0
IsMoment moment = IsBetween (pos 946_684_800) (pos 7_258_118_399) moment

-- `T13:00Z`, what a clock at UTC shows
abbrev pub clock_text : ℕ → ℕ → List ℕ
clock_text hour minute = codes "T" ++ (pad2 hour ++ (codes ":" ++ (pad2 minute ++ codes "Z")))

-- a minute of a day
pub record IsMinute (hour minute : ℕ) : Type 0 where
  pub hours : hour < 24
  pub minutes : minute < 60

-- when a clock at UTC shows it
abbrev pub moment_of : Date → ℕ → ℕ → ℤ
moment_of date hour minute = epoch_day date *ℤ pos 86_400 +ℤ pos (hour * 3600 + minute * 60)

-- the moment that a text `2026-01-15T13:00Z` names
pub record IsMomentText (text : List ℕ) (moment : ℤ) : Type 0 where
  pub date : Date
  pub hour : ℕ
  pub minute : ℕ
  pub year : IsGasYear date.year
  pub is_minute : IsMinute hour minute
  pub text_is : text ≡ day_text date ++ clock_text hour minute
  pub moment_is : moment ≡ moment_of date hour minute
