-- To which gas day and portfolio words narrow a report.
use Rattle.std.specs.Prelude.{◌≡◌, ℕ, List, Option, Some, None, Err}
use Rattle.jiff_core.specs.declared.civil.date.Date.{Date}
use Rattle.gi_day.specs.Day.{IsDayText, IsGasYear}
use Rattle.gi_day.specs.Read.{IsDayRead}
use Rattle.gi_day.specs.declared.gas_day.DayFault.{DayFault}
use Rattle.gi_pairs.specs.Code.{IsCode}
use Rattle.gi_command_line.specs.Asked.{NarrowingWords}
use Rattle.gi_schedule.specs.declared.wanted.Wanted.{Wanted}
use Rattle.gi_commands.specs.declared.fault.Fault.{Fault}
use Rattle.gi_commands.specs.declared.fault.Fault.TheVariants as fault

-- the portfolio that is named, where one is: it is a code
abbrev pub NamesPortfolio : Option (List ℕ) → Option (List ℕ) → Type 0
NamesPortfolio None None = Unit {0}
NamesPortfolio None (Some code) = ⊥
NamesPortfolio (Some word) None = ⊥
NamesPortfolio (Some word) (Some code) = IsCode word × (code ≡ word)

-- the gas day that is named, where one is
abbrev pub NamesDay : Option (List ℕ) → Option Date → Type 0
NamesDay None None = Unit {0}
NamesDay None (Some day) = ⊥
NamesDay (Some word) None = ⊥
NamesDay (Some word) (Some day) = IsGasYear day.year × IsDayText day word

-- what is wanted by the words
pub record Narrows (words : NarrowingWords) (wanted : Wanted) : Type 0 where
  pub portfolio : NamesPortfolio words.portfolio wanted.portfolio
  pub day : NamesDay words.day wanted.day

-- the portfolio is a code, where one is named; or one is named, and it is none
abbrev pub IsPortfolio : Option (List ℕ) → Type 0
IsPortfolio None = Unit {0}
IsPortfolio (Some word) = IsCode word

abbrev pub HasNoPortfolio : Option (List ℕ) → Type 0
HasNoPortfolio None = ⊥
HasNoPortfolio (Some word) = ¬ (IsCode word)

abbrev pub IsNoDayNamed : Option (List ℕ) → DayFault → Type 0
IsNoDayNamed None why = ⊥
IsNoDayNamed (Some word) why = IsDayRead word (Err why)

-- why words narrow to none, the first: the portfolio before the day
abbrev pub IsNarrowingFault : NarrowingWords → Fault → Type 0
IsNarrowingFault words (fault.Code why) = HasNoPortfolio words.portfolio
IsNarrowingFault words (fault.Day why) = IsPortfolio words.portfolio × IsNoDayNamed words.day why
IsNarrowingFault words _ = ⊥
