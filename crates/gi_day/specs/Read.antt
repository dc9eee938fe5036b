-- What reading a gas day answers.
use Rattle.std.specs.Prelude.{List, ℕ, Result, Ok, Err, codes}
use Rattle.jiff_core.specs.declared.civil.date.Date.{Date}
use Rattle.gi_day.specs.Day.{IsGasYear, IsDayText, IsNoDay}
use Rattle.gi_day.specs.declared.gas_day.DayFault.{DayFault}
use Rattle.gi_day.specs.declared.gas_day.DayFault.TheVariants.{DayText, DayRange}

-- The day whose text it is; else that no date has this text, or that the date that has it is no gas day.
abbrev pub IsDayRead : List ℕ → Result Date DayFault → Type 0
IsDayRead text (Ok day) = IsGasYear day.year × IsDayText day text
IsDayRead text (Err DayText) = IsNoDay text
IsDayRead text (Err DayRange) = (date : Date) × IsDayText date text × ¬ (IsGasYear date.year)

-- a refusal prints as its name
abbrev pub fault_text : DayFault → List ℕ
fault_text DayText = codes "DayText"
fault_text DayRange = codes "DayRange"
