-- Which gas day the word of `page` names.
use Rattle.std.specs.Prelude.{ℕ, List, Err}
use Rattle.jiff_core.specs.declared.civil.date.Date.{Date}
use Rattle.gi_day.specs.Day.{IsDayText, IsGasYear}
use Rattle.gi_day.specs.Read.{IsDayRead}
use Rattle.gi_commands.specs.declared.fault.Fault.{Fault}
use Rattle.gi_commands.specs.declared.fault.Fault.TheVariants as fault

abbrev pub NamesPage : List ℕ → Date → Type 0
NamesPage word day = IsGasYear day.year × IsDayText day word

-- why a word names none
abbrev pub IsPageFault : List ℕ → Fault → Type 0
IsPageFault word (fault.Day why) = IsDayRead word (Err why)
IsPageFault word _ = ⊥
