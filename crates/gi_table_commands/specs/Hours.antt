-- What `hours` writes of a gas day.
use Rattle.std.specs.Prelude.{◌≡◌, ℕ, zero, suc, ◌∷◌, ◌++◌, [], List, Err, codes, Option}
use Rattle.std.specs.Fmt.{decimal}
use Rattle.std.specs.Io.KnownBytes.{Appends}
use Rattle.jiff_core.specs.DateTime.{civil_nanos}
use Rattle.jiff_core.specs.Timestamp.{nanos_of_seconds}
use Rattle.jiff_core.specs.declared.civil.date.Date.{Date}
use Rattle.jiff_core.specs.declared.civil.datetime.DateTime.{DateTime}
use Rattle.jiff_fmt.specs.Text.{date_text}
use Rattle.gi_day.specs.Cycles.{cycle_count, cycle_start, first_hour, hour_count}
use Rattle.gi_day.specs.Day.{IsDayText, IsGasYear, day_text}
use Rattle.gi_day.specs.Read.{IsDayRead}
use Rattle.gi_text.specs.Columns.{right_in, two_digits}
use Rattle.gi_text.specs.Lines.{line_feed}
use Rattle.gi_table_commands.specs.declared.fault.Fault.{Fault}
use Rattle.gi_table_commands.specs.declared.fault.Fault.TheVariants as fault

-- `day 2026-01-15 hours 24 cycles 36`, and the lines of the cycles below it
abbrev pub day_lines : Date → ℕ → ℕ → List ℕ → List ℕ
day_lines day hours count cycles =
    codes "day " ++ (day_text day ++ (codes " hours " ++ (decimal hours
    ++ (codes " cycles " ++ (decimal count ++ line_feed ∷ cycles)))))

-- `cycle 35 start 2026-01-16T02:00Z first 24`
abbrev pub cycle_line : ℕ → Date → ℕ → ℕ → ℕ → List ℕ
cycle_line cycle date hour minute first =
    codes "cycle " ++ (right_in 2 cycle ++ (codes " start " ++ (date_text date
    ++ (codes "T" ++ (two_digits hour ++ (codes ":" ++ (two_digits minute
    ++ (codes "Z first " ++ (right_in 2 first ++ line_feed ∷ [])))))))))

-- the line of a cycle: what a clock at UTC shows when it starts, to the minute, and its first hour
pub record IsCycleLine (day : Date) (cycle : ℕ) (line : List ℕ) : Type 0 where
  pub start : DateTime
  pub at_utc : civil_nanos start ≡ nanos_of_seconds (cycle_start day cycle)
  pub written : line ≡ cycle_line cycle start.date start.time.hour start.time.minute (first_hour day cycle)

-- the lines of the first cycles, in their order
abbrev pub AreCycleLines : Date → ℕ → List ℕ → Type 0
AreCycleLines day zero text = text ≡ []
AreCycleLines day (suc cycle) text =
    (before line : List ℕ) × AreCycleLines day cycle before × IsCycleLine day cycle line × (text ≡ before ++ line)

-- the text of a day
pub record IsFrameText (day : Date) (text : List ℕ) : Type 0 where
  pub cycles : List ℕ
  pub all_cycles : AreCycleLines day (cycle_count day) cycles
  pub written : text ≡ day_lines day (hour_count day) (cycle_count day) cycles

-- the text of the gas day that a word names
pub record IsHoursText (word text : List ℕ) : Type 0 where
  pub day : Date
  pub is_gas_day : IsGasYear day.year
  pub named : IsDayText day word
  pub of_day : IsFrameText day text

-- why a word has no such text, or that memory ran out
abbrev pub IsHoursRefused : List ℕ → Fault → Type 0
IsHoursRefused word (fault.Day why) = IsDayRead word (Err why)
IsHoursRefused word fault.OutOfMemory = Unit {0}
IsHoursRefused word _ = ⊥

-- a writer fails only where there is a text
abbrev pub IsFirstHoursFault : List ℕ → Fault → Type 0
IsFirstHoursFault word fault.Write = (text : List ℕ) × IsHoursText word text
IsFirstHoursFault word why = IsHoursRefused word why

-- the text of the day is what the output has gained
abbrev pub TellsHours : List ℕ → Option (List ℕ) → Option (List ℕ) → Type 0
TellsHours word old new = (text : List ℕ) × IsHoursText word text × Appends old new text
