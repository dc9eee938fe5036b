-- What `simulate` and `report` write of a script.
use Rattle.std.specs.Prelude.{◌≡◌, ◌<◌, ◌≤◌, ◌⊎◌, ℕ, Bool, List, ◌++◌, length, Option}
use Rattle.std.specs.Io.KnownBytes.{Appends, Keeps}
use Rattle.gi_pairs.specs.declared.side.Side.{Side}
use Rattle.gi_pairs.specs.declared.side.Side.TheVariants.{I, M}
use Rattle.gi_script.specs.Script.{IsFault, IsScript, ScriptContents}
use Rattle.gi_script.specs.declared.line.Line.{Line}
use Rattle.gi_simulation.specs.Refused.{refused_by}
use Rattle.gi_simulation.specs.Runs.{gathered, printed, run, turns}
use Rattle.gi_simulation.specs.Simulation.{SimulationState, new_simulation}
use Rattle.gi_reports.specs.Counts.{counts_line}
use Rattle.gi_world.specs.World.{station_of}
use Rattle.gi_table_commands.specs.Input.{most_input}
use Rattle.gi_commands.specs.Reporting.{IsReport}
use Rattle.gi_commands.specs.declared.fault.Fault.{Fault}
use Rattle.gi_commands.specs.declared.fault.Fault.TheVariants as fault
use Rattle.gi_commands.specs.declared.desk_report.DeskReport.{DeskReport}

-- both offices after a script
abbrev pub end_of : ScriptContents → SimulationState
end_of script = run (new_simulation script.point) (turns script.lines)

-- a line of what each side then holds
abbrev pub counts_of : SimulationState → List ℕ
counts_of s = counts_line I s.world.initiating.desk ++ counts_line M s.world.matching.desk

-- a line of each step, with a trace also lines of what moved in it, and then these
pub record IsSimulation (trace : Bool) (input text : List ℕ) : Type 0 where
  pub script : ScriptContents
  pub spelled : IsScript input script
  pub written : text ≡ gathered (printed trace) (new_simulation script.point) (turns script.lines) ++ counts_of (end_of script)

-- the lines of each of the first steps: memory ran out after them
pub record IsCutShort (trace : Bool) (input text : List ℕ) : Type 0 where
  pub script : ScriptContents
  pub spelled : IsScript input script
  pub made : List Line
  pub left : List Line
  pub all : turns script.lines ≡ made ++ left
  pub written : text ≡ gathered (printed trace) (new_simulation script.point) made

-- a report of a side, over the script's end
pub record IsScriptReport (kind : DeskReport) (side : Side) (input text : List ℕ) : Type 0 where
  pub script : ScriptContents
  pub spelled : IsScript input script
  pub reported : IsReport kind side (station_of side (end_of script).world).desk (gathered (refused_by side) (new_simulation script.point) (turns script.lines)) text

-- why an input is no script
abbrev pub IsNoScript : List ℕ → Fault → Type 0
IsNoScript input (fault.Script why) = IsFault input why
IsNoScript input fault.OutOfMemory = Unit {0}
IsNoScript input _ = ⊥

-- The first fault over an input. What comes from outside may come at any time, but that a writer fails.
abbrev pub IsFirstScriptFault : (List ℕ → Type 0) → List ℕ → Fault → Type 0
IsFirstScriptFault has_text input fault.Read = Unit {0}
IsFirstScriptFault has_text input fault.OutOfMemory = Unit {0}
IsFirstScriptFault has_text input fault.TooLarge = most_input < length input
IsFirstScriptFault has_text input fault.Write = (length input ≤ most_input) × has_text input
IsFirstScriptFault has_text input why = (length input ≤ most_input) × IsNoScript input why

-- the text of a script is what the output has gained
abbrev pub Simulates : Bool → List ℕ → Option (List ℕ) → Option (List ℕ) → Type 0
Simulates trace input old new = (length input ≤ most_input) × ((text : List ℕ) × IsSimulation trace input text × Appends old new text)

abbrev pub Reports : DeskReport → Side → List ℕ → Option (List ℕ) → Option (List ℕ) → Type 0
Reports kind side input old new = (length input ≤ most_input) × ((text : List ℕ) × IsScriptReport kind side input text × Appends old new text)

-- an input that spells a script, and one that has a report
abbrev pub HasScript : List ℕ → Type 0
HasScript input = (script : ScriptContents) × IsScript input script

abbrev pub HasReport : DeskReport → Side → List ℕ → Type 0
HasReport kind side input = (text : List ℕ) × IsScriptReport kind side input text

-- where memory ran out, nothing is written, or the lines of the first steps
abbrev pub CutsShort : Bool → List ℕ → Option (List ℕ) → Option (List ℕ) → Type 0
CutsShort trace input old new = Keeps old new ⊎ ((text : List ℕ) × IsCutShort trace input text × Appends old new text)
