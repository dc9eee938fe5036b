-- What holds of every trace.
use Rattle.std.specs.Prelude.{◌≡◌, ℕ, List, ◌++◌, false, true, codes}
use Rattle.std.specs.List.{flat_map}
use Rattle.gi_script.specs.declared.instruction.Instruction.{Instruction}
use Rattle.gi_script.specs.declared.line.Line.{Line}
use Rattle.gi_simulation.specs.Runs.{printed, text_of}
use Rattle.gi_simulation.specs.Simulation.{SimulationState, outcome_of}
use Rattle.gi_simulation.specs.Trace.{trace_of}

-- where no trace is asked for, a turn prints the line of its step, and nothing more
abbrev pub PlainIsTheStep : Type 0
PlainIsTheStep = (s : SimulationState) (line : Line) → printed false s line ≡ text_of line (outcome_of s line.instruction)

-- where one is, the same line, and then its trace
abbrev pub TraceFollowsItsStep : Type 0
TraceFollowsItsStep = (s : SimulationState) (line : Line) → printed true s line ≡ printed false s line ++ trace_of s line.instruction

-- a piece of a trace: it begins with two spaces, and a line feed ends it
abbrev pub indented : List ℕ → List ℕ
indented text = codes "  " ++ (text ++ codes "\n")

-- a text is such pieces, one after the other
pub record IsIndented (text : List ℕ) : Type 0 where
  pub pieces : List (List ℕ)
  pub is : text ≡ flat_map indented pieces

abbrev pub TraceIsIndented : Type 0
TraceIsIndented = (s : SimulationState) (instruction : Instruction) → IsIndented (trace_of s instruction)
