-- What the lines of a script make of a simulation, and what is noted of them.
use Rattle.std.specs.Prelude.{◌≡◌, ◌⊎◌, ℕ, List, [], ◌∷◌, ◌++◌, replicate, Bool, Option, Some, None, codes}
use Rattle.std.specs.Fmt.{decimal}
use Rattle.std.specs.List.{flat_map}
use Rattle.gi_pairs.specs.Side.{side_text}
use Rattle.gi_pairs.specs.declared.side.Side.{Side}
use Rattle.gi_script.specs.declared.instruction.Instruction.{Instruction}
use Rattle.gi_script.specs.declared.instruction.Instruction.TheVariants.{Call, Save, Deliver, Restart, Plan, Carry}
use Rattle.gi_script.specs.declared.line.Line.{Line}
use Rattle.gi_simulation.specs.OutcomeText.{outcome_text}
use Rattle.gi_simulation.specs.Simulation.{SimulationState, after, outcome_of}
use Rattle.gi_simulation.specs.Trace.{trace_of, where_asked}
use Rattle.gi_simulation.specs.declared.outcome.Outcome.{Outcome}

-- how often an instruction is made: `save COUNT` COUNT times, any other once
abbrev pub times : Instruction → ℕ
times (Save side count) = count
times _ = 1

-- each line as often as it is made, in order
abbrev pub turns_of : Line → List Line
turns_of line = replicate (times line.instruction) line

abbrev pub turns : List Line → List Line
turns lines = flat_map turns_of lines

-- the simulation after the turns
abbrev pub run : SimulationState → List Line → SimulationState
run s [] = s
run s (line ∷ lines) = run (after s line.instruction) lines

-- what is noted of the turns, one after the other, each by the simulation before it
abbrev pub noted : {N : Type 0} → (N → SimulationState → Line → N) → N → SimulationState → List Line → N
noted note so_far s [] = so_far
noted note so_far s (line ∷ lines) = noted note (note so_far s line) (after s line.instruction) lines

-- the same of pieces of a list, one after the other
abbrev pub gathered : {X : Type 0} → (SimulationState → Line → List X) → SimulationState → List Line → List X
gathered piece s [] = []
gathered piece s (line ∷ lines) = piece s line ++ gathered piece (after s line.instruction) lines

-- what is noted of a turn by its outcome, and by the lines of its trace where that is asked for
abbrev pub noting_turn : {N : Type 0} → (N → Line → Option Outcome → List ℕ → N) → Bool → N → SimulationState → Line → N
noting_turn note trace so_far s line = note so_far line (outcome_of s line.instruction) (where_asked trace (trace_of s line.instruction))

-- all turns are made, and noted
pub record IsRun {N : Type 0} (note : N → SimulationState → Line → N) (start : SimulationState) (turns : List Line) (old new : N) (end : SimulationState) : Type 0 where
  pub notes : new ≡ noted note old start turns
  pub simulation : end ≡ run start turns

-- Memory ran out in a turn. Those before it are made, and noted; the world is as they left it, or as this turn did where
-- its step was made, and only what it sent or the note of it was refused.
pub record IsCutOff {N : Type 0} (note : N → SimulationState → Line → N) (start : SimulationState) (turns : List Line) (old new : N) (end : SimulationState) : Type 0 where
  pub made : List Line
  pub next : Line
  pub left : List Line
  pub all : turns ≡ made ++ next ∷ left
  pub notes : new ≡ noted note old start made
  pub world : (end.world ≡ (run start made).world) ⊎ (end.world ≡ (after (run start made) next.instruction).world)

-- ---- the text of a script's steps

-- the side at which an instruction is made; a plan is of the carrier towards it
abbrev pub side_of : Instruction → Side
side_of (Call side call) = side
side_of (Save side count) = side
side_of (Deliver side packet) = side
side_of (Restart side keep) = side
side_of (Plan side plan) = side
side_of (Carry side) = side

-- `12 I recorded 4`, and a line feed
abbrev pub step_text : Line → Outcome → List ℕ
step_text line outcome =
    decimal line.number ++ (codes " " ++ (side_text (side_of line.instruction) ++ (codes " " ++ (outcome_text outcome ++ codes "\n"))))

-- a plan line prints nothing
abbrev pub text_of : Line → Option Outcome → List ℕ
text_of line None = []
text_of line (Some outcome) = step_text line outcome

-- a turn's text, with the lines of its trace where that is asked for
abbrev pub printed : Bool → SimulationState → Line → List ℕ
printed trace s line = text_of line (outcome_of s line.instruction) ++ where_asked trace (trace_of s line.instruction)

-- the text with that of a turn, which comes to its end
abbrev pub telling : Bool → List ℕ → SimulationState → Line → List ℕ
telling trace text s line = text ++ printed trace s line

-- the same by the turn's outcome and those lines
abbrev pub telling_lines : List ℕ → Line → Option Outcome → List ℕ → List ℕ
telling_lines text line outcome lines = text ++ (text_of line outcome ++ lines)
