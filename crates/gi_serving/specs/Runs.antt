-- The pieces of a script, one after the other, and of which of them something is told.
use Rattle.std.specs.Prelude.{ℕ, suc, List, [], ◌∷◌, Bool, true, false, Option, None, Some}
use Rattle.gi_desk.specs.declared.call.Call.{Call}
use Rattle.gi_desk.specs.declared.call.Call.TheVariants as calls
use Rattle.gi_pairs.specs.declared.side.Side.{Side}
use Rattle.gi_script.specs.declared.instruction.Instruction.{Instruction}
use Rattle.gi_script.specs.declared.instruction.Instruction.TheVariants as instructions
use Rattle.gi_script.specs.declared.line.Line.{Line}
use Rattle.gi_serving.specs.Batches.{submission}
use Rattle.gi_serving.specs.Words.{step_line}
use Rattle.gi_serving.specs.declared.word.Word.{Word}

-- ---- the pieces of a script

-- a line by itself, or a batch
pub data Piece : Type 0 where
  Single : Line → Piece
  Batch : List Line → Piece

-- a submission joins the batch behind it, or begins one
abbrev pub joined : Line → List Piece → List Piece
joined line [] = Batch (line ∷ []) ∷ []
joined line (Single other ∷ later) = Batch (line ∷ []) ∷ Single other ∷ later
joined line (Batch lines ∷ later) = Batch (line ∷ lines) ∷ later

abbrev pub put : Line → Option (Side × List ℕ) → List Piece → List Piece
put line None later = Single line ∷ later
put line (Some it) later = joined line later

-- the lines of a script in order, each longest run of submissions being one batch
abbrev pub pieces : List Line → List Piece
pieces [] = []
pieces (line ∷ later) = put line (submission line.instruction) (pieces later)

-- ---- what is told

-- the side that an instruction is for
abbrev pub side_in : Instruction → Side
side_in (instructions.Call side call) = side
side_in (instructions.Save side count) = side
side_in (instructions.Deliver side packet) = side
side_in (instructions.Restart side keep) = side
side_in (instructions.Plan side plan) = side
side_in (instructions.Carry side) = side

-- marks are made by turns alone
abbrev pub is_made : Call → Bool
is_made (calls.MarkSaved n fact) = false
is_made _ = true

-- whether something is told of a line by itself: nothing is of a plan, and of what a running office does not take
abbrev pub is_told : Instruction → Bool
is_told (instructions.Call side call) = is_made call
is_told (instructions.Save side count) = false
is_told (instructions.Deliver side packet) = false
is_told (instructions.Restart side keep) = false
is_told (instructions.Plan side plan) = false
is_told (instructions.Carry side) = true

abbrev pub line_text : Line → Option Word → List ℕ
line_text line None = []
line_text line (Some word) = step_line line.number (side_in line.instruction) word

-- how many of the first lines are submissions
abbrev pub lead_by : Option (Side × List ℕ) → ℕ → ℕ
lead_by None later = 0
lead_by (Some it) later = suc later

abbrev pub lead : List Line → ℕ
lead [] = 0
lead (line ∷ later) = lead_by (submission line.instruction) (lead later)
