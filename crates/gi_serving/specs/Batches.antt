-- A batch: submissions, which the sessions of both offices make at once.
use Rattle.std.specs.Prelude.{ℕ, List, [], ◌∷◌, ◌++◌, drop, slice_get, Option, None, Some}
use Rattle.gi_desk.specs.declared.call.Call.TheVariants.{Submit}
use Rattle.gi_pairs.specs.declared.side.Side.{Side}
use Rattle.gi_pairs.specs.declared.side.Side.TheVariants.{I, M}
use Rattle.gi_script.specs.declared.instruction.Instruction.{Instruction}
use Rattle.gi_script.specs.declared.instruction.Instruction.TheVariants as instructions
use Rattle.gi_script.specs.declared.line.Line.{Line}
use Rattle.gi_serving.specs.Words.{step_line}
use Rattle.gi_serving.specs.declared.word.Word.{Word}

-- the side and the body of a submission; none of another line
abbrev pub submission : Instruction → Option (Side × List ℕ)
submission (instructions.Call side (Submit body)) = Some (side, body)
submission _ = None

-- ---- the text of a batch

-- the line of a submission; none where no word is left
abbrev pub told : ℕ → Side → Option Word → List ℕ
told number side None = []
told number side (Some word) = step_line number side word

-- A submission takes the first word of its side, and what follows goes on with the other words. Another line takes none.
abbrev pub told_before : ℕ → Option (Side × List ℕ) → (List Word → List Word → List ℕ) → List Word → List Word → List ℕ
told_before number None rest ours theirs = rest ours theirs
told_before number (Some (I, body)) rest ours theirs = told number I (slice_get ours 0) ++ rest (drop 1 ours) theirs
told_before number (Some (M, body)) rest ours theirs = told number M (slice_get theirs 0) ++ rest ours (drop 1 theirs)

-- the lines of a batch in order, each with the next word of its side
abbrev pub batch_text : List Line → List Word → List Word → List ℕ
batch_text [] = λ ours theirs. []
batch_text (line ∷ later) = told_before line.number (submission line.instruction) (batch_text later)
