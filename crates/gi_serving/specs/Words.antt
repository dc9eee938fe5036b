-- What came of a step, in a word without numbers of facts and packets, and the line that tells it.
use Rattle.std.specs.Prelude.{ℕ, List, ◌++◌, Option, None, Some, Result, Ok, Err, codes}
use Rattle.std.specs.Fmt.{decimal}
use Rattle.gi_pairs.specs.Side.{side_text}
use Rattle.gi_pairs.specs.declared.side.Side.{Side}
use Rattle.gi_desk.specs.FaultText.{refusal_text}
use Rattle.gi_desk.specs.declared.reply.Answer.{Answer}
use Rattle.gi_desk.specs.declared.reply.Answer.TheVariants as answers
use Rattle.gi_office.specs.declared.office_fault.OfficeFault.{OfficeFault}
use Rattle.gi_office.specs.declared.office_fault.OfficeFault.TheVariants as offices
use Rattle.gi_office.specs.declared.receipt.Receipt.{Receipt}
use Rattle.gi_serving.specs.declared.word.Word.{Word}
use Rattle.gi_serving.specs.declared.word.Word.TheVariants as words

abbrev pub word_of : Answer → Word
word_of (answers.Recorded n) = words.Recorded
word_of (answers.Repeat n) = words.Repeat
word_of (answers.Kept have parts) = words.Kept
word_of (answers.Saved n) = words.Saved
word_of answers.Resent = words.Resent
word_of answers.Stopped = words.Stopped
word_of (answers.Refused refusal) = words.Refused refusal

-- of a call to an office; want of memory has no word
abbrev pub word_of_call : Result Receipt OfficeFault → Option Word
word_of_call (Ok receipt) = Some (word_of receipt.reply.answer)
word_of_call (Err offices.SeatFull) = Some words.SeatFull
word_of_call (Err offices.OutOfMemory) = None

-- none of a call that was not made
abbrev pub word_in : Option (Result Receipt OfficeFault) → Option Word
word_in None = None
word_in (Some answer) = word_of_call answer

abbrev pub word_text : Word → List ℕ
word_text words.Recorded = codes "recorded"
word_text words.Repeat = codes "repeat"
word_text words.Kept = codes "kept"
word_text words.Saved = codes "saved"
word_text words.Resent = codes "resent"
word_text words.Stopped = codes "stopped"
word_text words.Nothing = codes "nothing"
word_text (words.Refused refusal) = codes "refused " ++ refusal_text refusal
word_text words.SeatFull = codes "refused SeatFull"

-- `12 I recorded`, and a line feed
abbrev pub step_line : ℕ → Side → Word → List ℕ
step_line number side word =
    decimal number ++ (codes " " ++ (side_text side ++ (codes " " ++ (word_text word ++ codes "\n"))))
