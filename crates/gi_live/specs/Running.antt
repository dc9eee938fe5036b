-- What an office that runs makes of its lines, piece by piece.
use Rattle.std.specs.Prelude.{◌≡◌, ℕ, ◌+◌, ◌<◌, ◌≤◌, List, [], ◌∷◌, ◌++◌, Bool, true, false, drop, length, take, Option, Result, Ok, Err, flat_map}
use Rattle.std.specs.List.{list_all, list_any}
use Rattle.std.specs.Io.KnownBytes.{Appends, Keeps}
use Rattle.gi_office.specs.Keeping.{SeatState}
use Rattle.gi_desk.specs.declared.reply.Answer.{Answer}
use Rattle.gi_desk.specs.declared.reply.Answer.TheVariants as answers
use Rattle.gi_office.specs.declared.note.Note.{Note}
use Rattle.gi_office.specs.declared.save_fault.SaveFault.{SaveFault}
use Rattle.gi_pairs.specs.declared.side.Side.{Side}
use Rattle.gi_serving.specs.Asking.{NotesMarks, NotesTurns}
use Rattle.gi_live.specs.Coming.{ComeAll}
use Rattle.gi_live.specs.Telling.{may_tell_of, saved_by, step_text}
use Rattle.gi_live.specs.Lines.{ResendsFirst, TakesLines, is_halt, is_query}
use Rattle.gi_live.specs.declared.came.Came.{Came}
use Rattle.gi_live.specs.declared.live_fault.LiveFault.{LiveFault}
use Rattle.gi_live.specs.declared.live_fault.LiveFault.TheVariants as faults

-- the seat, how many facts are known to be saved, and how many lines were taken
pub record LiveState : Type 0 where
  pub seat : SeatState
  pub saved : ℕ
  pub lines : ℕ

abbrev pub live : SeatState → ℕ → ℕ → LiveState
live seat saved lines = record { seat = seat; saved = saved; lines = lines }

-- the seat noted these behind what it had
abbrev pub notes_since : SeatState → SeatState → List Note
notes_since old new = drop (length old.notes) new.notes

-- a halt is among these notes
abbrev pub is_stopped : Answer → Bool
is_stopped answers.Stopped = true
is_stopped _ = false

abbrev pub has_halted : List Note → Bool
has_halted notes = list_any (λ note. is_stopped note.reply.answer) notes

-- Behind 100,000 notes a step is made by an office that is halted alone.
abbrev pub HasRoom : SeatState → Type 0
HasRoom seat = has_halted seat.notes ≡ false → length seat.notes < 100_000

-- What came of each of these lines, in order, was noted by the seat, then marks of saved facts and nothing else; and the text has the
-- answer to each line, each of a fact that is saved, and then what these facts let out. There is a query among the lines only where the
-- office is halted, a halt is by itself, and a resending is the first.
pub record Steps (side : Side) (old : LiveState) (lines : List (List ℕ)) (text : List ℕ) (new : LiveState) : Type 0 where
  pub cames : List Came
  pub between : SeatState
  pub queries : list_any is_query lines ≡ true → has_halted old.seat.notes ≡ true
  pub halts : list_any is_halt lines ≡ true → length lines ≡ 1
  pub resends : ResendsFirst lines
  pub room : HasRoom old.seat
  pub came : ComeAll side old.seat lines cames between
  pub marked : NotesMarks between new.seat
  pub saved : new.saved ≡ saved_by old.saved (notes_since between new.seat)
  pub answered : list_all (may_tell_of new.saved) cames ≡ true
  pub lines_are : new.lines ≡ old.lines + length lines
  pub text_is : text ≡ step_text new.saved (old.lines + 1) cames (notes_since between new.seat)

-- Where a step ended early: some of its lines came to something, the first ones in order, then marks of saved facts were noted and one call at
-- most that let out nothing; and the text has the answers among these that may be told, by how many facts are saved, and what was let out
-- since.
pub record StepsSome (side : Side) (old : LiveState) (lines : List (List ℕ)) (text : List ℕ) : Type 0 where
  pub cames : List Came
  pub between : SeatState
  pub last : SeatState
  pub came : ComeAll side old.seat (take (length cames) lines) cames between
  pub within : length cames ≤ length lines
  pub noted : NotesTurns between last
  pub text_is : text ≡ step_text (saved_by old.saved (notes_since between last)) (old.lines + 1) cames (notes_since between last)

-- what is told of a step: the fault of the writing, or else of the saving, or that not all could be told
abbrev pub first_fault : Result (Unit {0}) LiveFault → Result (Unit {0}) SaveFault → Bool → Result (Unit {0}) LiveFault
first_fault (Err fault) saved told = Err fault
first_fault (Ok done) (Err fault) told = Err (faults.Turn fault)
first_fault (Ok done) (Ok all) true = Ok done
first_fault (Ok done) (Ok all) false = Err faults.Unsaved

-- what is written of this text where a step is not made whole: all of it where not all was saved, nothing where memory ran out
abbrev pub LeavesTold : List ℕ → Option (List ℕ) → Option (List ℕ) → LiveFault → Type 0
LeavesTold text before after (faults.Turn fault) = Appends before after text
LeavesTold text before after faults.Unsaved = Appends before after text
LeavesTold text before after faults.Write = Unit {0}
LeavesTold text before after faults.OutOfMemory = Keeps before after
LeavesTold text before after faults.Read = ⊥
LeavesTold text before after faults.SeatFull = ⊥
LeavesTold text before after (faults.Unsettled fault) = ⊥

-- a step was made, and its text is what was written
abbrev pub WritesStep : Side → LiveState → List (List ℕ) → Option (List ℕ) → Option (List ℕ) → LiveState → Type 0
WritesStep side old lines before after new = (text : List ℕ) × Steps side old lines text new × Appends before after text

-- What is written where a step, of these lines, is not made whole. Where not all was saved, it is what may be told; where memory ran
-- out, the seat is full or no line could be read, it is nothing. What a writer holds that failed is not said.
abbrev pub LeavesStep : Side → LiveState → List (List ℕ) → Option (List ℕ) → Option (List ℕ) → LiveFault → Type 0
LeavesStep side old lines before after (faults.Turn fault) = (text : List ℕ) × StepsSome side old lines text × Appends before after text
LeavesStep side old lines before after faults.Unsaved = (text : List ℕ) × StepsSome side old lines text × Appends before after text
LeavesStep side old lines before after faults.Write = Unit {0}
LeavesStep side old lines before after faults.Read = Keeps before after
LeavesStep side old lines before after faults.SeatFull = Keeps before after
LeavesStep side old lines before after (faults.Unsettled fault) = ⊥
LeavesStep side old lines before after faults.OutOfMemory = Keeps before after

-- steps one after the other, each of its own lines, in order
abbrev pub Runs : Side → LiveState → List (List (List ℕ)) → List ℕ → LiveState → Type 0
Runs side old [] text new = (text ≡ []) × (new ≡ old)
Runs side old (piece ∷ pieces) text new =
    (first rest : List ℕ) × (between : LiveState) × (text ≡ first ++ rest) × Steps side old piece first between × Runs side between pieces rest new

-- the lines of all pieces, in order
abbrev pub joined : List (List (List ℕ)) → List (List ℕ)
joined pieces = flat_map (λ piece. piece) pieces

-- Steps were made of the first lines that were left, each line in one of them and in order, and what was written is their texts.
pub record RunsTo (side : Side) (old : LiveState) (input left : Option (List (List ℕ))) (before after : Option (List ℕ)) (reached : LiveState) : Type 0 where
  pub pieces : List (List (List ℕ))
  pub text : List ℕ
  pub runs : Runs side old pieces text reached
  pub taken : TakesLines input (joined pieces) left
  pub written : Appends before after text

-- steps were made of the first lines, and a further one, if any, was not made whole
pub record RunsSome (side : Side) (old : LiveState) (input : Option (List (List ℕ))) (before after : Option (List ℕ)) (fault : LiveFault) : Type 0 where
  pub left : Option (List (List ℕ))
  pub between : Option (List ℕ)
  pub reached : LiveState
  pub runs : RunsTo side old input left before between reached
  pub next : List (List ℕ)
  pub rest : Option (List (List ℕ))
  pub takes : TakesLines left next rest
  pub leaves : LeavesStep side reached next between after fault
