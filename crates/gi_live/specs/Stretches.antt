-- Stretches: an office over a desk, which runs over some lines and is settled; and what is made between two of them.
use Rattle.std.specs.Prelude.{◌≡◌, ◌⊎◌, ℕ, ℤ, ◌+◌, List, [], ◌∷◌, ◌++◌, Bool, false, length, true, Option, None, Some, IfSome}
use Rattle.std.specs.Io.KnownBytes.{Appends, Keeps}
use Rattle.gi_desk.specs.Machine.{DeskState}
use Rattle.gi_office.specs.Keeping.{HeldInvariant, HeldState, SeatState}
use Rattle.gi_office.specs.Opening.{new_seat}
use Rattle.gi_office.specs.Settling.{AreSettled}
use Rattle.gi_pairs.specs.declared.cycle_id.CycleId.{CycleId}
use Rattle.gi_pairs.specs.declared.side.Side.{Side}
use Rattle.gi_live.specs.Answering.{AnswersLine, AsksDue, IsEnding}
use Rattle.gi_live.specs.Closing.{Closings, ClosingsSome}
use Rattle.gi_live.specs.Due.{AreDue}
use Rattle.gi_live.specs.Lines.{IsAtEnd, TakesLines, given_lines, is_query}
use Rattle.gi_live.specs.Running.{LiveState, Runs, RunsSome, RunsTo, has_halted, joined, live}
use Rattle.gi_live.specs.declared.live_fault.LiveFault.{LiveFault}
use Rattle.gi_live.specs.declared.live_fault.LiveFault.TheVariants as faults
use Rattle.gi_live.specs.declared.running.End.{End}
use Rattle.gi_live.specs.declared.running.End.TheVariants as ends

-- ---- one stretch

-- the one line that was taken is a query
abbrev pub IsAsked : List (List ℕ) → End → Type 0
IsAsked lines (ends.Asked line) = lines ≡ line ∷ []
IsAsked lines ends.Input = ⊥
IsAsked lines ends.Full = ⊥

-- What is left of the input behind a stretch: nothing at its end; and of a query, which is taken, what stands behind it.
abbrev pub LeftBehind : Option (List (List ℕ)) → Option (List (List ℕ)) → End → Type 0
LeftBehind left rest ends.Input = IsAtEnd left × TakesLines left [] rest
LeftBehind left rest ends.Full = rest ≡ left
LeftBehind left rest (ends.Asked line) = TakesLines left (line ∷ []) rest × (is_query line ≡ true)

-- An office that is halted is left at the end of its input alone.
abbrev pub MayBeLeft : SeatState → End → Type 0
MayBeLeft seat ends.Input = Unit {0}
MayBeLeft seat ends.Full = has_halted seat.notes ≡ false
MayBeLeft seat (ends.Asked line) = has_halted seat.notes ≡ false

-- steps of first lines, and why they ended
pub record RunsUntil (side : Side) (old : LiveState) (input rest : Option (List (List ℕ))) (before after : Option (List ℕ)) (seat : SeatState) (taken : ℕ) (end : End) : Type 0 where
  pub saved : ℕ
  pub left : Option (List (List ℕ))
  pub runs : RunsTo side old input left before after (live seat saved taken)
  pub behind : LeftBehind left rest end
  pub may_be_left : MayBeLeft seat end

-- no line is left behind those that were, where these are known
abbrev pub EndsAt : Option (List (List ℕ)) → Option (List (List ℕ)) → Type 0
EndsAt None rest = Unit {0}
EndsAt (Some left) rest = IsAtEnd rest

-- between two stretches: the desk, and how many lines were taken
pub record Pause : Type 0 where
  pub desk : DeskState
  pub lines : ℕ

abbrev pub pause : DeskState → ℕ → Pause
pause desk lines = record { desk = desk; lines = lines }

-- all facts are saved, and the desk is not halted
pub record IsPaused (desk : DeskState) : Type 0 where
  pub saved : desk.saved ≡ length desk.facts
  pub runs : desk.halted ≡ false

-- a stretch that begins, of an office with one seat over the desk
abbrev pub begun : Pause → LiveState
begun paused = live (new_seat 16 1) paused.desk.saved paused.lines

-- The seat's notes are all calls of a legal life, in order, of which this desk is the end. That the life began with the desk over which
-- the office was opened no clause can say, since a lock tells nothing of what it keeps.
pub record EndsLife (side : Side) (seat : SeatState) (desk : DeskState) : Type 0 where
  pub held : HeldState
  pub kept : HeldInvariant side held
  pub settled : AreSettled 1 held.trail (seat ∷ [])
  pub is : desk ≡ held.desk

-- steps of these pieces, of an office over the desk, which was settled then
pub record Stretch (side : Side) (old : Pause) (lines : List (List ℕ)) (text : List ℕ) (new : Pause) : Type 0 where
  pub pieces : List (List (List ℕ))
  pub seat : SeatState
  pub saved : ℕ
  pub are : lines ≡ joined pieces
  pub runs : Runs side (begun old) pieces text (live seat saved new.lines)
  pub life : EndsLife side seat new.desk

-- A stretch of first lines, and why it ended; the desk that comes back, and how many lines are taken then.
pub record StretchesUntil (side : Side) (old : Pause) (input rest : Option (List (List ℕ))) (before after : Option (List ℕ)) (desk : DeskState) (taken : ℕ) (end : End) : Type 0 where
  pub lines : List (List ℕ)
  pub text : List ℕ
  pub left : Option (List (List ℕ))
  pub stretch : Stretch side old lines text (pause desk taken)
  pub takes : TakesLines input lines left
  pub written : Appends before after text
  pub behind : LeftBehind left rest end

-- ---- a query

-- The cycles that are due were closed, by an office over the desk, which was settled then.
pub record DueClosed (side : Side) (old : Pause) (moment : ℤ) (text : List ℕ) (desk : DeskState) : Type 0 where
  pub ids : List CycleId
  pub due : AreDue old.desk.facts moment ids
  pub seat : SeatState
  pub closings : Closings side (new_seat 16 1) old.desk.saved (old.lines + 1) ids text seat
  pub life : EndsLife side seat desk

-- The line is answered of the desk, and no call is made; or it asks for what is due, which is closed.
abbrev pub AnswersHere : Side → Pause → List ℕ → List ℕ → DeskState → Type 0
AnswersHere side old line text desk =
    (AnswersLine side old.desk (old.lines + 1) line text × (desk ≡ old.desk)) ⊎ ((moment : ℤ) × AsksDue line moment × DueClosed side old moment text desk)

-- a query over a desk, all of whose facts are saved
pub record Answered (side : Side) (old : Pause) (lines : List (List ℕ)) (text : List ℕ) (new : Pause) : Type 0 where
  pub paused : IsPaused old.desk
  pub line : List ℕ
  pub are : lines ≡ line ∷ []
  pub is_query : is_query line ≡ true
  pub answers : AnswersHere side old line text new.desk
  pub lines_are : new.lines ≡ old.lines + 1

-- What is made behind a stretch, by why it ended: all is over, or a further one can be opened over the desk, once the query is answered.
abbrev pub GoesFurther : Side → Pause → End → Option (List ℕ) → Option (List ℕ) → DeskState → ℕ → Bool → Type 0
GoesFurther side old ends.Input before after desk taken over = (pause desk taken ≡ old) × (over ≡ true) × (after ≡ before)
GoesFurther side old ends.Full before after desk taken over = (pause desk taken ≡ old) × (over ≡ false) × (after ≡ before) × IsPaused desk
GoesFurther side old (ends.Asked line) before after desk taken over =
    (taken ≡ old.lines + 1) × (over ≡ false) × IsPaused old.desk × IsPaused desk
    × ((text : List ℕ) × AnswersHere side old line text desk × Appends before after text)

-- What is written where it is not made: nothing, where memory ran out, or the desk is halted or has facts that are not saved. What a
-- writer holds that failed is not said.
abbrev pub LeavesHere : DeskState → Option (List ℕ) → Option (List ℕ) → LiveFault → Type 0
LeavesHere desk before after faults.OutOfMemory = Keeps before after
LeavesHere desk before after faults.Unsaved = Keeps before after × ¬ (IsPaused desk)
LeavesHere desk before after faults.Write = Unit {0}
LeavesHere desk before after _ = ⊥

-- the closings of the cycles that are due were made, and not all was saved, or their office was not taken apart
pub record DueCut (side : Side) (old : Pause) (moment : ℤ) (text : List ℕ) : Type 0 where
  pub ids : List CycleId
  pub due : AreDue old.desk.facts moment ids
  pub closings : ClosingsSome side (new_seat 16 1) old.desk.saved (old.lines + 1) ids text

-- what these wrote
abbrev pub WritesCut : Side → Pause → ℤ → Option (List ℕ) → Option (List ℕ) → Type 0
WritesCut side old moment before after = (text : List ℕ) × DueCut side old moment text × Appends before after text

-- What is written where the cycles that are due are not closed, or not all is saved; nothing where that could not begin.
abbrev pub LeavesDue : Side → Pause → ℤ → Option (List ℕ) → Option (List ℕ) → LiveFault → Type 0
LeavesDue side old moment before after (faults.Turn fault) = WritesCut side old moment before after
LeavesDue side old moment before after faults.Unsaved = WritesCut side old moment before after
LeavesDue side old moment before after (faults.Unsettled fault) = WritesCut side old moment before after
LeavesDue side old moment before after faults.OutOfMemory = Keeps before after ⊎ WritesCut side old moment before after
LeavesDue side old moment before after faults.SeatFull = Keeps before after
LeavesDue side old moment before after faults.Write = Unit {0}
LeavesDue side old moment before after faults.Read = ⊥

abbrev pub LeavesBetween : Side → Pause → End → Option (List ℕ) → Option (List ℕ) → LiveFault → Type 0
LeavesBetween side old end before after fault =
    LeavesHere old.desk before after fault
    ⊎ ((line : List ℕ) × (moment : ℤ) × (end ≡ ends.Asked line) × AsksDue line moment × LeavesDue side old moment before after fault)

-- ---- one after the other

abbrev pub Part : Side → Pause → List (List ℕ) → List ℕ → Pause → Type 0
Part side old lines text new = Stretch side old lines text new ⊎ Answered side old lines text new

-- stretches and queries, each of its own lines, in order
abbrev pub Parts : Side → Pause → List (List (List ℕ)) → List ℕ → Pause → Type 0
Parts side old [] text new = (text ≡ []) × (new ≡ old)
Parts side old (lines ∷ later) text new =
    (first rest : List ℕ) × (between : Pause) × (text ≡ first ++ rest) × Part side old lines first between × Parts side between later rest new

-- They are of the first lines that were left, each line in one of them and in order, and what was written is their texts.
pub record GoesTo (side : Side) (old : Pause) (input left : Option (List (List ℕ))) (before after : Option (List ℕ)) (reached : Pause) : Type 0 where
  pub parts : List (List (List ℕ))
  pub text : List ℕ
  pub goes : Parts side old parts text reached
  pub taken : TakesLines input (joined parts) left
  pub written : Appends before after text

-- why an office is not taken apart
abbrev pub IsSettlingFault : LiveFault → Type 0
IsSettlingFault (faults.Unsettled fault) = Unit {0}
IsSettlingFault faults.OutOfMemory = Unit {0}
IsSettlingFault _ = ⊥

-- steps were written whole, and their office was not taken apart
pub record IsLeft (side : Side) (old : Pause) (input : Option (List (List ℕ))) (before after : Option (List ℕ)) (fault : LiveFault) : Type 0 where
  pub left : Option (List (List ℕ))
  pub reached : LiveState
  pub runs : RunsTo side (begun old) input left before after reached
  pub why : IsSettlingFault fault

-- the line that was taken asks for what is due, which was not closed, or not all of it saved
pub record IsCut (side : Side) (old : Pause) (input : Option (List (List ℕ))) (before after : Option (List ℕ)) (fault : LiveFault) : Type 0 where
  pub line : List ℕ
  pub rest : Option (List (List ℕ))
  pub takes : TakesLines input (line ∷ []) rest
  pub moment : ℤ
  pub asks : AsksDue line moment
  pub leaves : LeavesDue side old moment before after fault

-- What is written where a part is not made whole: nothing, where memory ran out before it, the input has too many lines, or the desk that
-- came back is halted or has facts that are not saved; the steps before the one that was not made whole; those whose office was not taken
-- apart; the closings of what is due. What a writer holds that failed is not said.
abbrev pub LeavesPart : Side → Pause → Option (List (List ℕ)) → Option (List ℕ) → Option (List ℕ) → LiveFault → Type 0
LeavesPart side old input before after fault =
    (((fault ≡ faults.OutOfMemory) ⊎ ((fault ≡ faults.Read) ⊎ ((fault ≡ faults.Unsaved) × ¬ (IsPaused old.desk)))) × Keeps before after)
    ⊎ ((fault ≡ faults.Write) ⊎ (RunsSome side (begun old) input before after fault ⊎ (IsLeft side old input before after fault ⊎ IsCut side old input before after fault)))

-- parts of first lines, and a further one that was not made whole
pub record GoesSome (side : Side) (old : Pause) (input : Option (List (List ℕ))) (before after : Option (List ℕ)) (fault : LiveFault) : Type 0 where
  pub left : Option (List (List ℕ))
  pub between : Option (List ℕ)
  pub reached : Pause
  pub goes : GoesTo side old input left before between reached
  pub leaves : LeavesPart side reached left between after fault

-- ---- a whole run

-- All lines were taken, from a desk, and what came of them was written, and then the last line.
pub record RunsWhole (side : Side) (desk : DeskState) (input : Option (List ℕ)) (before after : Option (List ℕ)) : Type 0 where
  pub parts : List (List (List ℕ))
  pub text : List ℕ
  pub ending : List ℕ
  pub last : Pause
  pub goes : Parts side (pause desk 0) parts text last
  pub all : IfSome input (λ bytes. given_lines bytes ≡ joined parts)
  pub ends : IsEnding side last.desk ending
  pub written : Appends before after (text ++ ending)

-- some lines, if any, were taken, and what came of them was written
abbrev pub RunsInPart : Side → DeskState → Option (List (List ℕ)) → Option (List ℕ) → Option (List ℕ) → LiveFault → Type 0
RunsInPart side desk input before after fault = GoesSome side (pause desk 0) input before after fault
