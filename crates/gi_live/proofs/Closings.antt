-- One closing more, and what is written of them.
use Rattle.std.proofs.Common.{sym, ◌≡◌, arith, append-nil, ℕ, List, [], ◌∷◌, ◌++◌, true, refl, ap, subst, ◌∙◌, Option, Result, Ok, Err, IfOk, IfErr, OnOk}
use Rattle.std.proofs.lemmas.List.Elements.{All-nil}
use Rattle.std.specs.Prelude.{IsOk}
use Rattle.std.specs.List.{list_all}
use Rattle.std.specs.Io.KnownBytes.{Appends}
use Rattle.gi_office.specs.Keeping.{SeatState}
use Rattle.gi_pairs.specs.declared.cycle_id.CycleId.{CycleId}
use Rattle.gi_pairs.specs.declared.side.Side.{Side}
use Rattle.gi_serving.specs.Asking.{IsSilent, NotesMarks, NotesTurns}
use Rattle.gi_live.specs.Closing.{CloseAll, CloseDue, Closings, ClosingsSome, IsClosing, LeavesClosings, WritesClosings}
use Rattle.gi_live.specs.Coming.{IsAskingFault}
use Rattle.gi_live.specs.Running.{LeavesTold, notes_since}
use Rattle.gi_live.specs.Telling.{may_tell_of, saved_by, step_text}
use Rattle.gi_live.specs.declared.came.Came.{Came}
use Rattle.gi_live.specs.declared.came.Came.TheVariants as cames
use Rattle.gi_live.specs.declared.live_fault.LiveFault.{LiveFault}
use Rattle.gi_live.specs.declared.live_fault.LiveFault.TheVariants as faults
use Rattle.gi_live.proofs.Runnings.{keeps_same}

-- so many cycles are due, and these of them are closed
abbrev pub Partly : Side → SeatState → ℕ → List CycleId → List Came → SeatState → Type 0
Partly side old count ids all new = (closed : List Came) × (all ≡ cames.Due count ∷ closed) × CloseAll side old ids closed new

close_more : (side : Side) (old : SeatState) (ids : List CycleId) (closed : List Came) (between : SeatState) (id : CycleId) (came : Came) (new : SeatState)
    → CloseAll side old ids closed between → IsClosing side between id came new → CloseAll side old (ids ++ id ∷ []) (closed ++ came ∷ []) new
close_more side old [] [] between id came new all one = (new, subst (λ seat. IsClosing side seat id came new) all one, refl)
close_more side old [] (first ∷ closed) between id came new all one = absurd all
close_more side old (head ∷ ids) [] between id came new all one = absurd all
close_more side old (head ∷ ids) (first ∷ closed) between id came new all one = (all.0, all.1, close_more side all.0 ids closed between id came new all.2 one)

-- the same where it came to something
pub close_if : (side : Side) (old : SeatState) (count : ℕ) (ids : List CycleId) (some : List Came) (between : SeatState) (id : CycleId) (result : Result Came LiveFault) (all : List Came) (new : SeatState)
    → Partly side old count ids some between → IfOk result (λ came. IsClosing side between id came new) → IfOk result (λ came. all ≡ some ++ came ∷ []) → IsOk result
    → Partly side old count (ids ++ id ∷ []) all new
close_if side old count ids some between id (Ok came) all new before one added ok =
    (before.0 ++ came ∷ [], added ∙ ap (λ l. l ++ came ∷ []) before.1, close_more side old ids before.0 between id came new before.2 one)
close_if side old count ids some between id (Err fault) all new before one added ok = absurd (let no = ok in cc)

-- what is written of all
pub writes_closings : (side : Side) (old : SeatState) (saved line : ℕ) (ids : List CycleId) (all : List Came) (between new : SeatState) (now : ℕ) (before after : Option (List ℕ))
    (result : Result (Unit {0}) LiveFault)
    → CloseDue side old ids all between → now ≡ saved_by saved (notes_since between new) → OnOk result (NotesMarks between new)
    → OnOk result (list_all (may_tell_of now) all ≡ true) → OnOk result (Appends before after (step_text now line all (notes_since between new)))
    → OnOk result (WritesClosings side old saved line ids before after new)
writes_closings side old saved line ids all between new now before after (Ok done) closed is marked answered written = (
  step_text now line all (notes_since between new),
  record { all = all; between = between; now = now; closed = closed; marked = marked; now_is = is; answered = answered; text_is = refl },
  written,
)
writes_closings side old saved line ids all between new now before after (Err fault) closed is marked answered written = tt

-- and where not all is saved
closings_some : (side : Side) (old : SeatState) (saved line : ℕ) (ids : List CycleId) (all : List Came) (between last : SeatState) (now : ℕ)
    → CloseDue side old ids all between → NotesTurns between last → now ≡ saved_by saved (notes_since between last)
    → ClosingsSome side old saved line ids (step_text now line all (notes_since between last))
closings_some side old saved line ids all between last now closed noted is =
    record { all = all; between = between; last = last; closed = closed; noted = noted; text_is = ap (λ n. step_text n line all (notes_since between last)) is }

leaves_one : (side : Side) (old : SeatState) (saved line : ℕ) (ids : List CycleId) (text : List ℕ) (before after : Option (List ℕ)) (fault : LiveFault)
    → ClosingsSome side old saved line ids text → LeavesTold text before after fault → LeavesClosings side old saved line ids before after fault
leaves_one side old saved line ids text before after (faults.Turn why) some told = (text, some, told)
leaves_one side old saved line ids text before after faults.Unsaved some told = (text, some, told)
leaves_one side old saved line ids text before after faults.Write some told = tt
leaves_one side old saved line ids text before after faults.Read some told = absurd told
leaves_one side old saved line ids text before after faults.SeatFull some told = absurd told
leaves_one side old saved line ids text before after (faults.Unsettled why) some told = absurd told
leaves_one side old saved line ids text before after faults.OutOfMemory some told = told

pub leaves_closings : (side : Side) (old : SeatState) (saved line : ℕ) (ids : List CycleId) (all : List Came) (between last : SeatState) (now : ℕ) (before after : Option (List ℕ))
    (result : Result (Unit {0}) LiveFault)
    → CloseDue side old ids all between → NotesTurns between last → now ≡ saved_by saved (notes_since between last)
    → IfErr result (LeavesTold (step_text now line all (notes_since between last)) before after) → IfErr result (LeavesClosings side old saved line ids before after)
leaves_closings side old saved line ids all between last now before after (Ok done) closed noted is told = tt
leaves_closings side old saved line ids all between last now before after (Err fault) closed noted is told =
    leaves_one side old saved line ids _ before after fault (closings_some side old saved line ids all between last now closed noted is) told

-- none was closed
pub none_closed : (side : Side) (old : SeatState) (saved line : ℕ) (ids : List CycleId) (output : Option (List ℕ)) (fault : LiveFault)
    → IsAskingFault fault → LeavesClosings side old saved line ids output output fault
none_closed side old saved line ids output (faults.Turn why) is = absurd is
none_closed side old saved line ids output faults.Unsaved is = absurd is
none_closed side old saved line ids output faults.Write is = absurd is
none_closed side old saved line ids output faults.Read is = absurd is
none_closed side old saved line ids output faults.SeatFull is = keeps_same output
none_closed side old saved line ids output (faults.Unsettled why) is = absurd is
none_closed side old saved line ids output faults.OutOfMemory is = keeps_same output

of_marks : (old new : SeatState) → NotesMarks old new → NotesTurns old new
of_marks old new noted = record {
  marks = noted.marks;
  are_marks = noted.are_marks;
  last = [];
  silent = All-nil IsSilent;
  few = omega arith;
  notes_are = ap (λ (seat : SeatState). seat.notes) noted.new_is ∙ ap (λ l. old.notes ++ l) (sym (append-nil noted.marks));
}

-- all were made, and that is what there is where not all is saved
pub all_as_some : (side : Side) (old : SeatState) (saved line : ℕ) (ids : List CycleId) (text : List ℕ) (new : SeatState)
    → Closings side old saved line ids text new → ClosingsSome side old saved line ids text
all_as_some side old saved line ids text new is = record {
  all = is.all;
  between = is.between;
  last = new;
  closed = is.closed;
  noted = of_marks is.between new is.marked;
  text_is = is.text_is ∙ ap (λ n. step_text n line is.all (notes_since is.between new)) is.now_is;
}
