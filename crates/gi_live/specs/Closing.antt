-- The closings of cycles that are due, each of which is made from a seat.
use Rattle.std.specs.Prelude.{◌≡◌, ℕ, List, [], ◌∷◌, length, true, Option}
use Rattle.std.specs.List.{list_all}
use Rattle.std.specs.Io.KnownBytes.{Appends, Keeps}
use Rattle.gi_desk.specs.declared.call.Call.{Call}
use Rattle.gi_desk.specs.declared.call.Call.TheVariants as calls
use Rattle.gi_office.specs.Entering.{IsReceipt, noted}
use Rattle.gi_office.specs.Keeping.{SeatState}
use Rattle.gi_office.specs.declared.receipt.Receipt.{Receipt}
use Rattle.gi_pairs.specs.declared.cycle_id.CycleId.{CycleId}
use Rattle.gi_pairs.specs.declared.side.Side.{Side}
use Rattle.gi_processing.specs.declared.rule.Rule.TheVariants as rules
use Rattle.gi_serving.specs.Asking.{NotesMarks, NotesTurns}
use Rattle.gi_live.specs.Running.{notes_since}
use Rattle.gi_live.specs.Telling.{may_tell_of, saved_by, step_text}
use Rattle.gi_live.specs.declared.came.Came.{Came}
use Rattle.gi_live.specs.declared.came.Came.TheVariants as cames
use Rattle.gi_live.specs.declared.live_fault.LiveFault.{LiveFault}
use Rattle.gi_live.specs.declared.live_fault.LiveFault.TheVariants as faults

-- a cycle that is due is closed by rule 2, as one is whose rule is left out
abbrev pub closing_of : CycleId → Call
closing_of id = calls.Close id rules.Two

-- the closing is made from the seat, which notes it with the reply
abbrev pub IsClosing : Side → SeatState → CycleId → Came → SeatState → Type 0
IsClosing side old id (cames.Closed closed reply) new =
    (closed ≡ id) × ((receipt : Receipt) × IsReceipt side old (closing_of id) receipt × (new ≡ noted old (closing_of id) receipt) × (reply ≡ receipt.reply))
IsClosing side old id _ new = ⊥

-- each cycle in order, from one seat
abbrev pub CloseAll : Side → SeatState → List CycleId → List Came → SeatState → Type 0
CloseAll side old [] [] new = new ≡ old
CloseAll side old [] (came ∷ closed) new = ⊥
CloseAll side old (id ∷ ids) [] new = ⊥
CloseAll side old (id ∷ ids) (came ∷ closed) new = (between : SeatState) × IsClosing side old id came between × CloseAll side between ids closed new

-- how many there are, and what came of each
abbrev pub CloseDue : Side → SeatState → List CycleId → List Came → SeatState → Type 0
CloseDue side old ids all new = (closed : List Came) × (all ≡ cames.Due (length ids) ∷ closed) × CloseAll side old ids closed new

-- What came of each closing was noted by the seat, then marks of saved facts and nothing else; and the text has how many cycles are due, the
-- answer to each closing, each of a fact that is saved, and then what these facts let out.
pub record Closings (side : Side) (old : SeatState) (saved line : ℕ) (ids : List CycleId) (text : List ℕ) (new : SeatState) : Type 0 where
  pub all : List Came
  pub between : SeatState
  pub now : ℕ
  pub closed : CloseDue side old ids all between
  pub marked : NotesMarks between new
  pub now_is : now ≡ saved_by saved (notes_since between new)
  pub answered : list_all (may_tell_of now) all ≡ true
  pub text_is : text ≡ step_text now line all (notes_since between new)

-- Where not all was saved: marks of saved facts were noted, and one call at most that let out nothing; the text has the answers that may be told, by how many facts are saved, and what was let out since.
pub record ClosingsSome (side : Side) (old : SeatState) (saved line : ℕ) (ids : List CycleId) (text : List ℕ) : Type 0 where
  pub all : List Came
  pub between : SeatState
  pub last : SeatState
  pub closed : CloseDue side old ids all between
  pub noted : NotesTurns between last
  pub text_is : text ≡ step_text (saved_by saved (notes_since between last)) line all (notes_since between last)

abbrev pub WritesClosings : Side → SeatState → ℕ → ℕ → List CycleId → Option (List ℕ) → Option (List ℕ) → SeatState → Type 0
WritesClosings side old saved line ids before after new = (text : List ℕ) × Closings side old saved line ids text new × Appends before after text

-- What is written where they are not made whole. Where not all was saved, it is what may be told; where memory ran out or the seat is full, it
-- is nothing. What a writer holds that failed is not said.
abbrev pub LeavesClosings : Side → SeatState → ℕ → ℕ → List CycleId → Option (List ℕ) → Option (List ℕ) → LiveFault → Type 0
LeavesClosings side old saved line ids before after (faults.Turn fault) = (text : List ℕ) × ClosingsSome side old saved line ids text × Appends before after text
LeavesClosings side old saved line ids before after faults.Unsaved = (text : List ℕ) × ClosingsSome side old saved line ids text × Appends before after text
LeavesClosings side old saved line ids before after faults.Write = Unit {0}
LeavesClosings side old saved line ids before after faults.SeatFull = Keeps before after
LeavesClosings side old saved line ids before after faults.OutOfMemory = Keeps before after
LeavesClosings side old saved line ids before after faults.Read = ⊥
LeavesClosings side old saved line ids before after (faults.Unsettled fault) = ⊥
