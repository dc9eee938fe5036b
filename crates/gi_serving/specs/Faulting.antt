-- What turns that save make of the books of both offices, one after the other, and which fault is told of them.
use Rattle.std.specs.Prelude.{◌≡◌, ◌⊎◌, List, [], ◌∷◌, Bool, Result, Ok, Err}
use Rattle.gi_office.specs.Keeping.{SeatState}
use Rattle.gi_office.specs.declared.save_fault.SaveFault.{SaveFault}
use Rattle.gi_office.specs.declared.turn.Turn.{Turn}
use Rattle.gi_serving.specs.Asking.{IsTurned}
use Rattle.gi_serving.specs.declared.serve_fault.ServeFault.{ServeFault}
use Rattle.gi_serving.specs.declared.serve_fault.ServeFault.TheVariants as faults

-- what a turn may make of a book of this type and of a seat
abbrev pub Takes : Type 0 → Type 1
Takes B = B → B → SeatState → Result Turn SaveFault → SeatState → Type 0

-- a turn made this of the book, and this is told of it
pub record MakesTurn {B : Type 0} (takes : Takes B) (book : B) (told : Result Bool SaveFault) (next : B) : Type 0 where
  pub old : SeatState
  pub new : SeatState
  pub turn : IsTurned (takes book next) old told new

-- turns were made, one after the other, through these books, and none ended by a fault
abbrev pub GoThrough : {B : Type 0} → Takes B → B → List B → B → Type 0
GoThrough takes first [] last = last ≡ first
GoThrough takes first (next ∷ later) last = ((saved : Bool) × MakesTurn takes first (Ok saved) next) × GoThrough takes next later last

-- turns were made, if any, and none ended by a fault
abbrev pub GoWell : {B : Type 0} → Takes B → B → B → Type 0
GoWell {B} takes first last = (books : List B) × GoThrough takes first books last

-- the last one ended by this fault, and none before
pub record EndBy {B : Type 0} (takes : Takes B) (first last : B) (fault : SaveFault) : Type 0 where
  pub before : B
  pub well : GoWell takes first before
  pub turn : MakesTurn takes before (Err fault) last

-- ---- at both offices

-- no turn ended by a fault
abbrev pub BothGoWell : {B C : Type 0} → Takes B → Takes C → B → C → B → C → Type 0
BothGoWell takes peer_takes first peer_first last peer_last = GoWell takes first last × GoWell peer_takes peer_first peer_last

-- one did, at one of them, and it was the last there
abbrev pub OneEndsBy : {B C : Type 0} → Takes B → Takes C → B → C → B → C → SaveFault → Type 0
OneEndsBy takes peer_takes first peer_first last peer_last fault =
    (EndBy takes first last fault × GoWell peer_takes peer_first peer_last) ⊎ (GoWell takes first last × EndBy peer_takes peer_first peer_last fault)

-- how the turns of both ended
abbrev pub TurnsEnd : {B C : Type 0} → Takes B → Takes C → B → C → B → C → Result (Unit {0}) SaveFault → Type 0
TurnsEnd takes peer_takes first peer_first last peer_last (Ok done) = BothGoWell takes peer_takes first peer_first last peer_last
TurnsEnd takes peer_takes first peer_first last peer_last (Err fault) = OneEndsBy takes peer_takes first peer_first last peer_last fault

-- A turn's fault is one by which a turn ended, beginning from these books; another fault is none of a turn.
abbrev pub IsOfTurns : {B C : Type 0} → Takes B → Takes C → B → C → ServeFault → Type 0
IsOfTurns {B} {C} takes peer_takes first peer_first (faults.Turn fault) = (last : B) × (peer_last : C) × OneEndsBy takes peer_takes first peer_first last peer_last fault
IsOfTurns takes peer_takes first peer_first _ = Unit {0}

-- What is told where a run ends early: of a turn that ended by a fault that fault, and no other; that memory ran out, or that the writer
-- failed, only where none did.
abbrev pub TellsTurns : {B C : Type 0} → Takes B → Takes C → B → C → B → C → ServeFault → Type 0
TellsTurns takes peer_takes first peer_first last peer_last (faults.Turn fault) = OneEndsBy takes peer_takes first peer_first last peer_last fault
TellsTurns takes peer_takes first peer_first last peer_last faults.OutOfMemory = BothGoWell takes peer_takes first peer_first last peer_last
TellsTurns takes peer_takes first peer_first last peer_last faults.Write = BothGoWell takes peer_takes first peer_first last peer_last
TellsTurns takes peer_takes first peer_first last peer_last _ = ⊥
