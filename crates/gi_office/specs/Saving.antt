-- Turns that save facts: what a turn looks at, what it does to the book, and what its seat notes.
use Rattle.std.specs.Prelude.{◌≡◌, ◌↔◌, ◌⊎◌, ◌≤◌, ℕ, ◌+◌, ◌-◌, ◌^◌, nat_le, Bool, true, false, List, [], ◌∷◌, ◌++◌, length, take, drop, slice_get, Option, None, Some, if◌then◌else◌, Result, Ok, Err, IsTrue, Contains}
use Rattle.std.specs.List.{AllByRecursion}
use Rattle.sqlite_value.specs.Order.{Row}
use Rattle.sqlite_trees.specs.declared.store.Store.{Ghosts}
use Rattle.sqlite.specs.State.{State}
use Rattle.sqlite.specs.Held.{state}
use Rattle.gi_pairs.specs.declared.side.Side.{Side}
use Rattle.gi_facts.specs.Batch.{most_facts}
use Rattle.gi_facts.specs.Grammar.{IsWritable}
use Rattle.gi_facts.specs.declared.fact.Fact.{Fact}
use Rattle.gi_desk.specs.Machine.{DeskState}
use Rattle.gi_desk.specs.declared.call.Call.TheVariants.{Halt, MarkSaved}
use Rattle.gi_desk.specs.declared.reply.Answer.{Answer}
use Rattle.gi_desk.specs.declared.reply.Answer.TheVariants as answers
use Rattle.gi_store.specs.Batches.{IsLongestFront}
use Rattle.gi_store.specs.Book.{AddsFacts, AnswersBatch, BookState, IsLoadCaused, IsLoadFault, IsRead, SavesAllOrLeaves, counted}
use Rattle.gi_store.specs.Clean.{IsClean}
use Rattle.gi_store.specs.Facts.{Covers}
use Rattle.gi_store.specs.Keeping.{AddsNoOutcome, Keeps}
use Rattle.gi_store.specs.Rows.{facts_in}
use Rattle.gi_store.specs.declared.store_fault.StoreFault.{StoreFault}
use Rattle.gi_store.specs.declared.store_fault.StoreFault.TheVariants.{NotLoaded, NotNext}
use Rattle.gi_office.specs.Entering.{IsReceipt, noted}
use Rattle.gi_office.specs.Keeping.{HeldState, IsFull, HeldInvariant, SeatState}
use Rattle.gi_office.specs.declared.look.Look.{Look}
use Rattle.gi_office.specs.declared.look.Look.TheVariants as looks
use Rattle.gi_office.specs.declared.office_fault.OfficeFault.{OfficeFault}
use Rattle.gi_office.specs.declared.office_fault.OfficeFault.TheVariants.{OutOfMemory, SeatFull}
use Rattle.gi_office.specs.declared.receipt.Receipt.{Receipt}
use Rattle.gi_office.specs.declared.save_fault.SaveFault.{SaveFault}
use Rattle.gi_office.specs.declared.save_fault.SaveFault.TheVariants as faults
use Rattle.gi_office.specs.declared.turn.Turn.{Turn}
use Rattle.gi_office.specs.declared.turn.Turn.TheVariants as turns

-- ---- the look

-- the next facts to save, 64 at most
abbrev pub next_facts : DeskState → List Fact
next_facts s = take most_facts (drop s.saved s.facts)

abbrev pub next_look : ℕ → List Fact → Look
next_look n [] = looks.Nothing
next_look n (fact ∷ facts) = looks.Next n (fact ∷ facts)

-- the next facts to save, from this number on, where the desk is not halted
abbrev pub look_of : DeskState → Look
look_of s = if s.halted then looks.Halted else next_look (s.saved + 1) (next_facts s)

-- from 1 to 64 facts, which can be written, from this number on
pub record AreNext (n : ℕ) (facts : List Fact) : Type 0 where
  pub some : 1 ≤ length facts
  pub few : length facts ≤ most_facts
  pub writable : AllByRecursion IsWritable facts
  pub first : 1 ≤ n
  pub numbers : n + length facts ≤ 2 ^ 32

-- the facts can be written
abbrev pub CanBeWritten : Look → Type 0
CanBeWritten looks.Halted = Unit {0}
CanBeWritten looks.Nothing = Unit {0}
CanBeWritten (looks.Next n facts) = AreNext n facts

-- What a lock gave is not told, but that it was an office like any other, in which this was seen.
abbrev pub IsSeen : Side → Look → Type 0
IsSeen side look = (held : HeldState) × HeldInvariant side held × (look ≡ look_of held.desk)

-- ---- the book

-- A row covers this number with the fact: so many of the row's facts stand before it.
pub record Stands (n : ℕ) (fact : Fact) (s : State) : Type 0 where
  pub is_open : IsTrue s.is_open
  pub row : Row
  pub first : ℕ
  pub batch : List Fact
  pub there : Contains (facts_in s.now) row
  pub covers : Covers first row batch
  pub before : ℕ
  pub number : first + before ≡ n
  pub is : slice_get batch before ≡ Some fact

-- each of the facts stands in the book, the first one under this number and the others under those after it
abbrev pub Stand : ℕ → List Fact → State → Type 0
Stand n facts s = (before : ℕ) (fact : Fact) → slice_get facts before ≡ Some fact → Stands (n + before) fact s

-- The rows are as they were, or those with the row of the facts after them. So it is with what a crash leaves.
pub record WritesAtMost (n : ℕ) (facts : List Fact) (old new : State) : Type 0 where
  pub rows : IsTrue new.is_open → (new.now ≡ old.now) ⊎ ((new.now.schema ≡ old.now.schema) × AddsFacts old.now.schema n facts old.now.trees new.now.trees)
  pub crash : SavesAllOrLeaves n facts old new

-- no row is written, and a crash leaves what it could leave before
pub record WritesNothing (old new : State) : Type 0 where
  pub rows : Keeps old new
  pub crash : AddsNoOutcome old new

-- the book is loaded and counts a fact of this number
abbrev pub is_ahead : ℕ → Option ℕ → Bool
is_ahead n None = false
is_ahead n (Some count) = nat_le n count

-- the facts of the book were read, and those from this number on are these
pub record HasFrom (n : ℕ) (facts : List Fact) (s : State) : Type 0 where
  pub all : List Fact
  pub read : IsRead s all
  pub are : drop (n - 1) all ≡ facts

-- what is told where so many facts were read, and those that come next are others
abbrev pub next_after : Option ℕ → StoreFault
next_after None = NotLoaded
next_after (Some k) = NotNext (k + 1)

-- from this number on there are facts, and they are the first so many of the others
pub record GoesOnBy (n : ℕ) (facts all : List Fact) (count : ℕ) : Type 0 where
  pub some : 1 ≤ count
  pub within : count ≤ length facts
  pub are : drop (n - 1) all ≡ take count facts

-- the facts of the book were read, and from this number on there are none, or they are not the first of these
pub record HasOthers (n : ℕ) (facts : List Fact) (s : State) (fault : StoreFault) : Type 0 where
  pub all : List Fact
  pub read : IsRead s all
  pub others : (count : ℕ) → ¬ GoesOnBy n facts all count
  pub told : fault ≡ next_after (counted (length all))

-- where a book was read again, it is told which number comes after its facts
abbrev pub TellsNext : Option ℕ → StoreFault → Type 0
TellsNext None fault = Unit {0}
TellsNext (Some k) fault = fault ≡ NotNext (k + 1)

-- a load was refused for this fault, which has its cause; want of memory has none that a clause can name
abbrev pub RefusesLoad : State → State → StoreFault → Type 0
RefusesLoad old new fault = IsLoadFault old fault × IsLoadCaused old new fault

-- Why none of the facts stands in a book. A book that was ahead was loaded again: that was refused, or its facts from this
-- number on are others. In any other the longest front was not saved as the row that comes next.
pub record IsWriteFault {S : Type 0} (store : Ghosts S) (old new : BookState S) (n : ℕ) (facts : List Fact) (front : ℕ) (fault : StoreFault) : Type 0 where
  pub ahead : is_ahead n old.loaded ≡ true → IsClean store new.connection → RefusesLoad (state store old.connection) (state store new.connection) fault ⊎ HasOthers n facts (state store new.connection) fault
  pub read : is_ahead n old.loaded ≡ true → TellsNext new.loaded fault
  pub behind : is_ahead n old.loaded ≡ false → AnswersBatch n (take front facts) old.loaded (Err fault)

-- ---- the seat

-- a call that did not come to the desk, and was refused for a full seat exactly where it is full
abbrev pub IsRefused : SeatState → OfficeFault → SeatState → Type 0
IsRefused old fault new = (new ≡ old) × ((fault ≡ SeatFull) ↔ IsFull old)

-- the seat noted the mark of the fact, and its answer is told; or the mark did not come to the desk
abbrev pub Marks : Side → ℕ → Fact → SeatState → Result Turn SaveFault → SeatState → Type 0
Marks side n fact old (Ok turns.Nothing) new = ⊥
Marks side n fact old (Ok (turns.Saved receipt)) new =
    IsReceipt side old (MarkSaved n fact) receipt × (new ≡ noted old (MarkSaved n fact) receipt) × (receipt.reply.answer ≡ answers.Saved n)
Marks side n fact old (Err faults.Halted) new = ⊥
Marks side n fact old (Err (faults.Store fault)) new = ⊥
Marks side n fact old (Err (faults.Office fault)) new = IsRefused old fault new
Marks side n fact old (Err (faults.Marked refusal)) new =
    (receipt : Receipt) × IsReceipt side old (MarkSaved n fact) receipt × (new ≡ noted old (MarkSaved n fact) receipt)
    × (receipt.reply.answer ≡ answers.Refused refusal)

-- Each of the facts was marked from the seat, the first one under this number and the others under those after it, in order: each
-- mark got its receipt, which says that the fact is saved, the seat noted it, and nothing else was noted.
abbrev pub AreMarked : Side → ℕ → List Fact → List Receipt → SeatState → SeatState → Type 0
AreMarked side n [] [] old new = new ≡ old
AreMarked side n [] (receipt ∷ receipts) old new = ⊥
AreMarked side n (fact ∷ facts) [] old new = ⊥
AreMarked side n (fact ∷ facts) (receipt ∷ receipts) old new =
    IsReceipt side old (MarkSaved n fact) receipt × (receipt.reply.answer ≡ answers.Saved n)
    × AreMarked side (n + 1) facts receipts (noted old (MarkSaved n fact) receipt) new

-- The first of the facts were marked, and stay so; the mark of the next one was refused, and that is told.
pub record StopsMarking (side : Side) (n : ℕ) (facts : List Fact) (old : SeatState) (fault : SaveFault) (new : SeatState) : Type 0 where
  pub marked : List Fact
  pub fact : Fact
  pub left : List Fact
  pub are : facts ≡ marked ++ fact ∷ left
  pub receipts : List Receipt
  pub between : SeatState
  pub noted : AreMarked side n marked receipts old between
  pub refused : Marks side (n + length marked) fact between (Err fault) new

-- all of the facts were marked, and the receipt of the last mark is told; or not all
abbrev pub MarksAll : Side → ℕ → List Fact → SeatState → Result Turn SaveFault → SeatState → Type 0
MarksAll side n facts old (Ok turns.Nothing) new = ⊥
MarksAll side n facts old (Ok (turns.Saved last)) new = (receipts : List Receipt) × AreMarked side n facts (receipts ++ last ∷ []) old new
MarksAll side n facts old (Err fault) new = StopsMarking side n facts old fault new

-- the seat noted a halt, and the fault of the book is told; or the halt did not come to the desk
abbrev pub Halts : Side → StoreFault → SeatState → Result Turn SaveFault → SeatState → Type 0
Halts side fault old (Ok turn) new = ⊥
Halts side fault old (Err faults.Halted) new = ⊥
Halts side fault old (Err (faults.Store told)) new = (told ≡ fault) × (receipt : Receipt) × IsReceipt side old Halt receipt × (new ≡ noted old Halt receipt)
Halts side fault old (Err (faults.Office refused)) new = IsRefused old refused new
Halts side fault old (Err (faults.Marked refusal)) new = ⊥

-- what a mark comes to; it is answered `Saved` or refused
abbrev pub by_answer : Receipt → Answer → Result Turn SaveFault
by_answer receipt (answers.Refused refusal) = Err (faults.Marked refusal)
by_answer receipt _ = Ok (turns.Saved receipt)

abbrev pub turn_of : Result Receipt OfficeFault → Result Turn SaveFault
turn_of (Ok receipt) = by_answer receipt receipt.reply.answer
turn_of (Err fault) = Err (faults.Office fault)

-- ---- the turn

-- The first so many of the facts stand in the book, and were to be marked. A book that was ahead has just these from the first
-- number on. Any other was right behind, and took the longest front as its next row.
pub record StandMarked {S : Type 0} (side : Side) (store : Ghosts S) (before after : BookState S) (n : ℕ) (facts : List Fact) (front : ℕ) (old : SeatState) (result : Result Turn SaveFault) (new : SeatState) : Type 0 where
  pub count : ℕ
  pub within : count ≤ length facts
  pub stand : IsClean store after.connection → Stand n (take count facts) (state store after.connection)
  pub ahead : is_ahead n before.loaded ≡ true → IsClean store after.connection → HasFrom n (take count facts) (state store after.connection)
  pub behind : is_ahead n before.loaded ≡ false → (before.loaded ≡ Some (n - 1)) × (count ≡ front)
  pub marks : MarksAll side n (take count facts) old result new

-- the book refused them, or has others there, and the desk was to be halted
pub record StandNot {S : Type 0} (side : Side) (store : Ghosts S) (before after : BookState S) (n : ℕ) (facts : List Fact) (front : ℕ) (old : SeatState) (result : Result Turn SaveFault) (new : SeatState) : Type 0 where
  pub fault : StoreFault
  pub why : IsWriteFault store before after n facts front fault
  pub halts : Halts side fault old result new

-- The longest front of the facts that one row takes is saved: no other row comes into the book, and none into one that was ahead;
-- and the seat notes a mark for each fact that stands there, in order, or one halt.
pub record Saves {S : Type 0} (side : Side) (store : Ghosts S) (before after : BookState S) (n : ℕ) (facts : List Fact) (old : SeatState) (result : Result Turn SaveFault) (new : SeatState) : Type 0 where
  pub front : ℕ
  pub longest : IsLongestFront facts front
  pub early : IsClean store after.connection → IsClean store before.connection
  pub writes : IsClean store after.connection → WritesAtMost n (take front facts) (state store before.connection) (state store after.connection)
  pub unwritten : is_ahead n before.loaded ≡ true → IsClean store after.connection → WritesNothing (state store before.connection) (state store after.connection)
  pub told : StandMarked side store before after n facts front old result new ⊎ StandNot side store before after n facts front old result new

-- it is told that there was no memory for a copy of the facts, or to see how many one row takes, and nothing was done
abbrev pub TakesNone : {S : Type 0} → BookState S → BookState S → SeatState → Result Turn SaveFault → SeatState → Type 0
TakesNone before after old result new = (result ≡ Err (faults.Office OutOfMemory)) × (after ≡ before) × (new ≡ old)

-- what comes of what was seen
abbrev pub Follows : {S : Type 0} → Side → Ghosts S → BookState S → BookState S → Look → SeatState → Result Turn SaveFault → SeatState → Type 0
Follows side store before after looks.Halted old result new = (result ≡ Err faults.Halted) × (after ≡ before) × (new ≡ old)
Follows side store before after looks.Nothing old result new = (result ≡ Ok turns.Nothing) × (after ≡ before) × (new ≡ old)
Follows side store before after (looks.Next n facts) old result new = TakesNone before after old result new ⊎ Saves side store before after n facts old result new

-- a turn, which looks under the lock, writes without it, and marks under it
abbrev pub TakesTurn : {S : Type 0} → Side → Ghosts S → BookState S → BookState S → SeatState → Result Turn SaveFault → SeatState → Type 0
TakesTurn side store before after old result new =
    TakesNone before after old result new ⊎ ((look : Look) × IsSeen side look × Follows side store before after look old result new)
