-- What a batch submits at a side, by which session, what came of it, and what the main seat notes meanwhile.
use Rattle.std.specs.Prelude.{◌≡◌, ◌<◌, ℕ, ◌+◌, ◌==◌, ◌||◌, if◌then◌else◌, List, [], ◌∷◌, ◌++◌, drop, get_or, length, map, reverse, slice_get, Bool, true, false, Option, None, Some, Result, Ok, Err, Vec}
use Rattle.std.specs.List.{flat_map, range_with_len}
use Rattle.gi_office.specs.Keeping.{SeatState}
use Rattle.gi_office.specs.Serving.{AreServed, ServedState, SessionState}
use Rattle.gi_office.specs.declared.office_fault.OfficeFault.{OfficeFault}
use Rattle.gi_office.specs.declared.office_fault.OfficeFault.TheVariants.{OutOfMemory, SeatFull}
use Rattle.gi_office.specs.declared.receipt.Receipt.{Receipt}
use Rattle.gi_pairs.specs.declared.side.Side.{Side}
use Rattle.gi_pairs.specs.declared.side.Side.TheVariants.{I, M}
use Rattle.gi_script.specs.declared.line.Line.{Line}
use Rattle.gi_serving.specs.Asking.{NotesMarks}
use Rattle.gi_serving.specs.Assigning.{sessions_of}
use Rattle.gi_serving.specs.Batches.{submission}
use Rattle.gi_serving.specs.Words.{word_of}
use Rattle.gi_serving.specs.declared.word.Word.{Word}
use Rattle.gi_serving.specs.declared.word.Word.TheVariants as words

-- ---- the bodies

-- the body of a submission at this side
abbrev pub body_for : Side → Option (Side × List ℕ) → List (List ℕ)
body_for I (Some (I, body)) = body ∷ []
body_for M (Some (M, body)) = body ∷ []
body_for side _ = []

-- the bodies that lines submit at a side, in order
abbrev pub bodies_of : Side → List Line → List (List ℕ)
bodies_of side lines = flat_map (λ (line : Line). body_for side (submission line.instruction)) lines

-- those of the items that stand beside this number, in order
abbrev pub dealt : {X : Type 0} → ℕ → List ℕ → List X → List X
dealt number [] items = []
dealt number (one ∷ numbers) [] = []
dealt number (one ∷ numbers) (item ∷ items) = if one == number then item ∷ dealt number numbers items else dealt number numbers items

-- for each number from 1 to the count
abbrev pub dealt_to_all : {X : Type 0} → ℕ → List ℕ → List X → List (List X)
dealt_to_all count numbers items = map (λ (number : ℕ). dealt number numbers items) (range_with_len 1 count)

-- a session from each seat, with the list of bodies at its place
abbrev pub begun_by : List SeatState → List (List (List ℕ)) → List SessionState
begun_by [] given = []
begun_by (seat ∷ seats) [] = []
begun_by (seat ∷ seats) (bodies ∷ given) = record { seat = seat; bodies = bodies } ∷ begun_by seats given

-- ---- what came of them

abbrev pub seat_of : SessionState → SeatState
seat_of session = session.seat

abbrev pub seat_in : ServedState → SeatState
seat_in served = served.seat

abbrev pub receipts_in : ServedState → List Receipt
receipts_in served = served.receipts

-- lists as they are kept: of bodies, and of receipts, the last one first
abbrev pub bodies_in : {Z : Type 0} → Vec (List ℕ) Z → List (List ℕ)
bodies_in bodies = bodies.items

abbrev pub in_order : {Z : Type 0} → Vec Receipt Z → List Receipt
in_order receipts = reverse receipts.items

-- a session ended for want of memory
abbrev pub is_short : Option OfficeFault → Bool
is_short None = false
is_short (Some SeatFull) = false
is_short (Some OutOfMemory) = true

-- one did before, or one of these
abbrev pub short_of : Bool → List ServedState → Bool
short_of short [] = short
short_of short (one ∷ others) = short_of (short || is_short one.fault) others

-- each call may be made
abbrev pub lets_go : ℕ → ℕ → Type 0
lets_go session call = Unit {0}

-- no gate ends a session before its last call
abbrev pub goes_on : ℕ → ℕ → Type 0
goes_on session call = ⊥

-- Each seat was that of a session, which submitted the bodies that it was given, in order, and has the receipts of those that it did
-- not leave undone. No session ended for want of memory.
pub record SessionsSubmit (side : Side) (given : List (List (List ℕ))) (old : List SeatState) (receipts : List (List Receipt)) (new : List SeatState) : Type 0 where
  pub served : List ServedState
  pub new_is : new ≡ map seat_in served
  pub submitted : AreServed side lets_go goes_on 1 (begun_by old given) served
  pub receipts_are : receipts ≡ map receipts_in served
  pub memory : short_of false served ≡ false

-- ---- the words

-- that of a body's receipt; that the seat is full, where the session left it undone
abbrev pub word_for : Option Receipt → Word
word_for (Some receipt) = word_of receipt.reply.answer
word_for None = words.SeatFull

-- the words of a session's bodies, in order: the first one is that of its first receipt, the others are those of its other receipts
abbrev pub AreWordsOf : List Receipt → List Word → Type 0
AreWordsOf receipts [] = Unit {0}
AreWordsOf receipts (word ∷ words) = (word ≡ word_for (slice_get receipts 0)) × AreWordsOf (drop 1 receipts) words

-- a word for each body, beside the number of its session; those beside a session's number are the words of its bodies
pub record AreWords (numbers : List ℕ) (receipts : List (List Receipt)) (words : List Word) : Type 0 where
  pub count : length words ≡ length numbers
  pub each : (before : ℕ) → before < length receipts → AreWordsOf (get_or receipts before []) (dealt (before + 1) numbers words)

-- What the sessions of a side make of the bodies of a batch: each body goes to the session of its portfolio, which submits those
-- that go to it, in order; and the word of each is that of its receipt.
pub record SessionsMake (side : Side) (sessions : ℕ) (bodies : List (List ℕ)) (old : List SeatState) (words : List Word) (new : List SeatState) : Type 0 where
  pub receipts : List (List Receipt)
  pub submit : SessionsSubmit side (dealt_to_all sessions (sessions_of sessions bodies) bodies) old receipts new
  pub words_are : AreWords (sessions_of sessions bodies) receipts words

-- A batch at a side: its sessions make it, from all seats but the last one, the main seat, which notes the marks of what is saved
-- meanwhile.
pub record SubmitsBatch (side : Side) (sessions : ℕ) (bodies : List (List ℕ)) (old : List SeatState) (words : List Word) (new : List SeatState) : Type 0 where
  pub others : List SeatState
  pub main : SeatState
  pub back : List SeatState
  pub after : SeatState
  pub old_is : old ≡ others ++ main ∷ []
  pub new_is : new ≡ back ++ after ∷ []
  pub make : SessionsMake side sessions bodies others words back
  pub notes : NotesMarks main after

-- it was not refused, and the main seat stands behind its seats
abbrev pub HasMain : {Y Z E : Type 0} → Result (Vec SeatState Y × Vec Word Z) E → SeatState → List SeatState → List Word → Type 0
HasMain (Ok submitted) main seats words = (seats ≡ submitted.0.items ++ main ∷ []) × (words ≡ submitted.1.items)
HasMain (Err fault) main seats words = ⊥
