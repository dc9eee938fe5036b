-- What is made of the last seat of a side, which is the main one: a call, or the turns that save; and what it was let out.
use Rattle.std.specs.Prelude.{◌≡◌, ◌⊎◌, ◌≤◌, ℕ, List, [], ◌∷◌, ◌++◌, ◌+◌, ◌-◌, All, is_some, length, slice_get, IfSome, drop, flat_map, Bool, true, false, Option, None, Some, Result, Ok, Err}
use Rattle.gi_carrier.specs.Carrier.{given}
use Rattle.gi_desk.specs.declared.call.Call.{Call}
use Rattle.gi_desk.specs.declared.call.Call.TheVariants as calls
use Rattle.gi_desk.specs.declared.packet.Packet.{Packet}
use Rattle.gi_desk.specs.declared.reply.Answer.TheVariants as answers
use Rattle.gi_facts.specs.declared.fact.Fact.{Fact}
use Rattle.gi_office.specs.Entering.{IsAnswered, IsReceipt, noted}
use Rattle.gi_office.specs.Keeping.{IsFull, SeatState}
use Rattle.gi_office.specs.declared.note.Note.{Note}
use Rattle.gi_office.specs.declared.office_fault.OfficeFault.{OfficeFault}
use Rattle.gi_office.specs.declared.receipt.Receipt.{Receipt}
use Rattle.gi_office.specs.declared.save_fault.SaveFault.{SaveFault}
use Rattle.gi_office.specs.declared.save_fault.SaveFault.TheVariants as savings
use Rattle.gi_office.specs.declared.turn.Turn.{Turn}
use Rattle.gi_office.specs.declared.turn.Turn.TheVariants as turns
use Rattle.gi_pairs.specs.declared.side.Side.{Side}
use Rattle.gi_pairs.specs.declared.side.Side.TheVariants.{I, M}
use Rattle.gi_script.specs.declared.instruction.Instruction.{Instruction}
use Rattle.gi_script.specs.declared.instruction.Instruction.TheVariants as instructions
use Rattle.gi_script.specs.declared.line.Line.{Line}
use Rattle.gi_simulation.specs.Simulation.{LinkState, moved_on, with_packets}
use Rattle.gi_serving.specs.Runs.{is_made, is_told, line_text}
use Rattle.gi_serving.specs.Words.{word_of}
use Rattle.gi_serving.specs.declared.word.Word.{Word}
use Rattle.gi_serving.specs.declared.word.Word.TheVariants as words

-- a call is made, and answered as the office answers; or it is a mark, which turns alone make
abbrev pub Answers : Side → SeatState → Call → Option (Result Receipt OfficeFault) → SeatState → Type 0
Answers side old call None new = (is_made call ≡ false) × (new ≡ old)
Answers side old call (Some answer) new = (is_made call ≡ true) × IsAnswered side old call answer new

-- The seat noted the call, with a reply of the office, and the word is of that reply; or the seat is full, and the word says so.
abbrev pub IsAsked : Side → SeatState → Call → Option Word → SeatState → Type 0
IsAsked side old call word new =
    ((receipt : Receipt) × IsReceipt side old call receipt × (new ≡ noted old call receipt) × (word ≡ Some (word_of receipt.reply.answer)))
    ⊎ (IsFull old × (new ≡ old) × (word ≡ Some words.SeatFull))

-- a call, or a mark, which is not made and has no word
abbrev pub Asks : Side → SeatState → Call → Option Word → SeatState → Type 0
Asks side old call word new =
    ((is_made call ≡ false) × (new ≡ old) × (word ≡ None)) ⊎ ((is_made call ≡ true) × IsAsked side old call word new)

-- from the last seat, and from no other
pub record AsksLast (side : Side) (old : List SeatState) (call : Call) (word : Option Word) (new : List SeatState) : Type 0 where
  pub others : List SeatState
  pub main : SeatState
  pub after : SeatState
  pub old_is : old ≡ others ++ main ∷ []
  pub new_is : new ≡ others ++ after ∷ []
  pub asks : Asks side main call word after

-- what the carrier gave is delivered; where it gave nothing the word says so
abbrev pub Carries : Side → Option (List ℕ) → List SeatState → Option Word → List SeatState → Type 0
Carries side None old word new = (new ≡ old) × (word ≡ Some words.Nothing)
Carries side (Some body) old word new = AsksLast side old (calls.Deliver body) word new

-- What an instruction makes of the seats of its side, and the word of it. What a running office does not take makes nothing.
abbrev pub MakesSeats : Side → Instruction → LinkState → List SeatState → Option Word → List SeatState → Type 0
MakesSeats side (instructions.Call at call) way old word new = AsksLast side old call word new
MakesSeats side (instructions.Carry at) way old word new = Carries side (given way.plan way.carrier) old word new
MakesSeats side (instructions.Plan at plan) way old word new = (new ≡ old) × (word ≡ None)
MakesSeats side (instructions.Save at count) way old word new = (new ≡ old) × (word ≡ None)
MakesSeats side (instructions.Deliver at packet) way old word new = (new ≡ old) × (word ≡ None)
MakesSeats side (instructions.Restart at keep) way old word new = (new ≡ old) × (word ≡ None)

-- what it makes of the way to its side: `carry` makes the carrier's move, and a plan line sets the plan
abbrev pub way_after : Instruction → LinkState → LinkState
way_after (instructions.Call at call) way = way
way_after (instructions.Carry at) way = moved_on way
way_after (instructions.Plan at plan) way = record { carrier = way.carrier; plan = plan }
way_after (instructions.Save at count) way = way
way_after (instructions.Deliver at packet) way = way
way_after (instructions.Restart at keep) way = way

-- an office under way: its seats, the main one last; how many of the notes of that one were sent; and the way to it
pub record SideState : Type 0 where
  pub seats : List SeatState
  pub sent : ℕ
  pub way : LinkState

-- what an instruction makes of its side
pub record Makes (side : Side) (instruction : Instruction) (old : SideState) (word : Option Word) (new : SideState) : Type 0 where
  pub seats : MakesSeats side instruction old.way old.seats word new.seats
  pub way : new.way ≡ way_after instruction old.way
  pub sent : new.sent ≡ old.sent

-- what a line by itself makes of its side, and its text
pub record MakesAt (side : Side) (line : Line) (old : SideState) (text : List ℕ) (new : SideState) : Type 0 where
  pub word : Option Word
  pub told : is_some word ≡ is_told line.instruction
  pub makes : Makes side line.instruction old word new
  pub text_is : text ≡ line_text line word

-- ---- the turns that save

-- a turn that saves: whether it saved a fact; a halted desk saves none
abbrev pub saved_of : Result Turn SaveFault → Result Bool SaveFault
saved_of (Ok (turns.Saved receipt)) = Ok true
saved_of (Ok turns.Nothing) = Ok false
saved_of (Err savings.Halted) = Ok false
saved_of (Err (savings.Store fault)) = Err (savings.Store fault)
saved_of (Err (savings.Office fault)) = Err (savings.Office fault)
saved_of (Err (savings.Marked refusal)) = Err (savings.Marked refusal)

-- the mark of a fact, which is saved
abbrev pub IsMark : Note → Type 0
IsMark note = (n : ℕ) × (fact : Fact) × (note.call ≡ calls.MarkSaved n fact) × (note.reply.answer ≡ answers.Saved n)

-- a seat noted marks, and nothing else
pub record NotesMarks (old new : SeatState) : Type 0 where
  pub marks : List Note
  pub are_marks : All IsMark marks
  pub new_is : new ≡ record old { notes = old.notes ++ marks; amount = old.amount + length marks }

-- the call let out nothing
abbrev pub IsSilent : Note → Type 0
IsSilent note = note.reply.out ≡ []

-- Turns were made from a seat, whatever they came to: it noted marks, then one call at most that let out nothing, as a halt is, and nothing else.
pub record NotesTurns (old new : SeatState) : Type 0 where
  pub marks : List Note
  pub are_marks : All IsMark marks
  pub last : List Note
  pub silent : All IsSilent last
  pub few : length last ≤ 1
  pub notes_are : new.notes ≡ old.notes ++ (marks ++ last)

-- A turn was made, and this is told of it: whether it saved a fact, or its fault. `takes` says what a turn may make of a seat.
pub record IsTurned (takes : SeatState → Result Turn SaveFault → SeatState → Type 0) (old : SeatState) (told : Result Bool SaveFault) (new : SeatState) : Type 0 where
  pub turn : Result Turn SaveFault
  pub took : takes old turn new
  pub told_is : told ≡ saved_of turn

-- what is told of the turn that ends others: it saved nothing, or it is the fault
abbrev pub last_told : Result (Unit {0}) SaveFault → Result Bool SaveFault
last_told (Ok done) = Ok false
last_told (Err fault) = Err fault

-- Turns that save into a book ended with one that saved nothing, as where all is saved or the desk is halted, or with this fault.
pub record EndsTurns {B : Type 0} (takes : B → B → SeatState → Result Turn SaveFault → SeatState → Type 0) (book : B) (end : Result (Unit {0}) SaveFault) (seat : SeatState) : Type 0 where
  pub before : B
  pub between : SeatState
  pub last : IsTurned (takes before book) between (last_told end) seat

-- of what both sides have, that of the other side is as it was
abbrev pub OtherIs : {X Y : Type 0} → Side → X → X → Y → Y → Type 0
OtherIs I old new peer_old peer_new = peer_new ≡ peer_old
OtherIs M old new peer_old peer_new = new ≡ old

-- the last seat, and no other
pub record MarksLast (old new : List SeatState) : Type 0 where
  pub others : List SeatState
  pub main : SeatState
  pub after : SeatState
  pub old_is : old ≡ others ++ main ∷ []
  pub new_is : new ≡ others ++ after ∷ []
  pub notes : NotesMarks main after

-- they were made from the last seat
pub record EndsAtLast {B : Type 0} (takes : B → B → SeatState → Result Turn SaveFault → SeatState → Type 0) (book : B) (end : Result (Unit {0}) SaveFault) (seats : List SeatState) : Type 0 where
  pub others : List SeatState
  pub main : SeatState
  pub seats_are : seats ≡ others ++ main ∷ []
  pub ends : EndsTurns takes book end main

-- ---- what was let out

abbrev pub out_in : Note → List Packet
out_in note = note.reply.out

-- what the replies let out that stand behind the first so many notes, in order
abbrev pub out_behind : ℕ → List Note → List Packet
out_behind sent notes = flat_map out_in (drop sent notes)

-- what the last seat was let out behind the first so many of its notes, and how many notes it has
abbrev pub LetsOut : ℕ → List SeatState → List Packet → ℕ → Type 0
LetsOut sent seats packets now = IfSome (slice_get seats (length seats - 1)) (λ main. (packets ≡ out_behind sent main.notes) × (now ≡ length main.notes))

-- what it was let out is on its way to the other side
pub record Sends (sent : ℕ) (seats : List SeatState) (now : ℕ) (old new : LinkState) : Type 0 where
  pub packets : List Packet
  pub out : LetsOut sent seats packets now
  pub way : new ≡ with_packets old packets
