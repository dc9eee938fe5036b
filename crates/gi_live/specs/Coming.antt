-- What comes of the lines that an office is given.
use Rattle.std.specs.Prelude.{◌≡◌, ◌≤◌, ◌<◌, ℕ, List, [], ◌∷◌, ◌++◌, length, Option, None}
use Rattle.gi_desk.specs.declared.call.Call.{Call}
use Rattle.gi_desk.specs.declared.call.Call.TheVariants as calls
use Rattle.gi_desk.specs.declared.reply.Answer.{Answer}
use Rattle.gi_desk.specs.declared.reply.Reply.{Reply}
use Rattle.gi_desk.specs.declared.reply.Answer.TheVariants as answers
use Rattle.gi_messages.specs.Decoding.{decoded}
use Rattle.gi_office.specs.Entering.{IsReceipt, noted}
use Rattle.gi_office.specs.Keeping.{SeatState}
use Rattle.gi_office.specs.declared.note.Note.{Note}
use Rattle.gi_office.specs.declared.receipt.Receipt.{Receipt}
use Rattle.gi_pairs.specs.declared.side.Side.{Side}
use Rattle.gi_script.specs.Grammar.{Asks}
use Rattle.gi_simulation.specs.Refused.{portfolio_in}
use Rattle.gi_live.specs.Lines.{IsEnded}
use Rattle.gi_live.specs.Queries.{AsksQuery}
use Rattle.gi_live.specs.declared.came.Came.{Came}
use Rattle.gi_live.specs.declared.came.Came.TheVariants.{Unread, Answered, Due, Closed}
use Rattle.gi_live.specs.declared.live_fault.LiveFault.{LiveFault}
use Rattle.gi_live.specs.declared.live_fault.LiveFault.TheVariants as faults
use Rattle.gi_live.specs.declared.came.UnreadLine.{UnreadLine}
use Rattle.gi_live.specs.declared.came.UnreadLine.TheVariants.{Unreadable, TooLarge, Halted}
use Rattle.gi_live.specs.declared.query.Query.{Query}

-- the longest line that is read, in bytes with its line feed: the longest message, and room for the words before it (this project's choice)
abbrev pub most_line : ℕ
most_line = 16_777_472

-- the portfolio that a submission names, where it can be read
abbrev pub portfolio_of_call : Call → Option (List ℕ)
portfolio_of_call (calls.Submit body) = portfolio_in (decoded body)
portfolio_of_call call = None

-- what is named beside an answer: the portfolio of a submission that was refused
abbrev pub named_beside : Call → Answer → Option (List ℕ)
named_beside call (answers.Refused refusal) = portfolio_of_call call
named_beside call answer = None

-- the reply, and the portfolio that is named beside the last one of these notes
abbrev pub IsNamed : List Note → Reply → Came → Type 0
IsNamed notes reply (Unread reason) = ⊥
IsNamed notes reply (Due cycles) = ⊥
IsNamed notes reply (Closed id told) = ⊥
IsNamed notes reply (Answered told portfolio) =
    (told ≡ reply) × ((before : List Note) (last : Note) → notes ≡ before ++ last ∷ [] → portfolio ≡ named_beside last.call last.reply.answer)

-- The call is made from the seat, which notes it with the reply, and the portfolio is named that belongs there.
abbrev pub IsMade : Side → SeatState → Call → Came → SeatState → Type 0
IsMade side old call (Unread reason) new = ⊥
IsMade side old call (Due cycles) new = ⊥
IsMade side old call (Closed id reply) new = ⊥
IsMade side old call (Answered reply portfolio) new =
    (receipt : Receipt) × IsReceipt side old call receipt × (new ≡ noted old call receipt) × (reply ≡ receipt.reply)
    × (portfolio ≡ named_beside call receipt.reply.answer)

-- why a text that asks for no call is not read: it asks a query, or nothing
abbrev pub IsNoCall : List ℕ → UnreadLine → Type 0
IsNoCall line Halted = (query : Query) × AsksQuery line query
IsNoCall line Unreadable = (query : Query) → ¬ AsksQuery line query
IsNoCall line TooLarge = ⊥

-- A line that is ended is the call that it asks for, which is made from the seat. One that asks for none, or is cut off before its line
-- feed, is unreadable, one that is too long is not read, and a query is none for an office that is halted; then nothing is made.
abbrev pub IsCome : Side → SeatState → List ℕ → Came → SeatState → Type 0
IsCome side old given (Unread TooLarge) new = (most_line < length given) × (new ≡ old)
IsCome side old given (Unread Halted) new = (length given ≤ most_line) × ((line : List ℕ) × (query : Query) × IsEnded given line × AsksQuery line query) × (new ≡ old)
IsCome side old given (Unread Unreadable) new =
    (length given ≤ most_line) × ((line : List ℕ) (call : Call) → IsEnded given line → ¬ Asks line call)
    × ((line : List ℕ) (query : Query) → IsEnded given line → ¬ AsksQuery line query) × (new ≡ old)
IsCome side old given (Due cycles) new = ⊥
IsCome side old given (Closed id reply) new = ⊥
IsCome side old given (Answered reply portfolio) new =
    (length given ≤ most_line) × ((line : List ℕ) × (call : Call) × IsEnded given line × Asks line call × IsMade side old call (Answered reply portfolio) new)

-- each line in order, from one seat
abbrev pub ComeAll : Side → SeatState → List (List ℕ) → List Came → SeatState → Type 0
ComeAll side old [] [] new = new ≡ old
ComeAll side old [] (came ∷ cames) new = ⊥
ComeAll side old (line ∷ lines) [] new = ⊥
ComeAll side old (line ∷ lines) (came ∷ cames) new = (between : SeatState) × IsCome side old line came between × ComeAll side between lines cames new

-- why a line was not asked: the seat is full, or memory ran out
abbrev pub IsAskingFault : LiveFault → Type 0
IsAskingFault faults.SeatFull = Unit {0}
IsAskingFault faults.OutOfMemory = Unit {0}
IsAskingFault _ = ⊥
