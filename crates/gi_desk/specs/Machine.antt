-- The desk as a machine: its state is a list of facts, how many of them are saved, whether it is halted, and the parts of messages that it keeps.
-- Every answer, every packet and the next state are functions of the state and the call.
use Rattle.std.specs.Prelude.{◌≡◌, ℕ, ◌+◌, List, [], ◌∷◌, ◌++◌, length, take, filter, Bool, true, false, not, ◌&&◌, ◌||◌, nat_le, nat_lt, IsTrue, ◌⊎◌, if◌then◌else◌, Option, Some, None, Result, Ok, Err}
use Rattle.std.specs.List.{list_all}
use Rattle.std.specs.Str.{is_utf8}
use Rattle.gi_pairs.specs.Limits.{most_processed_rows}
use Rattle.gi_pairs.specs.Table.{TableContents, same_hours}
use Rattle.gi_pairs.specs.declared.side.Side.{Side}
use Rattle.gi_messages.specs.Decoding.{decoded}
use Rattle.gi_messages.specs.Limits.{last_priority, last_version, most_bytes}
use Rattle.gi_messages.specs.declared.nomination_line.NominationLine.{NominationLine}
use Rattle.gi_cycles.specs.declared.cycle_state.CycleState.{CycleState}
use Rattle.gi_cycles.specs.declared.cycle_state.CycleState.TheVariants as states
use Rattle.gi_parts.specs.Parts.{count_of, with_kept, without}
use Rattle.gi_parts.specs.declared.kept_parts.KeptPart.{KeptPart}
use Rattle.gi_desk.specs.History.{is_closing, is_meeting, number_of, state_of}
use Rattle.gi_desk.specs.Judging.{closed, contracted, delivered, marked, nominated, noticed, resent, submitted}
use Rattle.gi_desk.specs.LetOut.{let_out}
use Rattle.gi_desk.specs.declared.reply.Answer.{Answer}
use Rattle.gi_desk.specs.declared.reply.Answer.TheVariants as answers
use Rattle.gi_desk.specs.declared.call.Call.{Call}
use Rattle.gi_desk.specs.declared.call.Call.TheVariants.{Contract, Notice, Submit, Close, Deliver, Resend, MarkSaved, Halt}
use Rattle.gi_facts.specs.declared.fact.Fact.{Fact}
use Rattle.gi_facts.specs.declared.fact.Fact.TheVariants as facts
use Rattle.gi_desk.specs.declared.outcome.Outcome.{Outcome}
use Rattle.gi_desk.specs.declared.outcome.Outcome.TheVariants.{Records, RepeatsNomination, RepeatsMeeting, RepeatsPart, Keeps, Saves, Resends, Stops, Refuses}
use Rattle.gi_desk.specs.declared.packet.Packet.{Packet}
use Rattle.gi_desk.specs.declared.packet.Recipient.{Recipient}
use Rattle.gi_desk.specs.declared.packet.Recipient.TheVariants.{Peer, User}
use Rattle.gi_desk.specs.declared.refusal.Refusal.TheVariants as refusals
use Rattle.gi_desk.specs.declared.replay_fault.ReplayFault.{ReplayFault}
use Rattle.gi_desk.specs.declared.replay_fault.ReplayFault.TheVariants.{BadFact, OutOfMemory}
use Rattle.gi_desk.specs.declared.prepared.Prepared.{Prepared}
use Rattle.gi_desk.specs.declared.reply.Reply.{Reply}

-- how many facts a desk has at most (this project's choice)
abbrev pub most_facts : ℕ
most_facts = 1_000_000

pub record DeskState : Type 0 where
  pub point : List ℕ
  pub facts : List Fact
  pub saved : ℕ
  pub halted : Bool
  pub kept : List KeptPart

-- a desk that starts again from its first facts, which are then saved; it keeps no part
abbrev pub started_again : DeskState → ℕ → DeskState
started_again s keep = record { point = s.point; facts = take keep s.facts; saved = keep; halted = false; kept = [] }

-- what a call comes to by itself
abbrev pub comes_to : Side → DeskState → Call → Outcome
comes_to side s (Contract contract) = contracted s.facts contract
comes_to side s (Notice notice) = noticed notice
comes_to side s (Submit body) = submitted s.point s.facts (decoded body)
comes_to side s (Close id rule) = closed s.facts id rule
comes_to side s (Deliver body) = delivered side s.point s.facts s.kept (decoded body)
comes_to side s (Resend id) = resent s.facts s.saved id
comes_to side s (MarkSaved n fact) = marked s.facts s.saved n fact
comes_to side s Halt = Stops

-- a full desk records no fact
abbrev pub unless_full : List Fact → Outcome → Outcome
unless_full history (Records fact) = if nat_le most_facts (length history) then Refuses refusals.Full else Records fact
unless_full history other = other

-- the first refusal whose condition holds, else what is accepted
unfoldable pub outcome : Side → DeskState → Call → Outcome
outcome side s call = if s.halted then Refuses refusals.Halted else unless_full s.facts (comes_to side s call)

abbrev pub answer_of : DeskState → Outcome → Answer
answer_of s (Records fact) = answers.Recorded (length s.facts + 1)
answer_of s (RepeatsNomination n) = answers.Repeat n
answer_of s (RepeatsMeeting n) = answers.Repeat n
answer_of s (RepeatsPart n) = answers.Repeat n
answer_of s (Keeps id part) = answers.Kept (count_of id (with_kept id part s.kept)) part.parts
answer_of s (Saves n) = answers.Saved n
answer_of s (Resends id) = answers.Resent
answer_of s Stops = answers.Stopped
answer_of s (Refuses refusal) = answers.Refused refusal

-- what fact number n lets out, where it is saved
abbrev pub saved_out : Side → DeskState → ℕ → List Packet
saved_out side s n = if nat_le n s.saved then let_out side s.point s.facts n else []

abbrev pub is_for_peer : Packet → Bool
is_for_peer packet = is_peer packet.to
  where
    is_peer : Recipient → Bool
    is_peer Peer = true
    is_peer (User portfolio) = false

-- the packets of a reply: a fact's as it is saved, the acknowledgement of a repeated nomination, the response to a
-- repeated order, and all that a cycle's closing and meeting let out
abbrev pub out_of : Side → DeskState → Outcome → List Packet
out_of side s (Records fact) = []
out_of side s (RepeatsNomination n) = saved_out side s n
out_of side s (RepeatsMeeting n) = filter is_for_peer (saved_out side s n)
out_of side s (RepeatsPart n) = []
out_of side s (Keeps id part) = []
out_of side s (Saves n) = let_out side s.point s.facts n
out_of side s (Resends id) = saved_out side s (number_of (is_closing id) s.facts) ++ saved_out side s (number_of (is_meeting id) s.facts)
out_of side s Stops = []
out_of side s (Refuses refusal) = []

-- what is kept once a fact is recorded: a meeting drops the parts of its cycle
abbrev pub kept_after : Fact → List KeptPart → List KeptPart
kept_after (facts.Met id peer) kept = without id kept
kept_after fact kept = kept

-- the state that follows
abbrev pub next_of : DeskState → Outcome → DeskState
next_of s (Records fact) = record s { facts = s.facts ++ fact ∷ []; kept = kept_after fact s.kept }
next_of s (RepeatsNomination n) = s
next_of s (RepeatsMeeting n) = s
next_of s (RepeatsPart n) = s
next_of s (Keeps id part) = record s { kept = with_kept id part s.kept }
next_of s (Saves n) = record s { saved = n }
next_of s (Resends id) = s
next_of s Stops = record s { halted = true }
next_of s (Refuses refusal) = s

unfoldable pub reply : Side → DeskState → Call → Reply
reply side s call = let o = outcome side s call in record { answer = answer_of s o; out = out_of side s o }

unfoldable pub after : Side → DeskState → Call → DeskState
after side s call = next_of s (outcome side s call)

-- what a call comes to and the reply to it, with nothing made yet; and that they are those of some call
abbrev pub prepared : Side → DeskState → Call → Prepared
prepared side s call = record { outcome = outcome side s call; reply = reply side s call }

abbrev pub IsPrepared : Side → DeskState → Prepared → Type 0
IsPrepared side s p = (call : Call) × (p ≡ prepared side s call)

-- a message that can be read: it is not too large, and text
abbrev pub can_be_read : List ℕ → Bool
can_be_read body = nat_le (length body) most_bytes && is_utf8 body

-- the calls of which memory may be wanted to learn what they come to: those of a message that can be read
abbrev pub learns_with_memory : Call → Bool
learns_with_memory (Contract contract) = false
learns_with_memory (Notice notice) = false
learns_with_memory (Submit body) = can_be_read body
learns_with_memory (Close id rule) = false
learns_with_memory (Deliver body) = can_be_read body
learns_with_memory (Resend id) = false
learns_with_memory (MarkSaved n fact) = false
learns_with_memory Halt = false

-- whether packets leave
abbrev pub some_leave : List Packet → Bool
some_leave [] = false
some_leave (packet ∷ packets) = true

-- whether a fact is recorded
abbrev pub is_record : Outcome → Bool
is_record (Records fact) = true
is_record other = false

-- To learn what a call comes to, and to write what leaves, may want memory on a desk that is not halted: for a message
-- that can be read, and where packets leave.
unfoldable pub may_want_to_prepare : Side → DeskState → Call → Bool
may_want_to_prepare side s call = not s.halted && (learns_with_memory call || some_leave (out_of side s (outcome side s call)))

-- whether the desk grows: by a fact, or by a part of a message, which can be read
abbrev pub grows : Outcome → Bool
grows (Records fact) = true
grows (Keeps id part) = true
grows other = false

-- A step may want memory besides where the desk grows: so never on a halted desk, for a halt, for a message that is too
-- large or no text, for another call that is refused, or for a mark or a resending that lets nothing out.
unfoldable pub may_want : Side → DeskState → Call → Bool
may_want side s call = may_want_to_prepare side s call || grows (outcome side s call)

abbrev pub out_of_memory : Reply
out_of_memory = record { answer = answers.Refused refusals.OutOfMemory; out = [] }

-- The machine gives this reply and goes on to new. Want of memory leaves all as it was.
abbrev pub IsStep : Side → DeskState → Call → Reply → DeskState → Type 0
IsStep side old call r new =
    ((r ≡ reply side old call) × (new ≡ after side old call)) ⊎ ((r ≡ out_of_memory) × (new ≡ old) × IsTrue (may_want side old call))

-- that reply beforehand, with nothing changed
abbrev pub IsForeseen : Side → DeskState → Call → Reply → Type 0
IsForeseen side s call r = (r ≡ reply side s call) ⊎ ((r ≡ out_of_memory) × IsTrue (may_want_to_prepare side s call))

-- whether a line has a priority that a text can name
abbrev pub has_priority : NominationLine → Bool
has_priority line = nat_le 1 line.priority && nat_le line.priority last_priority

-- whether a cycle can meet the table: it is frozen, for the same hours; whole, or in parts of which all but the last are kept
abbrev pub can_meet : TableContents → CycleState → Bool
can_meet peer (states.Collecting id) = false
can_meet peer (states.Frozen cycle) = same_hours cycle.own peer
can_meet peer (states.Matched cycle) = false

-- whether a desk with these facts would record the fact for some call, with some parts kept
abbrev pub would_record : Side → List ℕ → List Fact → Fact → Bool
would_record side point history (facts.Contracted contract) = is_record (contracted history contract)
would_record side point history (facts.Noticed notice) = is_record (noticed notice)
would_record side point history (facts.Nominated document) =
    is_record (nominated point history document) && nat_le 1 document.version && nat_le document.version last_version && list_all has_priority document.lines
would_record side point history (facts.Closed id rule) = is_record (closed history id rule)
would_record side point history (facts.Met id peer) =
    can_meet peer (state_of side history id) && nat_le (length peer.rows) most_processed_rows

-- the fact may come after those before it: some call would record it, and there is room
abbrev pub may_follow : Side → List ℕ → List Fact → Fact → Bool
may_follow side point before fact = would_record side point before fact && nat_lt (length before) most_facts

-- the number of the first fact that would not be recorded after those before it, or is one too many
abbrev pub bad_from : Side → List ℕ → List Fact → List Fact → Option ℕ
bad_from side point before [] = None
bad_from side point before (fact ∷ later) =
    if may_follow side point before fact then bad_from side point (before ++ fact ∷ []) later
    else Some (length before + 1)

unfoldable pub bad_fact : Side → List ℕ → List Fact → Option ℕ
bad_fact side point history = bad_from side point [] history

-- there is a first fact, and it is no bad one
abbrev pub BeginsWell : Side → List ℕ → List Fact → Type 0
BeginsWell side point [] = ⊥
BeginsWell side point (first ∷ later) = may_follow side point [] first ≡ true

-- A desk of given facts: all of them are saved, and it is not halted. It refuses the first bad one. Memory is wanted once
-- the first fact is recorded: so none for no facts, or where the first one is bad.
abbrev pub IsReplayed : Side → List ℕ → List Fact → Result DeskState ReplayFault → Type 0
IsReplayed side point facts (Ok s) = (bad_fact side point facts ≡ None) × (s ≡ record { point = point; facts = facts; saved = length facts; halted = false; kept = [] })
IsReplayed side point facts (Err (BadFact n)) = bad_fact side point facts ≡ Some n
IsReplayed side point facts (Err OutOfMemory) = BeginsWell side point facts
