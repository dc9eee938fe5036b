-- The history of each side: what it recorded, how much of that is saved, and what it let out; folded from the steps and
-- what was answered to them, and from nothing else.
use Rattle.std.specs.Prelude.{ℕ, ◌+◌, List, [], ◌∷◌, ◌++◌, take, if◌then◌else◌, Option, Some, None, option_map, Result, Ok, Err}
use Rattle.gi_pairs.specs.Table.{TableContents}
use Rattle.gi_pairs.specs.declared.side.Side.{Side}
use Rattle.gi_pairs.specs.declared.side.Side.TheVariants.{I, M}
use Rattle.gi_messages.specs.Decoding.{decoded}
use Rattle.gi_messages.specs.declared.message.Message.{Message}
use Rattle.gi_messages.specs.declared.message.Message.TheVariants.{Nomint, Delord, Delres}
use Rattle.gi_messages.specs.declared.message_fault.MessageFault.{MessageFault}
use Rattle.gi_parts.specs.Gathering.{all_processed, is_whole, table_of}
use Rattle.gi_parts.specs.Parts.{part_of_order, part_of_response, parts_of, with_kept}
use Rattle.gi_parts.specs.declared.kept_parts.KeptPart.{KeptPart}
use Rattle.gi_desk.specs.Deciding.{cycle_of}
use Rattle.gi_desk.specs.Machine.{kept_after}
use Rattle.gi_desk.specs.declared.reply.Answer.{Answer}
use Rattle.gi_desk.specs.declared.reply.Answer.TheVariants.{Recorded, Kept, Saved}
use Rattle.gi_desk.specs.declared.call.Call.{Call}
use Rattle.gi_desk.specs.declared.call.Call.TheVariants as calls
use Rattle.gi_facts.specs.declared.fact.Fact.{Fact}
use Rattle.gi_facts.specs.declared.fact.Fact.TheVariants.{Contracted, Noticed, Nominated, Closed, Met}
use Rattle.gi_desk.specs.declared.packet.Packet.{Packet}
use Rattle.gi_desk.specs.declared.reply.Reply.{Reply}
use Rattle.gi_world.specs.World.{StationState, WorldState, other, packet_at, sent_with, told_with}
use Rattle.gi_world.specs.declared.step.Step.{Step}
use Rattle.gi_world.specs.declared.step.Step.TheVariants.{Local, Deliver, Restart}
use Rattle.gi_world.specs.declared.world_fault.WorldFault.{WorldFault}
use Rattle.gi_world.specs.declared.world_reply.WorldReply.{WorldReply}
use Rattle.gi_world.specs.declared.world_reply.WorldReply.TheVariants.{Desk, Restarted}

-- a side's facts, the number of those saved, the parts that it keeps, and the packets that it let out: to its peer, and telling portfolios
pub record History : Type 0 where
  pub facts : List Fact
  pub saved : ℕ
  pub kept : List KeptPart
  pub sent : List Packet
  pub told : List Packet

pub record Histories : Type 0 where
  pub initiating : History
  pub matching : History

abbrev pub no_history : History
no_history = record { facts = []; saved = 0; kept = []; sent = []; told = [] }

abbrev pub no_histories : Histories
no_histories = record { initiating = no_history; matching = no_history }

abbrev pub history_of : Side → Histories → History
history_of I both = both.initiating
history_of M both = both.matching

abbrev pub with_history : Side → History → Histories → Histories
with_history I history both = record { initiating = history; matching = both.matching }
with_history M history both = record { initiating = both.initiating; matching = history }

-- the part that a message is of the peer's order or response, and the cycle that it is of
abbrev pub part_in : Result Message MessageFault → Option KeptPart
part_in (Ok (Delord message)) = Some (record { id = cycle_of message.day message.cycle; part = part_of_order message })
part_in (Ok (Delres message)) = Some (record { id = cycle_of message.day message.cycle; part = part_of_response message })
part_in read = None

abbrev pub part_named_by : Call → Option KeptPart
part_named_by (calls.Deliver body) = part_in (decoded body)
part_named_by call = None

-- the processed table of a message; where it is one of several parts, that which its rows make with those of all parts that are kept of its cycle
abbrev pub peer_by : List KeptPart → KeptPart → TableContents
peer_by kept one = if is_whole one.part then one.part.processed else table_of one.part (all_processed one.part (parts_of one.id kept))

-- the fact that a call names, with what is kept: a nomination is that of its bytes, and a meeting is of the message's
-- cycle, with that processed table
abbrev pub nomination_in : Result Message MessageFault → Option Fact
nomination_in (Ok (Nomint document)) = Some (Nominated document)
nomination_in read = None

abbrev pub meeting_in : List KeptPart → Result Message MessageFault → Option Fact
meeting_in kept read = option_map (λ one. Met one.id (peer_by kept one)) (part_in read)

abbrev pub fact_named_by : List KeptPart → Call → Option Fact
fact_named_by kept (calls.Contract contract) = Some (Contracted contract)
fact_named_by kept (calls.Notice notice) = Some (Noticed notice)
fact_named_by kept (calls.Submit body) = nomination_in (decoded body)
fact_named_by kept (calls.Close id rule) = Some (Closed id rule)
fact_named_by kept (calls.Deliver body) = meeting_in kept (decoded body)
fact_named_by kept (calls.Resend id) = None
fact_named_by kept (calls.MarkSaved n fact) = None
fact_named_by kept calls.Halt = None

-- `Recorded` appends the fact that the call names, `Kept` keeps the part that it is, each once, until its cycle meets, and `Saved` saves one more
abbrev pub with_fact : List Fact → Option Fact → List Fact
with_fact facts None = facts
with_fact facts (Some fact) = facts ++ fact ∷ []

abbrev pub facts_with : List Fact → List KeptPart → Call → Answer → List Fact
facts_with facts kept call (Recorded n) = with_fact facts (fact_named_by kept call)
facts_with facts kept call answer = facts

abbrev pub with_part : List KeptPart → Option KeptPart → List KeptPart
with_part kept None = kept
with_part kept (Some one) = with_kept one.id one.part kept

abbrev pub without_fact : List KeptPart → Option Fact → List KeptPart
without_fact kept None = kept
without_fact kept (Some fact) = kept_after fact kept

abbrev pub kept_with : List KeptPart → Call → Answer → List KeptPart
kept_with kept call (Recorded n) = without_fact kept (fact_named_by kept call)
kept_with kept call (Kept have parts) = with_part kept (part_named_by call)
kept_with kept call answer = kept

abbrev pub saved_with : ℕ → Answer → ℕ
saved_with saved (Saved n) = saved + 1
saved_with saved answer = saved

-- a history with what a call and its answer add
unfoldable pub with_reply : History → Call → Reply → History
with_reply history call r = record {
  facts = facts_with history.facts history.kept call r.answer;
  saved = saved_with history.saved r.answer;
  kept = kept_with history.kept call r.answer;
  sent = sent_with history.sent r;
  told = told_with history.told r;
}

-- after a restart that keeps the first facts, which are then saved, and no part; its answer tells how many facts
abbrev pub after_keeping : History → ℕ → History
after_keeping history keep = record { facts = take keep history.facts; saved = keep; kept = []; sent = history.sent; told = history.told }

abbrev pub after_replied : Side → Histories → Call → WorldReply → Histories
after_replied side both call (Desk r) = with_history side (with_reply (history_of side both) call r) both
after_replied side both call (Restarted saved) = both

abbrev pub after_packet : Side → Histories → Option Packet → WorldReply → Histories
after_packet side both None got = both
after_packet side both (Some packet) got = after_replied side both (calls.Deliver packet.body) got

abbrev pub after_restarted : Side → Histories → WorldReply → Histories
after_restarted side both (Desk r) = both
after_restarted side both (Restarted saved) = with_history side (after_keeping (history_of side both) saved) both

-- after a step and what came of it; a refused one changes nothing
abbrev pub unless_refused : Histories → (WorldReply → Histories) → Result WorldReply WorldFault → Histories
unless_refused both next (Ok got) = next got
unless_refused both next (Err fault) = both

unfoldable pub after_step : Histories → Step → Result WorldReply WorldFault → Histories
after_step both (Local side call) outcome = unless_refused both (after_replied side both call) outcome
after_step both (Deliver side n) outcome = unless_refused both (after_packet side both (packet_at (history_of (other side) both).sent n)) outcome
after_step both (Restart side keep) outcome = unless_refused both (after_restarted side both) outcome

-- after steps and what came of each
abbrev pub after_steps : Histories → List Step → List (Result WorldReply WorldFault) → Histories
after_steps both [] outcomes = both
after_steps both (step ∷ steps) [] = both
after_steps both (step ∷ steps) (outcome ∷ outcomes) = after_steps (after_step both step outcome) steps outcomes

-- what the desks of a world hold of it
abbrev pub held_by : StationState → History
held_by station = record { facts = station.desk.facts; saved = station.desk.saved; kept = station.desk.kept; sent = station.sent; told = station.told }

abbrev pub held : WorldState → Histories
held w = record { initiating = held_by w.initiating; matching = held_by w.matching }
