-- What two desks agree on, however their messages are lost, repeated or late and whenever they start again.
use Rattle.std.specs.Int.{IsInRange}
use Rattle.std.specs.Prelude.{◌≡◌, ◌≤◌, ℕ, List, [], ◌∷◌, take, length, Contains, All, Bool, true, false, is_some, Some, None, Result, Ok, Err}
use Rattle.gi_pairs.specs.Table.{TableContents}
use Rattle.gi_pairs.specs.declared.cycle_id.CycleId.{CycleId}
use Rattle.gi_pairs.specs.declared.side.Side.{Side}
use Rattle.gi_pairs.specs.declared.side.Side.TheVariants.{I, M}
use Rattle.gi_messages.specs.Decoding.{decoded}
use Rattle.gi_messages.specs.declared.message.Message.TheVariants as messages
use Rattle.gi_cycles.specs.States.{matched_of}
use Rattle.gi_parts.specs.Parts.{AreKept}
use Rattle.gi_parts.specs.Splitting.{IsPartOf, parts_of_whole}
use Rattle.gi_parts.specs.declared.kept_parts.KeptPart.{KeptPart}
use Rattle.gi_desk.specs.History.{frozen_cycle, frozen_table, is_closed, peer_of}
use Rattle.gi_desk.specs.LetOut.{let_out}
use Rattle.gi_desk.specs.Machine.{DeskState, bad_fact, is_for_peer}
use Rattle.gi_desk.specs.Messages.{order_of, order_part, response_of, response_part}
use Rattle.gi_desk.specs.Writable.{FitsDesk}
use Rattle.gi_desk.specs.declared.reply.Answer.{Answer}
use Rattle.gi_desk.specs.declared.reply.Answer.TheVariants.{Recorded, Repeat, Kept, Saved, Resent, Stopped, Refused}
use Rattle.gi_facts.specs.declared.fact.Fact.{Fact}
use Rattle.gi_desk.specs.declared.packet.Packet.{Packet}
use Rattle.gi_desk.specs.declared.refusal.Refusal.{Refusal}
use Rattle.gi_desk.specs.declared.refusal.Refusal.TheVariants as refusals
use Rattle.gi_world.specs.World.{WorldState, other, station_of, tells}
use Rattle.gi_world.specs.declared.step.Step.{Step}
use Rattle.gi_world.specs.declared.step.Step.TheVariants.{Local, Deliver, Restart}
use Rattle.gi_world.specs.declared.world_fault.WorldFault.{WorldFault}
use Rattle.gi_world.specs.declared.world_reply.WorldReply.{WorldReply}
use Rattle.gi_world.specs.declared.world_reply.WorldReply.TheVariants.{Desk, Restarted}

-- the facts that are saved
abbrev pub saved_facts : DeskState → List Fact
saved_facts s = take s.saved s.facts

-- a desk each of whose facts it would record after those before it, and of which no more are saved than there are
pub record IsLegal (side : Side) (s : DeskState) : Type 0 where
  pub legal : bad_fact side s.point s.facts ≡ None
  pub within : s.saved ≤ length s.facts

-- a packet of a kind, which a saved fact lets out
pub record IsLetOut (is_so : Packet → Bool) (side : Side) (s : DeskState) (packet : Packet) : Type 0 where
  pub n : ℕ
  pub from : 1 ≤ n
  pub to : n ≤ s.saved
  pub let_out_by : Contains (let_out side s.point s.facts n) packet
  pub passes : is_so packet ≡ true

-- one for the peer, and one that tells
abbrev pub IsSent : Side → DeskState → Packet → Type 0
IsSent = IsLetOut is_for_peer

abbrev pub IsTold : Side → DeskState → Packet → Type 0
IsTold = IsLetOut tells

-- Each table that a side met is the one that the other side froze, whose closing is saved there.
abbrev pub MeetsFrozen : Side → DeskState → DeskState → Type 0
MeetsFrozen side s peer =
    (id : CycleId) (table : TableContents) → peer_of id s.facts ≡ Some table
    → (is_closed id (saved_facts peer) ≡ true) × (table ≡ frozen_table (other side) peer.facts id)

-- What the initiating side met the matching side met before, and saved.
abbrev pub MeetsAfter : DeskState → DeskState → Type 0
MeetsAfter initiating matching =
    (id : CycleId) (table : TableContents) → peer_of id initiating.facts ≡ Some table → is_some (peer_of id (saved_facts matching)) ≡ true

-- What the matching side keeps is a part of the order of a cycle whose closing the initiating side saved; and what the initiating side keeps a part of
-- the response to one whose meeting the matching side saved.
pub record IsOfOrder (initiating : DeskState) (one : KeptPart) : Type 0 where
  pub closed : is_closed one.id (saved_facts initiating) ≡ true
  pub part : IsPartOf (order_of (frozen_cycle I initiating.facts one.id)) one.part

pub record IsOfResponse (matching : DeskState) (one : KeptPart) : Type 0 where
  pub peer : TableContents
  pub met : peer_of one.id (saved_facts matching) ≡ Some peer
  pub closed : is_closed one.id (saved_facts matching) ≡ true
  pub part : IsPartOf (response_of (matched_of (frozen_cycle M matching.facts one.id) peer)) one.part

abbrev pub IsOfSent : Side → DeskState → KeptPart → Type 0
IsOfSent M peer one = IsOfOrder peer one
IsOfSent I peer one = IsOfResponse peer one

-- what holds of every world that steps lead to
pub record IsSound (w : WorldState) : Type 0 where
  pub point : w.matching.desk.point ≡ w.initiating.desk.point
  pub legal : (side : Side) → IsLegal side (station_of side w).desk
  pub sent : (side : Side) → All (IsSent side (station_of side w).desk) (station_of side w).sent
  pub told : (side : Side) → All (IsTold side (station_of side w).desk) (station_of side w).told
  pub met : (side : Side) → MeetsFrozen side (station_of side w).desk (station_of (other side) w).desk
  pub after : MeetsAfter w.initiating.desk w.matching.desk
  pub few : (side : Side) → AreKept (station_of side w).desk.kept
  pub kept : (side : Side) → All (IsOfSent side (station_of (other side) w).desk) (station_of side w).desk.kept

-- both desks can be written
abbrev pub FitsWorld : WorldState → Type 0
FitsWorld w = (side : Side) → FitsDesk side (station_of side w).desk.point (station_of side w).desk.facts

-- a packet that reads as a part of the initiating side's order of a cycle whose closing is saved there
pub record IsOrdered (w : WorldState) (packet : Packet) : Type 0 where
  pub id : CycleId
  pub number : ℕ
  pub closed : is_closed id (saved_facts w.initiating.desk) ≡ true
  pub within : IsInRange 1 (parts_of_whole (order_of (frozen_cycle I w.initiating.desk.facts id))) number
  pub reads : decoded packet.body ≡ Ok (messages.Delord (order_part w.initiating.desk.point (frozen_cycle I w.initiating.desk.facts id) number))

-- one that reads as a part of the matching side's response of a cycle whose meeting is saved there
pub record IsResponded (w : WorldState) (packet : Packet) : Type 0 where
  pub id : CycleId
  pub number : ℕ
  pub peer : TableContents
  pub met : peer_of id (saved_facts w.matching.desk) ≡ Some peer
  pub closed : is_closed id (saved_facts w.matching.desk) ≡ true
  pub within : IsInRange 1 (parts_of_whole (response_of (matched_of (frozen_cycle M w.matching.desk.facts id) peer))) number
  pub reads : decoded packet.body ≡ Ok (messages.Delres (response_part w.matching.desk.point (matched_of (frozen_cycle M w.matching.desk.facts id) peer) number))

-- what a side's packets for its peer carry
abbrev pub Carries : Side → WorldState → Packet → Type 0
Carries I w packet = IsOrdered w packet
Carries M w packet = IsResponded w packet

-- The refusals that would tell of a packet that disagrees with what the other side saved: no delivery is answered any of
-- them. An order may come before the matching side's closing.
abbrev pub disagrees : Side → Refusal → Bool
disagrees side (refusals.Message fault) = true
disagrees side refusals.WrongKind = true
disagrees side refusals.WrongPoint = true
disagrees I refusals.NotClosed = true
disagrees M refusals.NotClosed = false
disagrees side refusals.ShapeDiffers = true
disagrees side (refusals.PartDiffers part) = true
disagrees side refusals.PartsOverlap = true
disagrees side refusals.TooManyRows = true
disagrees side (refusals.NotTheLesser row) = true
disagrees side refusals.Conflict = true
disagrees side refusals.Halted = false
disagrees side refusals.TooManyPortfolios = false
disagrees side (refusals.Calendar fault) = false
disagrees side refusals.NoticeRange = false
disagrees side refusals.PermilleRange = false
disagrees side (refusals.Nomination fault) = false
disagrees side refusals.NoSuchCycle = false
disagrees side refusals.AlreadyClosed = false
disagrees side (refusals.OutOfOrder last) = false
disagrees side (refusals.NotNext expected) = false
disagrees side refusals.OtherFact = false
disagrees side refusals.Full = false
disagrees side refusals.OutOfMemory = false

abbrev pub AgreesAnswer : Side → Answer → Type 0
AgreesAnswer side (Recorded n) = Unit {0}
AgreesAnswer side (Repeat n) = Unit {0}
AgreesAnswer side (Kept have parts) = Unit {0}
AgreesAnswer side (Saved n) = Unit {0}
AgreesAnswer side Resent = Unit {0}
AgreesAnswer side Stopped = Unit {0}
AgreesAnswer side (Refused refusal) = disagrees side refusal ≡ false

abbrev pub AgreesReply : Side → Result WorldReply WorldFault → Type 0
AgreesReply side (Ok (Desk r)) = AgreesAnswer side r.answer
AgreesReply side (Ok (Restarted saved)) = Unit {0}
AgreesReply side (Err fault) = Unit {0}

-- no delivery is answered such a refusal
abbrev pub Agrees : Step → Result WorldReply WorldFault → Type 0
Agrees (Local side call) outcome = Unit {0}
Agrees (Deliver side n) outcome = AgreesReply side outcome
Agrees (Restart side keep) outcome = Unit {0}

-- and none of a run is
abbrev pub AllAgree : List Step → List (Result WorldReply WorldFault) → Type 0
AllAgree [] outcomes = Unit {0}
AllAgree (step ∷ steps) [] = Unit {0}
AllAgree (step ∷ steps) (outcome ∷ outcomes) = Agrees step outcome × AllAgree steps outcomes
