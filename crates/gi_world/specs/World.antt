-- Both operators' desks with what each let out, and what a step makes of them.
use Rattle.std.specs.Prelude.{◌≡◌, ◌<◌, ℕ, zero, suc, List, [], ◌++◌, filter, slice_get, slice_index, length, Bool, true, false, not, ◌&&◌, ◌==◌, nat_lt, IsTrue, ◌⊎◌, is_ok, is_some, if◌then◌else◌, Option, Some, None, option_map, Result, Ok, Err}
use Rattle.std.specs.Str.{bytes_eq}
pub use Rattle.gi_pairs.specs.Side.{other}
use Rattle.gi_pairs.specs.declared.side.Side.{Side}
use Rattle.gi_pairs.specs.declared.side.Side.TheVariants.{I, M}
use Rattle.gi_messages.specs.Decoding.{decoded}
use Rattle.gi_messages.specs.declared.message.Message.{Message}
use Rattle.gi_messages.specs.Writing.{text_of}
use Rattle.gi_messages.specs.declared.message.Message.TheVariants.{Nomint, Acknow, Nomres, Delord, Delres}
use Rattle.gi_messages.specs.declared.message_fault.MessageFault.{MessageFault}
use Rattle.gi_desk.specs.Machine.{DeskState, after as desk_after, is_for_peer, may_want as desk_may_want, reply, started_again}
use Rattle.gi_desk.specs.declared.call.Call.{Call}
use Rattle.gi_desk.specs.declared.call.Call.TheVariants as calls
use Rattle.gi_desk.specs.declared.packet.Packet.{Packet}
use Rattle.gi_desk.specs.declared.reply.Reply.{Reply}
use Rattle.gi_world.specs.declared.step.Step.{Step}
use Rattle.gi_world.specs.declared.step.Step.TheVariants.{Local, Deliver, Restart}
use Rattle.gi_world.specs.declared.world_fault.WorldFault.{WorldFault}
use Rattle.gi_world.specs.declared.world_fault.WorldFault.TheVariants.{NotLocal, NoSuchPacket, KeepsTooFew, KeepsTooMany, OutOfMemory}
use Rattle.gi_world.specs.declared.world_reply.WorldReply.{WorldReply}
use Rattle.gi_world.specs.declared.world_reply.WorldReply.TheVariants.{Desk, Restarted}

-- one operator's desk, the packets that it let out to its peer, and those that told its portfolios, in order
pub record StationState : Type 0 where
  pub desk : DeskState
  pub sent : List Packet
  pub told : List Packet

pub record WorldState : Type 0 where
  pub initiating : StationState
  pub matching : StationState

-- a desk without facts, and two of them
abbrev pub new_desk : List ℕ → DeskState
new_desk point = record { point = point; facts = []; saved = 0; halted = false; kept = [] }

abbrev pub new_station : List ℕ → StationState
new_station point = record { desk = new_desk point; sent = []; told = [] }

abbrev pub new_world : List ℕ → WorldState
new_world point = record { initiating = new_station point; matching = new_station point }

-- a side's station, and the world with another one there
abbrev pub station_of : Side → WorldState → StationState
station_of I w = w.initiating
station_of M w = w.matching

abbrev pub with_station : Side → StationState → WorldState → WorldState
with_station I station w = record { initiating = station; matching = w.matching }
with_station M station w = record { initiating = w.initiating; matching = station }

-- whether a packet tells confirmed quantities: its bytes read as a NOMRES
abbrev pub is_telling : Result Message MessageFault → Bool
is_telling (Ok (Nomres message)) = true
is_telling read = false

abbrev pub tells : Packet → Bool
tells packet = is_telling (decoded packet.body)

-- a packet for the peer tells nothing
abbrev pub TellsNoPeer : Packet → Type 0
TellsNoPeer packet = is_for_peer packet ≡ true → tells packet ≡ false

-- an acknowledgement or a confirmation: what a portfolio is sent
abbrev pub IsForPortfolio : Message → Type 0
IsForPortfolio (Nomint message) = ⊥
IsForPortfolio (Acknow message) = Unit {0}
IsForPortfolio (Nomres message) = Unit {0}
IsForPortfolio (Delord message) = ⊥
IsForPortfolio (Delres message) = ⊥

-- the packet is the one text of such a message, and reads as it
pub record IsTextForPortfolio (packet : Packet) : Type 0 where
  pub message : Message
  pub for_portfolio : IsForPortfolio message
  pub written : packet.body ≡ text_of message
  pub reads : decoded packet.body ≡ Ok message

-- what a desk lets out: to its peer what tells nothing, and to a portfolio an acknowledgement or a confirmation
pub record IsFromDesk (packet : Packet) : Type 0 where
  pub tells_no_peer : TellsNoPeer packet
  pub for_portfolio : is_for_peer packet ≡ false → IsTextForPortfolio packet

-- whether the third byte is the first letter of `cycle`: what a text begins with that has its keys in byte order and a cycle
abbrev pub begins_with_cycle : List ℕ → Bool
begins_with_cycle bytes = slice_index bytes 2 == 99

-- whether its bytes are these
abbrev pub has_bytes : List ℕ → Packet → Bool
has_bytes bytes packet = bytes_eq packet.body bytes

-- what a reply lets out comes to the packets let out before
abbrev pub sent_with : List Packet → Reply → List Packet
sent_with sent r = sent ++ filter is_for_peer r.out

abbrev pub told_with : List Packet → Reply → List Packet
told_with told r = told ++ filter tells r.out

-- a station after a call, and after its desk started again from its first facts
unfoldable pub after_call : Side → StationState → Call → StationState
after_call side station call = let r = reply side station.desk call in record {
  desk = desk_after side station.desk call;
  sent = sent_with station.sent r;
  told = told_with station.told r;
}

unfoldable pub after_restart : StationState → ℕ → StationState
after_restart station keep = record {
  desk = started_again station.desk keep;
  sent = station.sent;
  told = station.told;
}

-- the packet of that number, from 1
abbrev pub packet_at : List Packet → ℕ → Option Packet
packet_at sent zero = None
packet_at sent (suc before) = slice_get sent before

-- what is delivered to a side: a packet that the other one let out
abbrev pub delivery : WorldState → Side → ℕ → Option Packet
delivery w side n = packet_at (station_of (other side) w).sent n

-- its bytes
abbrev pub bytes_delivered : WorldState → Side → ℕ → Option (List ℕ)
bytes_delivered w side n = option_map (λ packet. packet.body) (delivery w side n)

-- the least number, from 1, by which these bytes are delivered to a side; none where no number delivers them
abbrev pub IsNumberOf : WorldState → Side → List ℕ → Option ℕ → Type 0
IsNumberOf w side bytes (Some n) = (bytes_delivered w side n ≡ Some bytes) × ((less : ℕ) → less < n → ¬ (bytes_delivered w side less ≡ Some bytes))
IsNumberOf w side bytes None = (n : ℕ) → ¬ (bytes_delivered w side n ≡ Some bytes)

abbrev pub is_delivery : Call → Bool
is_delivery (calls.Deliver body) = true
is_delivery call = false

-- what comes of a call at a side, of a delivery and of a restart
abbrev pub called : Side → StationState → Call → Result WorldReply WorldFault
called side station call = Ok (Desk (reply side station.desk call))

abbrev pub delivered : Side → StationState → Option Packet → Result WorldReply WorldFault
delivered side station None = Err NoSuchPacket
delivered side station (Some packet) = called side station (calls.Deliver packet.body)

abbrev pub restarted : DeskState → ℕ → Result WorldReply WorldFault
restarted s keep =
    if nat_lt keep s.saved then Err (KeepsTooFew s.saved)
    else (if nat_lt (length s.facts) keep then Err (KeepsTooMany (length s.facts)) else Ok (Restarted keep))

unfoldable pub outcome : WorldState → Step → Result WorldReply WorldFault
outcome w (Local side call) = if is_delivery call then Err NotLocal else called side (station_of side w) call
outcome w (Deliver side n) = delivered side (station_of side w) (delivery w side n)
outcome w (Restart side keep) = restarted (station_of side w).desk keep

-- the world that follows a delivery, where there is the packet
abbrev pub after_delivery : WorldState → Side → Option Packet → WorldState
after_delivery w side None = w
after_delivery w side (Some packet) = with_station side (after_call side (station_of side w) (calls.Deliver packet.body)) w

-- the new world where nothing is refused
abbrev pub after_if : {X E : Type 0} → WorldState → WorldState → Result X E → WorldState
after_if old new (Ok x) = new
after_if old new (Err fault) = old

-- the world that follows; a refused step leaves it as it is
unfoldable pub after : WorldState → Step → WorldState
after w (Local side call) = if is_delivery call then w else with_station side (after_call side (station_of side w) call) w
after w (Deliver side n) = after_delivery w side (delivery w side n)
after w (Restart side keep) =
    let station = station_of side w in after_if w (with_station side (after_restart station keep) w) (restarted station.desk keep)

-- A step may want memory where its desk may: no halt, no refused closing and no mark that lets nothing out does, say. A
-- delivery may where there is the packet and the desk is not halted, and a restart where it is not refused and keeps a fact.
unfoldable pub may_want : WorldState → Step → Bool
may_want w (Local side call) = not (is_delivery call) && desk_may_want side (station_of side w).desk call
may_want w (Deliver side n) = is_some (delivery w side n) && not (station_of side w).desk.halted
may_want w (Restart side keep) = is_ok (restarted (station_of side w).desk keep) && nat_lt 0 keep

-- The world gives this outcome and goes on to new. Want of memory leaves all as it was, and comes only for a step that may
-- want memory, so for none that the world refuses for another cause.
abbrev pub IsStep : WorldState → Step → Result WorldReply WorldFault → WorldState → Type 0
IsStep old step r new =
    ((r ≡ outcome old step) × (new ≡ after old step)) ⊎ ((r ≡ Err OutOfMemory) × (new ≡ old) × IsTrue (may_want old step))
