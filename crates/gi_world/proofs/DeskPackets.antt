-- What a desk writes to its peer tells nothing, for it reads as an order or as a response; what it writes to a portfolio acknowledges or confirms.
use Rattle.std.proofs.Common.{◌≡◌, [], All, Contains, true, false, Ok, refl, sym, ap, ◌∙◌}
use Rattle.std.proofs.lemmas.List.Elements.{All-contains_itself, All-weaker}
use Rattle.json.specs.Print.{escape_byte}
use Rattle.gi_pairs.specs.declared.side.Side.{Side}
use Rattle.gi_pairs.specs.declared.side.Side.TheVariants.{I, M}
use Rattle.gi_pairs.proofs.Building.{in_from_contains}
use Rattle.gi_messages.specs.Writing.{acknow_data, nomres_data, text_of}
use Rattle.gi_messages.specs.declared.message.Message.{Message}
use Rattle.gi_messages.specs.declared.message.Message.TheVariants as messages
use Rattle.gi_desk.specs.Machine.{DeskState, after as desk_after, is_for_peer, next_of, out_of, outcome as desk_outcome, reply}
use Rattle.gi_desk.specs.Writable.{FitsDesk}
use Rattle.gi_desk.specs.declared.call.Call.{Call}
use Rattle.gi_desk.specs.declared.outcome.Outcome.{Outcome}
use Rattle.gi_desk.specs.declared.outcome.Outcome.TheVariants.{Records, RepeatsNomination, RepeatsMeeting, RepeatsPart, Keeps, Saves, Resends, Stops, Refuses}
use Rattle.gi_desk.specs.declared.packet.Packet.{Packet}
use Rattle.gi_desk.proofs.StepFacts.{stays-legal}
use Rattle.gi_world.specs.Agreement.{IsLegal}
use Rattle.gi_world.specs.World.{IsForPortfolio, IsFromDesk, IsTextForPortfolio, StationState, TellsNoPeer, WorldState, begins_with_cycle, is_telling, tells}
use Rattle.gi_world.proofs.DeliveredPackets.{sent-order, sent-response}
use Rattle.gi_world.proofs.SentPackets.{now}
use Rattle.gi_world.proofs.ToldPackets.{text-for_portfolio}

-- a call that records a fact lets out nothing, and any other leaves the facts as they are
fits_by : (side : Side) (s : DeskState) (o : Outcome) (packet : Packet) → Contains (out_of side s o) packet → FitsDesk side s.point s.facts
    → FitsDesk side (next_of s o).point (next_of s o).facts
fits_by side s (Records fact) packet there fits = absurd (in_from_contains packet [] there)
fits_by side s (RepeatsNomination n) packet there fits = fits
fits_by side s (RepeatsMeeting n) packet there fits = fits
fits_by side s (RepeatsPart n) packet there fits = fits
fits_by side s (Keeps id part) packet there fits = fits
fits_by side s (Saves n) packet there fits = fits
fits_by side s (Resends id) packet there fits = fits
fits_by side s Stops packet there fits = fits
fits_by side s (Refuses refusal) packet there fits = fits

fits_after : (side : Side) (s : DeskState) (call : Call) (packet : Packet) → Contains (reply side s call).out packet → FitsDesk side s.point s.facts
    → FitsDesk side (desk_after side s call).point (desk_after side s call).facts
unfolding desk_after reply
fits_after side s call packet there fits = fits_by side s (desk_outcome side s call) packet there fits

legal_after : (side : Side) (s : DeskState) (call : Call) → IsLegal side s → IsLegal side (desk_after side s call)
legal_after side s call legal = let stays = stays-legal side s call in record { legal = stays.0 legal.legal; within = stays.1 legal.within }

-- two stations with the desk that follows, of which the lemmas on orders and responses look at one
both : DeskState → WorldState
both s = let station : StationState = record { desk = s; sent = []; told = [] } in record { initiating = station; matching = station }

silent : (side : Side) (s : DeskState) (call : Call) (packet : Packet) → IsLegal side s → FitsDesk side s.point s.facts → Contains (reply side s call).out packet → TellsNoPeer packet
unfolding both
silent I s call packet legal fits there =
    λ passes. ap is_telling (sent-order (both (desk_after I s call)) packet (legal_after I s call legal) (fits_after I s call packet there fits) (now is_for_peer I s call packet there passes)).reads
silent M s call packet legal fits there =
    λ passes. ap is_telling (sent-response (both (desk_after M s call)) packet (legal_after M s call legal) (fits_after M s call packet there fits) (now is_for_peer M s call packet there passes)).reads

sent_text : (side : Side) (s : DeskState) (call : Call) (packet : Packet) → IsLegal side s → FitsDesk side s.point s.facts → Contains (reply side s call).out packet
    → is_for_peer packet ≡ false → IsTextForPortfolio packet
sent_text side s call packet legal fits there =
    text-for_portfolio (λ p. true) side (desk_after side s call) packet (legal_after side s call legal) (fits_after side s call packet there fits) (now (λ p. true) side s call packet there refl)

pub all_from_desk : (side : Side) (s : DeskState) (call : Call) → IsLegal side s → FitsDesk side s.point s.facts → All IsFromDesk (reply side s call).out
all_from_desk side s call legal fits =
    let out = (reply side s call).out in
    All-weaker (Contains out) IsFromDesk (λ packet there. record {
      tells_no_peer = silent side s call packet legal fits there;
      for_portfolio = sent_text side s call packet legal fits there;
    }) out (All-contains_itself out)

-- an acknowledgement begins with its day, and a confirmation with its cycle
begins : (message : Message) → IsForPortfolio message → begins_with_cycle (text_of message) ≡ is_telling (Ok message)
unfolding text_of acknow_data nomres_data escape_byte
begins (messages.Nomint m) is = absurd is
begins (messages.Acknow m) is = refl
begins (messages.Nomres m) is = refl
begins (messages.Delord m) is = absurd is
begins (messages.Delres m) is = absurd is

pub tells_by_text : (packet : Packet) → is_for_peer packet ≡ false → IsFromDesk packet → begins_with_cycle packet.body ≡ tells packet
tells_by_text packet outwards from =
    let text = from.for_portfolio outwards in ap begins_with_cycle text.written ∙ begins text.message text.for_portfolio ∙ sym (ap is_telling text.reads)
