-- Every quantity that either side has confirmed or told is the lower of both frozen ones.
use Rattle.std.proofs.Common.{◌≡◌, All, Some, option_map, sym, ap, ◌∙◌}
use Rattle.std.proofs.lemmas.List.Elements.{All-weaker}
use Rattle.gi_pairs.specs.Table.{TableContents}
use Rattle.gi_pairs.specs.declared.cycle_id.CycleId.{CycleId}
use Rattle.gi_pairs.specs.declared.side.Side.{Side}
use Rattle.gi_pairs.specs.declared.side.Side.TheVariants.{I, M}
use Rattle.gi_lesser.specs.Lesser.{lesser_of}
use Rattle.gi_cycles.specs.States.{matched_of}
use Rattle.gi_desk.specs.History.{frozen_cycle, frozen_table, peer_of}
use Rattle.gi_desk.specs.Machine.{DeskState}
use Rattle.gi_desk.specs.Messages.{told_of}
use Rattle.gi_desk.specs.Queries.{confirmed}
use Rattle.gi_desk.specs.declared.packet.Packet.{Packet}
use Rattle.gi_world.specs.Agreement.{FitsWorld, IsSound, IsTold, saved_facts}
use Rattle.gi_world.specs.Headline.{OneConfirmedQuantity}
use Rattle.gi_world.specs.Histories.{held, history_of}
use Rattle.gi_world.specs.Telling.{TellsTheLower}
use Rattle.gi_world.specs.World.{WorldState, station_of}
use Rattle.gi_world.proofs.ConfirmedLaws.{HaveMetFrozen, sound-met}
use Rattle.gi_world.proofs.HistoryConfirms.{confirmed_at, confirms-by-history, lower_at}
use Rattle.gi_world.proofs.ToldPackets.{IsTelling, lines-are, told-tells}

met_confirms : (side : Side) (s : DeskState) (id : CycleId) (peer : TableContents) → peer_of id (saved_facts s) ≡ Some peer
    → confirmed side s id ≡ Some (lesser_of (frozen_table side s.facts id) peer)
unfolding confirmed
met_confirms side s id peer met = ap (option_map (lesser_of (frozen_table side s.facts id))) met

tells_lower : (w : WorldState) → HaveMetFrozen w → FitsWorld w → (side : Side) (packet : Packet) → IsTelling side (station_of side w).desk packet → TellsTheLower (held w) side packet
tells_lower w have fits side packet is =
    let s = (station_of side w).desk in
    let id = is.id in
    let cycle = matched_of (frozen_cycle side s.facts id) is.peer in
    let has = sym (confirmed_at side w id) ∙ met_confirms side s id is.peer is.met in (
      told_of side s.point cycle is.portfolio,
      is.reads,
      record {
        table = cycle.confirmed;
        confirmed = has;
        lower = lower_at w have fits side id cycle.confirmed has;
        lines = lines-are side s.point cycle is.portfolio is.table;
      },
    )

pub told-lower : (w : WorldState) → HaveMetFrozen w → FitsWorld w → (side : Side) (packet : Packet) → IsTold side (station_of side w).desk packet → TellsTheLower (held w) side packet
told-lower w have fits side packet is = tells_lower w have fits side packet (told-tells side (station_of side w).desk packet (have.legal side) (fits side) is)

pub all-tell : (w : WorldState) → IsSound w → FitsWorld w → (side : Side) → All (TellsTheLower (held w) side) (station_of side w).told
all-tell w sound fits side =
    All-weaker (IsTold side (station_of side w).desk) (TellsTheLower (held w) side) (told-lower w (sound-met w sound) fits side) (station_of side w).told (sound.told side)

pub one-confirmed-quantity : (w : WorldState) → IsSound w → FitsWorld w → OneConfirmedQuantity (held w)
one-confirmed-quantity w sound fits = record { confirmed = confirms-by-history w sound fits; told = told }
  where
    told : (side : Side) → All (TellsTheLower (held w) side) (history_of side (held w)).told
    told I = all-tell w sound fits I
    told M = all-tell w sound fits M
