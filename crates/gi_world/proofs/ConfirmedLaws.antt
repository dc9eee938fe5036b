-- What either side confirms is the lesser of what both froze.
use Rattle.std.proofs.Common.{◌≡◌, ℕ, List, true, min, Option, Some, None, is_some, option_map, refl, ap, ◌∙◌}
use Rattle.std.proofs.Math.Nat.{min_comm}
use Rattle.gi_pairs.specs.Table.{TableContents, reading}
use Rattle.gi_pairs.specs.declared.cycle_id.CycleId.{CycleId}
use Rattle.gi_pairs.specs.declared.direction.Direction.{Direction}
use Rattle.gi_pairs.specs.declared.pair.Pair.{Pair}
use Rattle.gi_pairs.specs.declared.side.Side.{Side}
use Rattle.gi_pairs.specs.declared.side.Side.TheVariants.{I, M}
use Rattle.gi_lesser.specs.Lesser.{lesser_of}
use Rattle.gi_lesser.proofs.LesserLaws.{AreMatched, reading-lesser_of}
use Rattle.gi_desk.specs.History.{frozen_table, is_closed, peer_of}
use Rattle.gi_desk.specs.Machine.{DeskState}
use Rattle.gi_desk.specs.Queries.{confirmed}
use Rattle.gi_desk.specs.Writable.{FitsDesk}
use Rattle.gi_desk.proofs.Confirmed.{met_closed}
use Rattle.gi_world.specs.Agreement.{FitsWorld, IsLegal, IsSound, MeetsFrozen, saved_facts}
use Rattle.gi_world.specs.Confirming.{ConfirmsAtBoth, ConfirmsTheLower, IsLowerOfBoth, frozen_at}
use Rattle.gi_world.specs.World.{WorldState, other, station_of}
use Rattle.gi_world.proofs.Fronts.{front-closed, front-met, saved-front}
use Rattle.gi_world.proofs.FrozenTables.{frozen-fits, same-hours}

-- ---- what is confirmed

mapped_from : (own : TableContents) (met : Option TableContents) (table : TableContents) → option_map (lesser_of own) met ≡ Some table
    → (peer : TableContents) × (met ≡ Some peer) × (table ≡ lesser_of own peer)
mapped_from own None table e = absurd cc
mapped_from own (Some peer) table e = (peer, refl, cc)

-- a saved fact met the peer's table, and the lesser of the frozen one and it is confirmed
confirmed_from : (side : Side) (s : DeskState) (id : CycleId) (table : TableContents) → confirmed side s id ≡ Some table
    → (peer : TableContents) × (peer_of id (saved_facts s) ≡ Some peer) × (table ≡ lesser_of (frozen_table side s.facts id) peer)
unfolding confirmed
confirmed_from side s id table e = mapped_from (frozen_table side s.facts id) (peer_of id (saved_facts s)) table e

mapped_some : (own : TableContents) (met : Option TableContents) → is_some met ≡ true → is_some (option_map (lesser_of own) met) ≡ true
mapped_some own None e = e
mapped_some own (Some peer) e = refl

confirmed_some : (side : Side) (s : DeskState) (id : CycleId) → is_some (peer_of id (saved_facts s)) ≡ true → is_some (confirmed side s id) ≡ true
unfolding confirmed
confirmed_some side s id e = mapped_some (frozen_table side s.facts id) (peer_of id (saved_facts s)) e

-- Both desks hold legal facts, and each met what the other one froze: on this alone rests what they confirm and tell.
pub record HaveMetFrozen (w : WorldState) : Type 0 where
  pub legal : (side : Side) → IsLegal side (station_of side w).desk
  pub met : (side : Side) → MeetsFrozen side (station_of side w).desk (station_of (other side) w).desk

pub sound-met : (w : WorldState) → IsSound w → HaveMetFrozen w
sound-met w sound = record { legal = sound.legal; met = sound.met }

-- ---- both frozen tables

matched_by : (side peer : Side) (point of_peer : List ℕ) (s t : DeskState) (id : CycleId) → FitsDesk side point s.facts → FitsDesk peer of_peer t.facts
    → is_closed id s.facts ≡ true → is_closed id t.facts ≡ true → AreMatched (frozen_table side s.facts id) (frozen_table peer t.facts id)
matched_by side peer point of_peer s t id ours theirs closed their_closed =
    let own = frozen-fits side point s.facts id ours closed in
    let other = frozen-fits peer of_peer t.facts id theirs their_closed in
    record {
      own_table = own.table;
      peer_table = other.table;
      shape = same-hours side peer s.facts t.facts id;
      own_few = own.few;
      peer_few = other.few;
    }

-- at a side: both have closed the cycle, and the lesser of both frozen tables is confirmed
record IsLesserAt (w : WorldState) (side : Side) (id : CycleId) (table : TableContents) : Type 0 where
  here : is_closed id (station_of side w).desk.facts ≡ true
  there : is_closed id (station_of (other side) w).desk.facts ≡ true
  lesser : table ≡ lesser_of (frozen_table side (station_of side w).desk.facts id) (frozen_table (other side) (station_of (other side) w).desk.facts id)

lesser_at : (w : WorldState) (side : Side) (id : CycleId) (table : TableContents) → HaveMetFrozen w → confirmed side (station_of side w).desk id ≡ Some table
    → IsLesserAt w side id table
lesser_at w side id table have e =
    let s = (station_of side w).desk in
    let t = (station_of (other side) w).desk in
    let (peer, saved, is) = confirmed_from side s id table e in
    let met = front-met (saved_facts s) s.facts id peer (saved-front s) saved in
    let frozen = have.met side id peer met in
    record {
      here = met_closed side s.point s.facts id peer (have.legal side).legal met;
      there = front-closed (saved_facts t) t.facts id (saved-front t) frozen.0;
      lesser = is ∙ ap (lesser_of (frozen_table side s.facts id)) frozen.1;
    }

reads_lower : (side peer : Side) (w : WorldState) (id : CycleId) (table : TableContents) → FitsWorld w → is_closed id (station_of side w).desk.facts ≡ true
    → is_closed id (station_of peer w).desk.facts ≡ true
    → table ≡ lesser_of (frozen_table side (station_of side w).desk.facts id) (frozen_table peer (station_of peer w).desk.facts id)
    → (pair : Pair) (direction : Direction) (hour : ℕ) → reading table pair direction hour ≡ min (frozen_at side w id pair direction hour) (frozen_at peer w id pair direction hour)
reads_lower side peer w id table fits closed their_closed is pair direction hour =
    let s = (station_of side w).desk in
    let t = (station_of peer w).desk in
    ap (λ (read : TableContents). reading read pair direction hour) is
    ∙ reading-lesser_of (frozen_table side s.facts id) (frozen_table peer t.facts id) pair direction hour
    (matched_by side peer s.point t.point s t id (fits side) (fits peer) closed their_closed)

lower_at : (w : WorldState) (side : Side) (id : CycleId) (table : TableContents) → FitsWorld w → IsLesserAt w side id table → IsLowerOfBoth w id table
lower_at w I id table fits at = record {
  initiating = at.here;
  matching = at.there;
  reads = reads_lower I M w id table fits at.here at.there at.lesser;
}
lower_at w M id table fits at = record {
  initiating = at.there;
  matching = at.here;
  reads =
      λ pair direction hour.
      reads_lower M I w id table fits at.here at.there at.lesser pair direction hour
      ∙ min_comm (frozen_at M w id pair direction hour) (frozen_at I w id pair direction hour);
}

pub confirms-lower : (w : WorldState) → HaveMetFrozen w → FitsWorld w → ConfirmsTheLower w
confirms-lower w have fits = λ side id table e. lower_at w side id table fits (lesser_at w side id table have e)

pub confirms-at-both : (w : WorldState) → IsSound w → ConfirmsAtBoth w
confirms-at-both w sound =
    λ id table e.
    let (peer, saved, is) = confirmed_from I w.initiating.desk id table e in
    confirmed_some M w.matching.desk id
    (sound.after id peer (front-met (saved_facts w.initiating.desk) w.initiating.desk.facts id peer (saved-front w.initiating.desk) saved))
