-- What no step takes back: a refused one changes nothing, and what is let out stays.
use Rattle.std.proofs.Common.{◌≡◌, ◌≤◌, ℕ, inl, inr, List, [], ◌++◌, length, Bool, true, false, cond, nat_lt, filter, Option, Some, None, Result, Ok, Err, append-nil, append_assoc, arith, refl, sym, ap, subst, ◌∙◌}
use Rattle.std.specs.Result.{OnErr}
use Rattle.std.proofs.lemmas.List.{length-take}
use Rattle.gi_pairs.specs.Table.{TableContents}
use Rattle.gi_pairs.specs.declared.cycle_id.CycleId.{CycleId}
use Rattle.gi_pairs.specs.declared.side.Side.{Side}
use Rattle.gi_lesser.specs.Laws.{LessensBothWays}
use Rattle.gi_desk.specs.Machine.{is_for_peer, reply}
use Rattle.gi_desk.specs.Queries.{confirmed}
use Rattle.gi_desk.specs.declared.call.Call.{Call}
use Rattle.gi_desk.specs.declared.packet.Packet.{Packet}
use Rattle.gi_desk.proofs.Legality.{legal-front}
use Rattle.gi_desk.proofs.StepFacts.{confirms-for-good, confirms-through-restarts, stays-legal}
use Rattle.gi_world.specs.Agreement.{Agrees, FitsWorld, IsLegal, IsSound}
use Rattle.gi_world.specs.Keeping.{IsLonger, KeepsConfirmed, OnlyAppends}
use Rattle.gi_world.specs.World.{IsStep, StationState, WorldState, after, after_call, after_delivery, after_if, after_restart, delivered, delivery, is_delivery, may_want, outcome, restarted, station_of, tells, with_station}
use Rattle.gi_world.specs.declared.step.Step.{Step}
use Rattle.gi_world.specs.declared.step.Step.TheVariants.{Local, Deliver, Restart}
use Rattle.gi_world.specs.declared.world_fault.WorldFault.{WorldFault}
use Rattle.gi_world.specs.declared.world_fault.WorldFault.TheVariants.{NotLocal, NoSuchPacket, KeepsTooFew, KeepsTooMany, OutOfMemory}
use Rattle.gi_world.specs.declared.world_reply.WorldReply.{WorldReply}
use Rattle.gi_world.specs.declared.world_reply.WorldReply.TheVariants.{Desk, Restarted}
use Rattle.gi_world.proofs.Agreeing.{step-agrees}
use Rattle.gi_world.proofs.DeliveredPackets.{delivered-order, delivered-response}
use Rattle.gi_world.proofs.Soundness.{step-sound}
use Rattle.gi_world.proofs.StationLemmas.{after-keeps}

-- ---- a refused step

local_refused : (b : Bool) (old new : WorldState) (got : WorldReply) → OnErr (cond b (Err NotLocal) (Ok got)) (cond b old new ≡ old)
local_refused true old new got = refl
local_refused false old new got = tt

delivery_refused : (w : WorldState) (side : Side) (packet : Option Packet) → OnErr (delivered side (station_of side w) packet) (after_delivery w side packet ≡ w)
delivery_refused w side None = refl
delivery_refused w side (Some packet) = tt

if_refused : (old new : WorldState) (r : Result WorldReply WorldFault) → OnErr r (after_if old new r ≡ old)
if_refused old new (Ok got) = tt
if_refused old new (Err fault) = refl

pub refused : (w : WorldState) (step : Step) → OnErr (outcome w step) (after w step ≡ w)
unfolding outcome after
refused w (Local side call) = local_refused (is_delivery call) w (with_station side (after_call side (station_of side w) call) w) (Desk (reply side (station_of side w).desk call))
refused w (Deliver side n) = delivery_refused w side (delivery w side n)
refused w (Restart side keep) = if_refused w (with_station side (after_restart (station_of side w) keep) w) (restarted (station_of side w).desk keep)

refused_as : (P : Type 0) (r : Result WorldReply WorldFault) (want : Result WorldReply WorldFault) → r ≡ want → OnErr want P → OnErr r P
refused_as P r want is p = subst (λ (x : Result WorldReply WorldFault). OnErr x P) (sym is) p

kept_on : (old new next : WorldState) (r : Result WorldReply WorldFault) → new ≡ next → OnErr r (next ≡ old) → OnErr r (new ≡ old)
kept_on old new next (Ok got) is p = tt
kept_on old new next (Err fault) is p = is ∙ p

fails_on : (old new : WorldState) (r : Result WorldReply WorldFault) → new ≡ old → OnErr r (new ≡ old)
fails_on old new (Ok got) is = tt
fails_on old new (Err fault) is = is

pub step-refused : (old : WorldState) (step : Step) (r : Result WorldReply WorldFault) (new : WorldState) → IsStep old step r new → OnErr r (new ≡ old)
step-refused old step r new is =
    elim is [
      | inl e ↦ kept_on old new (after old step) r e.1 (refused_as (after old step ≡ old) r (outcome old step) e.0 (refused old step))
      | inr e ↦ fails_on old new r e.1
    ]

-- whatever holds of the world that follows, and of the one before, holds of that which a step leaves
either : (P : WorldState → Type 0) (old : WorldState) (step : Step) (r : Result WorldReply WorldFault) (new : WorldState) → IsStep old step r new → P (after old step) → P old → P new
either P old step r new is next same = elim is [ inl e ↦ subst P (sym e.1) next | inr e ↦ subst P (sym e.1) same ]

-- ---- what is let out

longer_by : (old new added : List Packet) → IsLonger old new → IsLonger old (new ++ added)
longer_by old new added longer = (longer.0 ++ added, ap (λ (packets : List Packet). packets ++ added) longer.1 ∙ append_assoc old longer.0 added)

same_packets : (packets : List Packet) → IsLonger packets packets
same_packets packets = ([], sym (append-nil packets))

-- the packets of both lists of a side, in a world
abbrev Appends : WorldState → Side → StationState → Type 0
Appends w side station = IsLonger (station_of side w).sent station.sent × IsLonger (station_of side w).told station.told

appends_none : (w : WorldState) (side : Side) → Appends w side (station_of side w)
appends_none w side = (same_packets (station_of side w).sent, same_packets (station_of side w).told)

call_appends : (w : WorldState) (side : Side) (station : StationState) (call : Call) → Appends w side station → Appends w side (after_call side station call)
unfolding after_call
call_appends w side station call appends =
    let out = (reply side station.desk call).out in
    (longer_by (station_of side w).sent station.sent (filter is_for_peer out) appends.0, longer_by (station_of side w).told station.told (filter tells out) appends.1)

restart_appends : (w : WorldState) (side : Side) (station : StationState) (keep : ℕ) → station.desk.saved ≤ keep → keep ≤ length station.desk.facts → Appends w side station
    → Appends w side (after_restart station keep)
unfolding after_restart
restart_appends w side station keep above within appends = appends

pub step-appends : (old : WorldState) (step : Step) (r : Result WorldReply WorldFault) (new : WorldState) → IsStep old step r new → OnlyAppends old new
step-appends old step r new is =
    either (OnlyAppends old) old step r new is (after-keeps (Appends old) (call_appends old) (restart_appends old) old step (appends_none old)) (appends_none old)

-- ---- what is confirmed

-- a side's legal facts, by which it confirms what it did in a world
record Confirms (w : WorldState) (side : Side) (station : StationState) : Type 0 where
  legal : IsLegal side station.desk
  confirms : (id : CycleId) (table : TableContents) → confirmed side (station_of side w).desk id ≡ Some table → confirmed side station.desk id ≡ Some table

confirms_same : (w : WorldState) → IsSound w → (side : Side) → Confirms w side (station_of side w)
confirms_same w sound side = record { legal = sound.legal side; confirms = λ id table e. e }

call_confirms : (w : WorldState) (side : Side) (station : StationState) (call : Call) → Confirms w side station → Confirms w side (after_call side station call)
unfolding after_call
call_confirms w side station call is =
    let s = station.desk in
    let stays = stays-legal side s call in
    record {
      legal = record { legal = stays.0 is.legal.legal; within = stays.1 is.legal.within };
      confirms = λ id table e. confirms-for-good side s call id table is.legal.legal is.legal.within (is.confirms id table e);
    }

restart_confirms : (w : WorldState) (side : Side) (station : StationState) (keep : ℕ) → station.desk.saved ≤ keep → keep ≤ length station.desk.facts → Confirms w side station
    → Confirms w side (after_restart station keep)
unfolding after_restart
restart_confirms w side station keep above within is =
    let s = station.desk in
    record {
      legal = record { legal = legal-front side s.point s.facts keep is.legal.legal; within = grind (length-take, arith, within) };
      confirms = λ id table e. confirms-through-restarts side s keep id table is.legal.legal above (is.confirms id table e);
    }

pub step-confirms : (old : WorldState) (step : Step) (r : Result WorldReply WorldFault) (new : WorldState) → IsSound old → IsStep old step r new → KeepsConfirmed old new
step-confirms old step r new sound is =
    either (KeepsConfirmed old) old step r new is (λ side. (after-keeps (Confirms old) (call_confirms old) (restart_confirms old) old step (confirms_same old sound) side).confirms)
    (λ side id table e. e)

-- ---- what two desks agree on

pub step-keeps-sound : (old : WorldState) (step : Step) (r : Result WorldReply WorldFault) (new : WorldState) → IsSound old → FitsWorld old → IsStep old step r new → IsSound new
step-keeps-sound old step r new sound fits is = either IsSound old step r new is (step-sound old step sound fits) sound

-- want of memory tells of no packet
short_agrees : (step : Step) → Agrees step (Err OutOfMemory)
short_agrees (Local side call) = tt
short_agrees (Deliver side n) = tt
short_agrees (Restart side keep) = tt

pub step-agrees-as : LessensBothWays → (old : WorldState) (step : Step) (r : Result WorldReply WorldFault) (new : WorldState) → IsSound old → FitsWorld old → IsStep old step r new
    → Agrees step r
step-agrees-as both_ways old step r new sound fits is =
    elim is [
      | inl e ↦ subst (Agrees step) (sym e.0) (step-agrees both_ways delivered-order delivered-response old step sound fits)
      | inr e ↦ subst (Agrees step) (sym e.0) (short_agrees step)
    ]

-- ---- want of memory

abbrev is_short : Result WorldReply WorldFault → Bool
is_short (Ok got) = false
is_short (Err NotLocal) = false
is_short (Err NoSuchPacket) = false
is_short (Err (KeepsTooFew saved)) = false
is_short (Err (KeepsTooMany len)) = false
is_short (Err OutOfMemory) = true

local_long : (b : Bool) (got : WorldReply) → is_short (cond b (Err NotLocal) (Ok got)) ≡ false
local_long true got = refl
local_long false got = refl

delivery_long : (w : WorldState) (side : Side) (packet : Option Packet) → is_short (delivered side (station_of side w) packet) ≡ false
delivery_long w side None = refl
delivery_long w side (Some packet) = refl

restart_long : (few many : Bool) (keep saved len : ℕ) → is_short (cond few (Err (KeepsTooFew saved)) (cond many (Err (KeepsTooMany len)) (Ok (Restarted keep)))) ≡ false
restart_long true many keep saved len = refl
restart_long false true keep saved len = refl
restart_long false false keep saved len = refl

-- no outcome by itself is want of memory
long : (w : WorldState) (step : Step) → is_short (outcome w step) ≡ false
unfolding outcome
long w (Local side call) = local_long (is_delivery call) (Desk (reply side (station_of side w).desk call))
long w (Deliver side n) = delivery_long w side (delivery w side n)
long w (Restart side keep) = let s = (station_of side w).desk in restart_long (nat_lt keep s.saved) (nat_lt (length s.facts) keep) keep s.saved (length s.facts)

pub step-short : (old : WorldState) (step : Step) (r : Result WorldReply WorldFault) (new : WorldState) → IsStep old step r new → r ≡ Err OutOfMemory → may_want old step ≡ true
step-short old step r new is short =
    elim is [
      | inl e ↦ let never : true ≡ false = ap is_short (sym short ∙ e.0) ∙ long old step in absurd cc
      | inr e ↦ e.2
    ]
