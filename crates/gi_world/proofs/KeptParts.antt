-- What each side keeps is of what the other one sent, and stays so, whatever step is made.
use Rattle.std.proofs.Common.{◌≡◌, ◌≤◌, ◌++◌, ℕ, List, [], ◌∷◌, length, All, Bool, true, false, not, cond, nat_lt, ltb-false, Option, Some, None, Ok, Err, arith, refl, sym, subst}
use Rattle.std.proofs.lemmas.List.Elements.{All-filter, All-nil, All-push, All-weaker}
use Rattle.gi_pairs.specs.Table.{TableContents}
use Rattle.gi_pairs.specs.declared.cycle_id.CycleId.{CycleId}
use Rattle.gi_pairs.specs.declared.side.Side.{Side}
use Rattle.gi_pairs.specs.declared.side.Side.TheVariants.{I, M}
use Rattle.gi_cycles.specs.States.{matched_of}
use Rattle.gi_parts.specs.Parts.{AreKept, is_of, is_there, parts_of}
use Rattle.gi_parts.specs.Splitting.{IsPartOf}
use Rattle.gi_parts.specs.declared.kept_parts.KeptPart.{KeptPart}
use Rattle.gi_parts.specs.declared.part.Part.{Part}
use Rattle.gi_parts.specs.declared.part.Whole.{Whole}
use Rattle.gi_parts.proofs.Keeping.{kept-none, kept-with, kept-without}
use Rattle.gi_desk.specs.Caches.{CanFollow}
use Rattle.gi_desk.specs.Machine.{DeskState, after as desk_after, kept_after, next_of, outcome as desk_outcome}
use Rattle.gi_desk.specs.Messages.{order_of, response_of}
use Rattle.gi_desk.specs.Writable.{FitsDesk}
use Rattle.gi_desk.specs.declared.call.Call.{Call}
use Rattle.gi_desk.specs.declared.call.Call.TheVariants as calls
use Rattle.gi_desk.specs.declared.outcome.Outcome.{Outcome}
use Rattle.gi_desk.specs.declared.outcome.Outcome.TheVariants.{Records, RepeatsNomination, RepeatsMeeting, RepeatsPart, Keeps, Saves, Resends, Stops, Refuses}
use Rattle.gi_desk.specs.declared.packet.Packet.{Packet}
use Rattle.gi_desk.proofs.Outcomes.{can_follow}
use Rattle.gi_facts.specs.declared.fact.Fact.{Fact}
use Rattle.gi_facts.specs.declared.fact.Fact.TheVariants.{Contracted, Noticed, Nominated, Closed, Met}
use Rattle.gi_world.specs.Agreement.{FitsWorld, IsOfOrder, IsOfResponse, IsOfSent, IsOrdered, IsResponded, IsSound, saved_facts}
use Rattle.gi_world.specs.Histories.{part_named_by}
use Rattle.gi_world.specs.World.{StationState, WorldState, after, after_call, after_delivery, after_if, after_restart, delivery, is_delivery, other, station_of, with_station}
use Rattle.gi_world.specs.declared.step.Step.{Step}
use Rattle.gi_world.specs.declared.step.Step.TheVariants.{Local, Deliver, Restart}
use Rattle.gi_world.specs.declared.world_fault.WorldFault.TheVariants.{KeepsTooFew, KeepsTooMany}
use Rattle.gi_world.specs.declared.world_reply.WorldReply.TheVariants.{Restarted}
use Rattle.gi_world.proofs.Agreeing.{DeliversOrders, DeliversResponses}
use Rattle.gi_world.proofs.Fronts.{IsFront, front-closed, front-met}
use Rattle.gi_world.proofs.Meetings.{call_moved, frozen_stays, restart_moved}
use Rattle.gi_world.proofs.Recorded.{records-named}
use Rattle.gi_world.proofs.StationLemmas.{after-keeps}
use Rattle.gi_world.proofs.Taking.{Takes, order-taken, order_carried, order_whole, response-taken, response_carried, response_whole}

-- ---- of each cycle a part is missing

kept_fact : (fact : Fact) (kept : List KeptPart) → AreKept kept → AreKept (kept_after fact kept)
kept_fact (Contracted contract) kept are = are
kept_fact (Noticed notice) kept are = are
kept_fact (Nominated document) kept are = are
kept_fact (Closed id rule) kept are = are
kept_fact (Met id peer) kept are = kept-without id kept are

kept_next : (side : Side) (s : DeskState) (o : Outcome) → CanFollow side s o → AreKept s.kept → AreKept (next_of s o).kept
kept_next side s (Records fact) can are = kept_fact fact s.kept are
kept_next side s (RepeatsNomination n) can are = are
kept_next side s (RepeatsMeeting n) can are = are
kept_next side s (RepeatsPart n) can are = are
kept_next side s (Keeps id part) can are = kept-with id part s.kept are can
kept_next side s (Saves n) can are = are
kept_next side s (Resends id) can are = are
kept_next side s Stops can are = are
kept_next side s (Refuses refusal) can are = are

abbrev HasFewParts : Side → StationState → Type 0
HasFewParts side station = AreKept station.desk.kept

-- after a call
pub few-after : (side : Side) (s : DeskState) (call : Call) → AreKept s.kept → AreKept (desk_after side s call).kept
unfolding desk_after
few-after side s call are = kept_next side s (desk_outcome side s call) (can_follow side s call) are

few_call : (side : Side) (station : StationState) (call : Call) → HasFewParts side station → HasFewParts side (after_call side station call)
unfolding after_call
few_call side station call are = few-after side station.desk call are

few_restart : (side : Side) (station : StationState) (keep : ℕ) → station.desk.saved ≤ keep → keep ≤ length station.desk.facts → HasFewParts side station → HasFewParts side (after_restart station keep)
unfolding after_restart
few_restart side station keep above within are = kept-none

pub few-sound : (w : WorldState) (step : Step) → IsSound w → (side : Side) → AreKept (station_of side (after w step)).desk.kept
few-sound w step sound = after-keeps HasFewParts few_call few_restart w step sound.few

-- ---- each part is of what the other side sent

-- of a desk that goes on: what is kept besides passes
goes_on : (P : KeptPart → Type 0) (s : DeskState) (o : Outcome) → All P s.kept → ((id : CycleId) (part : Part) → o ≡ Keeps id part → P (record { id = id; part = part })) → All P (next_of s o).kept
goes_on P s (Records fact) all fresh = by_fact fact
  where
    by_fact : (fact : Fact) → All P (kept_after fact s.kept)
    by_fact (Contracted contract) = all
    by_fact (Noticed notice) = all
    by_fact (Nominated document) = all
    by_fact (Closed id rule) = all
    by_fact (Met id peer) = All-filter (λ one. not (is_of id one)) P s.kept all
goes_on P s (RepeatsNomination n) all fresh = all
goes_on P s (RepeatsMeeting n) all fresh = all
goes_on P s (RepeatsPart n) all fresh = all
goes_on P s (Keeps id part) all fresh = by_there (is_there part (parts_of id s.kept))
  where
    one : KeptPart
    one = record { id = id; part = part }

    by_there : (b : Bool) → All P (cond b s.kept (s.kept ++ one ∷ []))
    by_there true = all
    by_there false = All-push P s.kept one all (fresh id part refl)
goes_on P s (Saves n) all fresh = all
goes_on P s (Resends id) all fresh = all
goes_on P s Stops all fresh = all
goes_on P s (Refuses refusal) all fresh = all

pub kept-after : (P : KeptPart → Type 0) (side : Side) (s : DeskState) (call : Call) → All P s.kept
    → ((id : CycleId) (part : Part) → desk_outcome side s call ≡ Keeps id part → P (record { id = id; part = part })) → All P (desk_after side s call).kept
unfolding desk_after
kept-after P side s call all fresh = goes_on P s (desk_outcome side s call) all fresh

-- of the other desk, whose saved facts stay
still_order : (s next : DeskState) (one : KeptPart) → IsFront (saved_facts s) (saved_facts next) → IsOfOrder s one → IsOfOrder next one
still_order s next one front of = record {
  closed = front-closed (saved_facts s) (saved_facts next) one.id front of.closed;
  part = subst (λ (t : TableContents). IsPartOf (order_of (record { id = one.id; own = t })) one.part) (frozen_stays I s next one.id front of.closed) of.part;
}

still_response : (s next : DeskState) (one : KeptPart) → IsFront (saved_facts s) (saved_facts next) → IsOfResponse s one → IsOfResponse next one
still_response s next one front of = record {
  peer = of.peer;
  met = front-met (saved_facts s) (saved_facts next) one.id of.peer front of.met;
  closed = front-closed (saved_facts s) (saved_facts next) one.id front of.closed;
  part = subst (λ (t : TableContents). IsPartOf (response_of (matched_of (record { id = one.id; own = t }) of.peer)) one.part) (frozen_stays M s next one.id front of.closed) of.part;
}

abbrev AreOfSent : WorldState → Type 0
AreOfSent w = (side : Side) → All (IsOfSent side (station_of (other side) w).desk) (station_of side w).desk.kept

with_next : (at : Side) (w : WorldState) (station : StationState) → AreOfSent w → All (IsOfSent at (station_of (other at) w).desk) station.desk.kept
    → IsFront (saved_facts (station_of at w).desk) (saved_facts station.desk) → AreOfSent (with_station at station w)
with_next I w station are own front I = own
with_next I w station are own front M =
    All-weaker (IsOfOrder w.initiating.desk) (IsOfOrder station.desk) (λ one of. still_order w.initiating.desk station.desk one front of) w.matching.desk.kept (are M)
with_next M w station are own front M = own
with_next M w station are own front I =
    All-weaker (IsOfResponse w.matching.desk) (IsOfResponse station.desk) (λ one of. still_response w.matching.desk station.desk one front of) w.initiating.desk.kept (are I)

called : (at : Side) (w : WorldState) (call : Call) → AreOfSent w → (station_of at w).desk.saved ≤ length (station_of at w).desk.facts
    → ((id : CycleId) (part : Part) → desk_outcome at (station_of at w).desk call ≡ Keeps id part → IsOfSent at (station_of (other at) w).desk (record { id = id; part = part }))
    → AreOfSent (with_station at (after_call at (station_of at w) call) w)
unfolding after_call
called at w call are within fresh =
    let s = (station_of at w).desk in
    with_next at w (after_call at (station_of at w) call) are (kept-after (IsOfSent at (station_of (other at) w).desk) at s call (are at) fresh) (call_moved at s call within).front

-- a call that is no delivery keeps no part
names_none : (call : Call) (one : KeptPart) → is_delivery call ≡ false → part_named_by call ≡ Some one → ⊥
names_none (calls.Contract contract) one local e = absurd cc
names_none (calls.Notice notice) one local e = absurd cc
names_none (calls.Submit body) one local e = absurd cc
names_none (calls.Close id rule) one local e = absurd cc
names_none (calls.Deliver body) one local e = absurd cc
names_none (calls.Resend id) one local e = absurd cc
names_none (calls.MarkSaved n fact) one local e = absurd cc
names_none calls.Halt one local e = absurd cc

pub keeps_none : (side : Side) (s : DeskState) (call : Call) (id : CycleId) (part : Part) → is_delivery call ≡ false → desk_outcome side s call ≡ Keeps id part → ⊥
keeps_none side s call id part local is = names_none call (record { id = id; part = part }) local ((records-named side s call).2 id part is)

local_kept : (at : Side) (w : WorldState) (call : Call) (b : Bool) → is_delivery call ≡ b → AreOfSent w → (station_of at w).desk.saved ≤ length (station_of at w).desk.facts
    → AreOfSent (cond b w (with_station at (after_call at (station_of at w) call) w))
local_kept at w call true e are within = are
local_kept at w call false e are within =
    called at w call are within (λ id part is. absurd (keeps_none at (station_of at w).desk call id part e is))

delivery_kept : (at : Side) (w : WorldState) (o : Option Packet) → AreOfSent w → (station_of at w).desk.saved ≤ length (station_of at w).desk.facts
    → ((packet : Packet) → o ≡ Some packet → (id : CycleId) (part : Part) → desk_outcome at (station_of at w).desk (calls.Deliver packet.body) ≡ Keeps id part
    → IsOfSent at (station_of (other at) w).desk (record { id = id; part = part })) → AreOfSent (after_delivery w at o)
delivery_kept at w None are within fresh = are
delivery_kept at w (Some packet) are within fresh = called at w (calls.Deliver packet.body) are within (fresh packet refl)

-- a part that is kept is the one that was delivered
kept_is : (P : KeptPart → Type 0) (id : CycleId) (whole : Whole) (part : Part) (o : Outcome) (other : CycleId) (one : Part) → Takes id whole part o → o ≡ Keeps other one → P (record { id = id; part = part })
    → P (record { id = other; part = one })
kept_is P id whole part o other one takes is holds =
    let same = subst (Takes id whole part) is takes in subst P (λ t. record { id = sym same.0 t; part = sym same.1 t }) holds

pub order_kept : (w : WorldState) (s : DeskState) (packet : Packet) → let theirs = w.initiating.desk in FitsDesk I theirs.point theirs.facts → AreKept s.kept → All (IsOfOrder theirs) s.kept
    → IsOrdered w packet → (id : CycleId) (part : Part) → desk_outcome M s (calls.Deliver packet.body) ≡ Keeps id part → IsOfOrder theirs (record { id = id; part = part })
order_kept w s packet fits few all it id part is =
    kept_is (IsOfOrder w.initiating.desk) it.id (order_whole w packet it) (order_carried w packet it) (desk_outcome M s (calls.Deliver packet.body)) id part
    (order-taken w s packet fits few all it) is (record { closed = it.closed; part = record { number = it.within; is = refl } })

pub response_kept : (w : WorldState) (s : DeskState) (packet : Packet) → let theirs = w.matching.desk in FitsDesk M theirs.point theirs.facts → AreKept s.kept → All (IsOfResponse theirs) s.kept
    → IsResponded w packet → (id : CycleId) (part : Part) → desk_outcome I s (calls.Deliver packet.body) ≡ Keeps id part → IsOfResponse theirs (record { id = id; part = part })
response_kept w s packet fits few all it id part is =
    kept_is (IsOfResponse w.matching.desk) it.id (response_whole w packet it) (response_carried w packet it) (desk_outcome I s (calls.Deliver packet.body)) id part
    (response-taken w s packet fits few all it) is (record { peer = it.peer; met = it.met; closed = it.closed; part = record { number = it.within; is = refl } })

restart_kept : (at : Side) (w : WorldState) (keep saved len : ℕ) (few many : Bool) → nat_lt keep (station_of at w).desk.saved ≡ few → AreOfSent w
    → AreOfSent (after_if w (with_station at (after_restart (station_of at w) keep) w) (cond few (Err (KeepsTooFew saved)) (cond many (Err (KeepsTooMany len)) (Ok (Restarted keep)))))
unfolding after_restart
restart_kept at w keep saved len true many e are = are
restart_kept at w keep saved len false true e are = are
restart_kept at w keep saved len false false e are =
    let s = (station_of at w).desk in
    let above : s.saved ≤ keep = let not_below = ltb-false keep s.saved e in omega (arith, not_below) in
    with_next at w (after_restart (station_of at w) keep) are (All-nil (IsOfSent at (station_of (other at) w).desk)) (restart_moved s keep above).front

pub kept-sound : DeliversOrders → DeliversResponses → (w : WorldState) (step : Step) → IsSound w → FitsWorld w
    → (side : Side) → All (IsOfSent side (station_of (other side) (after w step)).desk) (station_of side (after w step)).desk.kept
unfolding after
kept-sound orders responses w (Local side call) sound fits = local_kept side w call (is_delivery call) refl sound.kept (sound.legal side).within
kept-sound orders responses w (Deliver I n) sound fits =
    delivery_kept I w (delivery w I n) sound.kept (sound.legal I).within (λ packet there. response_kept w w.initiating.desk packet (fits M) (sound.few I) (sound.kept I) (responses w n packet sound fits there))
kept-sound orders responses w (Deliver M n) sound fits =
    delivery_kept M w (delivery w M n) sound.kept (sound.legal M).within (λ packet there. order_kept w w.matching.desk packet (fits I) (sound.few M) (sound.kept M) (orders w n packet sound fits there))
kept-sound orders responses w (Restart side keep) sound fits =
    let s = (station_of side w).desk in restart_kept side w keep s.saved (length s.facts) (nat_lt keep s.saved) (nat_lt (length s.facts) keep) refl sound.kept
