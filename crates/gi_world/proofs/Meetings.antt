-- What each side met is what the other one froze, and stays so, whatever step is made.
use Rattle.std.proofs.Common.{arith, ◌≡◌, ◌≤◌, ◌⊎◌, inl, inr, ⊎_elim, ℕ, List, [], ◌∷◌, ◌++◌, length, take, All, Bool, true, false, cond, nat_lt, ltb-false, filter_map, is_some, slice_get, Option, Some, None, Result, Ok, Err, refl, sym, ap, ◌∙◌, subst}
use Rattle.std.specs.List.{cons_option}
use Rattle.std.proofs.lemmas.List.{take-take}
use Rattle.std.proofs.lemmas.List.Elements.{filter_map-append}
use Rattle.gi_pairs.specs.Table.{TableContents}
use Rattle.gi_pairs.specs.declared.cycle_id.CycleId.{CycleId}
use Rattle.gi_pairs.specs.declared.side.Side.{Side}
use Rattle.gi_pairs.specs.declared.side.Side.TheVariants.{I, M}
use Rattle.gi_messages.specs.Decoding.{decoded}
use Rattle.gi_messages.specs.declared.message.Message.{Message}
use Rattle.gi_messages.specs.declared.message.Message.TheVariants as messages
use Rattle.gi_messages.specs.declared.message_fault.MessageFault.{MessageFault}
use Rattle.gi_desk.specs.History.{frozen_table, is_closed, peer_in, peer_of}
use Rattle.gi_desk.specs.Machine.{DeskState, after as desk_after, next_of, outcome as desk_outcome, started_again}
use Rattle.gi_facts.specs.Same.{same_cycle}
use Rattle.gi_desk.specs.declared.call.Call.{Call}
use Rattle.gi_desk.specs.declared.call.Call.TheVariants as calls
use Rattle.gi_facts.specs.declared.fact.Fact.{Fact}
use Rattle.gi_facts.specs.declared.fact.Fact.TheVariants.{Contracted, Noticed, Nominated, Closed, Met}
use Rattle.gi_facts.proofs.SameLemmas.{same_cycle-is}
use Rattle.gi_desk.specs.declared.outcome.Outcome.{Outcome}
use Rattle.gi_desk.specs.declared.outcome.Outcome.TheVariants.{Records, RepeatsNomination, RepeatsMeeting, RepeatsPart, Keeps, Saves, Resends, Stops, Refuses}
use Rattle.gi_desk.specs.declared.packet.Packet.{Packet}
use Rattle.gi_desk.proofs.StepFacts.{only-appends}
use Rattle.gi_desk.specs.Writable.{FitsDesk}
use Rattle.gi_parts.specs.Parts.{AreKept}
use Rattle.gi_parts.specs.declared.kept_parts.KeptPart.{KeptPart}
use Rattle.gi_parts.specs.declared.part.Part.{Part}
use Rattle.gi_parts.specs.declared.part.Whole.{Whole}
use Rattle.gi_world.specs.Agreement.{FitsWorld, IsOfOrder, IsOfResponse, IsOrdered, IsResponded, IsSound, MeetsAfter, MeetsFrozen, saved_facts}
use Rattle.gi_world.specs.Histories.{fact_named_by, nomination_in}
use Rattle.gi_world.specs.World.{StationState, WorldState, after, after_call, after_delivery, after_if, after_restart, delivery, is_delivery, other, station_of, with_station}
use Rattle.gi_world.specs.declared.step.Step.{Step}
use Rattle.gi_world.specs.declared.step.Step.TheVariants.{Local, Deliver, Restart}
use Rattle.gi_world.specs.declared.world_fault.WorldFault.TheVariants.{KeepsTooFew, KeepsTooMany}
use Rattle.gi_world.specs.declared.world_reply.WorldReply.TheVariants.{Restarted}
use Rattle.gi_world.proofs.Agreeing.{DeliversOrders, DeliversResponses}
use Rattle.gi_world.proofs.Fronts.{IsFront, front-closed, front-frozen, front-met, front-more, front-take, front-trans, front-within, saved-front}
use Rattle.gi_world.proofs.Recorded.{records-named}
use Rattle.gi_world.proofs.Taking.{Takes, order-taken, order_carried, order_whole, response-taken, response_carried, response_whole}

-- ---- what a desk meets with one more fact

last_one : (xs : List TableContents) (o : Option TableContents) (table : TableContents) → slice_get (xs ++ cons_option o []) 0 ≡ Some table
    → (slice_get xs 0 ≡ Some table) ⊎ (o ≡ Some table)
last_one [] None table e = absurd cc
last_one [] (Some peer) table e = inr e
last_one (x ∷ xs) o table e = inl e

same_meeting : (b : Bool) (id other : CycleId) (peer table : TableContents) → same_cycle other id ≡ b → cond b (Some peer) None ≡ Some table → Met other peer ≡ Met id table
same_meeting true id other peer table same e = let cycle = same_cycle-is other id same in cc
same_meeting false id other peer table same e = absurd cc

meeting_is : (id : CycleId) (fact : Fact) (table : TableContents) → peer_in id fact ≡ Some table → fact ≡ Met id table
meeting_is id (Contracted contract) table e = absurd cc
meeting_is id (Noticed notice) table e = absurd cc
meeting_is id (Nominated document) table e = absurd cc
meeting_is id (Closed other rule) table e = absurd cc
meeting_is id (Met other peer) table e = same_meeting (same_cycle other id) id other peer table refl e

one_more : (facts : List Fact) (fact : Fact) (id : CycleId) (table : TableContents) → peer_of id (facts ++ fact ∷ []) ≡ Some table
    → (peer_of id facts ≡ Some table) ⊎ (fact ≡ Met id table)
unfolding peer_of
one_more facts fact id table e =
    let parts = ap (λ (peers : List TableContents). slice_get peers 0) (filter_map-append (peer_in id) facts (fact ∷ [])) in
    ⊎_elim (λ old. inl old) (λ new. inr (meeting_is id fact table new)) (last_one (filter_map (peer_in id) facts) (peer_in id fact) table (sym parts ∙ e))

-- A desk goes on to another state: what was saved stays so, and it meets no table but by the new fact.
pub record IsMoved (s next : DeskState) (new : Option Fact) : Type 0 where
  pub front : IsFront (saved_facts s) (saved_facts next)
  pub meets : (id : CycleId) (table : TableContents) → peer_of id next.facts ≡ Some table → (peer_of id s.facts ≡ Some table) ⊎ (new ≡ Some (Met id table))

-- what an outcome records
abbrev pub recorded_in : Outcome → Option Fact
recorded_in (Records fact) = Some fact
recorded_in other = None

pub recorded_is : (o : Outcome) (fact : Fact) → recorded_in o ≡ Some fact → o ≡ Records fact
recorded_is (Records other) fact e = let same : other ≡ fact = cc in ap Records same
recorded_is (RepeatsNomination n) fact e = absurd cc
recorded_is (RepeatsMeeting n) fact e = absurd cc
recorded_is (RepeatsPart n) fact e = absurd cc
recorded_is (Keeps id part) fact e = absurd cc
recorded_is (Saves n) fact e = absurd cc
recorded_is (Resends id) fact e = absurd cc
recorded_is Stops fact e = absurd cc
recorded_is (Refuses refusal) fact e = absurd cc

-- what a call records at a desk
abbrev pub recorded_by : Side → DeskState → Call → Option Fact
recorded_by side s call = recorded_in (desk_outcome side s call)

meets_by : (s : DeskState) (o : Outcome) (id : CycleId) (table : TableContents) → peer_of id (next_of s o).facts ≡ Some table
    → (peer_of id s.facts ≡ Some table) ⊎ (recorded_in o ≡ Some (Met id table))
meets_by s (Records fact) id table met = ⊎_elim (λ old. inl old) (λ new. inr (ap Some new)) (one_more s.facts fact id table met)
meets_by s (RepeatsNomination n) id table met = inl met
meets_by s (RepeatsMeeting n) id table met = inl met
meets_by s (RepeatsPart n) id table met = inl met
meets_by s (Keeps other part) id table met = inl met
meets_by s (Saves n) id table met = inl met
meets_by s (Resends other) id table met = inl met
meets_by s Stops id table met = inl met
meets_by s (Refuses refusal) id table met = inl met

pub call_moved : (side : Side) (s : DeskState) (call : Call) → s.saved ≤ length s.facts → IsMoved s (desk_after side s call) (recorded_by side s call)
unfolding desk_after
call_moved side s call within =
    let next = next_of s (desk_outcome side s call) in
    let grown = only-appends side s call in
    record {
      front = front-more s.facts next.facts s.saved next.saved grown.1 within grown.0;
      meets = λ id table met. meets_by s (desk_outcome side s call) id table met;
    }

pub restart_moved : (s : DeskState) (keep : ℕ) → s.saved ≤ keep → IsMoved s (started_again s keep) None
restart_moved s keep above = record {
  front = subst (IsFront (saved_facts s)) (sym (take-take keep keep s.facts (omega arith))) (front-within s.facts s.saved keep above);
  meets = λ id table met. inl (front-met (take keep s.facts) s.facts id table (front-take s.facts keep) met);
}

-- ---- what holds between the two desks

abbrev pub IsFrozenAt : Side → DeskState → CycleId → TableContents → Type 0
IsFrozenAt side s id table = (is_closed id (saved_facts s) ≡ true) × (table ≡ frozen_table side s.facts id)

pub moved_met : (side : Side) (s next peer : DeskState) (new : Option Fact) → MeetsFrozen side s peer → IsMoved s next new
    → ((id : CycleId) (table : TableContents) → new ≡ Some (Met id table) → IsFrozenAt (other side) peer id table) → MeetsFrozen side next peer
moved_met side s next peer new met moved may = λ id table there. ⊎_elim (λ old. met id table old) (λ fresh. may id table fresh) (moved.meets id table there)

pub frozen_stays : (side : Side) (s next : DeskState) (id : CycleId) → IsFront (saved_facts s) (saved_facts next) → is_closed id (saved_facts s) ≡ true
    → frozen_table side s.facts id ≡ frozen_table side next.facts id
frozen_stays side s next id front closed =
    front-frozen side (saved_facts s) s.facts id (saved-front s) closed
    ∙ sym (front-frozen side (saved_facts s) next.facts id (front-trans (saved_facts s) (saved_facts next) next.facts front (saved-front next)) closed)

moved_peer : (side : Side) (s next peer : DeskState) (new : Option Fact) → MeetsFrozen side peer s → IsMoved s next new → MeetsFrozen side peer next
moved_peer side s next peer new met moved =
    λ id table there.
    let was = met id table there in
    (front-closed (saved_facts s) (saved_facts next) id moved.front was.0, was.1 ∙ frozen_stays (other side) s next id moved.front was.0)

moved_after : (s next peer : DeskState) (new : Option Fact) → MeetsAfter s peer → IsMoved s next new
    → ((id : CycleId) (table : TableContents) → new ≡ Some (Met id table) → is_some (peer_of id (saved_facts peer)) ≡ true) → MeetsAfter next peer
moved_after s next peer new met moved may = λ id table there. ⊎_elim (λ old. met id table old) (λ fresh. may id table fresh) (moved.meets id table there)

pub some_in : (o : Option TableContents) → is_some o ≡ true → (table : TableContents) × (o ≡ Some table)
some_in None e = absurd cc
some_in (Some table) e = (table, refl)

moved_before : (s next peer : DeskState) (new : Option Fact) → MeetsAfter peer s → IsMoved s next new → MeetsAfter peer next
moved_before s next peer new met moved =
    λ id table there.
    let was = some_in (peer_of id (saved_facts s)) (met id table there) in
    ap is_some (front-met (saved_facts s) (saved_facts next) id was.0 moved.front was.1)

-- ---- a world in which one desk goes on

record AreMet (w : WorldState) : Type 0 where
  met : (side : Side) → MeetsFrozen side (station_of side w).desk (station_of (other side) w).desk
  after : MeetsAfter w.initiating.desk w.matching.desk

abbrev pub IsMetAfter : Side → WorldState → CycleId → Type 0
IsMetAfter I w id = is_some (peer_of id (saved_facts w.matching.desk)) ≡ true
IsMetAfter M w id = Unit {0}

-- the new fact, where it meets a table, meets the one that the other side froze
abbrev pub MayMeet : Side → WorldState → Option Fact → Type 0
MayMeet side w new =
    (id : CycleId) (table : TableContents) → new ≡ Some (Met id table)
    → IsFrozenAt (other side) (station_of (other side) w).desk id table × IsMetAfter side w id

initiating_met : (w : WorldState) (station : StationState) (new : Option Fact) → AreMet w → IsMoved w.initiating.desk station.desk new → MayMeet I w new
    → (side : Side) → let next = with_station I station w in MeetsFrozen side (station_of side next).desk (station_of (other side) next).desk
initiating_met w station new are moved may I = moved_met I w.initiating.desk station.desk w.matching.desk new (are.met I) moved (λ id table is. (may id table is).0)
initiating_met w station new are moved may M = moved_peer M w.initiating.desk station.desk w.matching.desk new (are.met M) moved

matching_met : (w : WorldState) (station : StationState) (new : Option Fact) → AreMet w → IsMoved w.matching.desk station.desk new → MayMeet M w new
    → (side : Side) → let next = with_station M station w in MeetsFrozen side (station_of side next).desk (station_of (other side) next).desk
matching_met w station new are moved may I = moved_peer I w.matching.desk station.desk w.initiating.desk new (are.met I) moved
matching_met w station new are moved may M = moved_met M w.matching.desk station.desk w.initiating.desk new (are.met M) moved (λ id table is. (may id table is).0)

with_moved : (side : Side) (w : WorldState) (station : StationState) (new : Option Fact) → AreMet w → IsMoved (station_of side w).desk station.desk new → MayMeet side w new
    → AreMet (with_station side station w)
with_moved I w station new are moved may = record {
  met = initiating_met w station new are moved may;
  after = moved_after w.initiating.desk station.desk w.matching.desk new are.after moved (λ id table is. (may id table is).1);
}
with_moved M w station new are moved may = record {
  met = matching_met w station new are moved may;
  after = moved_before w.matching.desk station.desk w.initiating.desk new are.after moved;
}

-- ---- steps

called_met : (side : Side) (w : WorldState) (call : Call) → AreMet w → (station_of side w).desk.saved ≤ length (station_of side w).desk.facts
    → MayMeet side w (recorded_by side (station_of side w).desk call) → AreMet (with_station side (after_call side (station_of side w) call) w)
unfolding after_call
called_met side w call are within may =
    let s = (station_of side w).desk in with_moved side w (after_call side (station_of side w) call) (recorded_by side s call) are (call_moved side s call within) may

nominates : (read : Result Message MessageFault) (id : CycleId) (table : TableContents) → nomination_in read ≡ Some (Met id table) → ⊥
nominates (Err fault) id table e = absurd cc
nominates (Ok (messages.Nomint document)) id table e = absurd cc
nominates (Ok (messages.Acknow message)) id table e = absurd cc
nominates (Ok (messages.Nomres message)) id table e = absurd cc
nominates (Ok (messages.Delord message)) id table e = absurd cc
nominates (Ok (messages.Delres message)) id table e = absurd cc

-- a call that is no delivery names no meeting
names_none : (kept : List KeptPart) (call : Call) (id : CycleId) (table : TableContents) → is_delivery call ≡ false → fact_named_by kept call ≡ Some (Met id table) → ⊥
names_none kept (calls.Contract contract) id table local e = absurd cc
names_none kept (calls.Notice notice) id table local e = absurd cc
names_none kept (calls.Submit body) id table local e = nominates (decoded body) id table e
names_none kept (calls.Close other rule) id table local e = absurd cc
names_none kept (calls.Deliver body) id table local e = absurd cc
names_none kept (calls.Resend other) id table local e = absurd cc
names_none kept (calls.MarkSaved n fact) id table local e = absurd cc
names_none kept calls.Halt id table local e = absurd cc

-- so it meets no table
pub meets_none : (side : Side) (s : DeskState) (call : Call) (id : CycleId) (table : TableContents) → is_delivery call ≡ false → recorded_by side s call ≡ Some (Met id table) → ⊥
meets_none side s call id table local e =
    names_none s.kept call id table local ((records-named side s call).0 (Met id table) (recorded_is (desk_outcome side s call) (Met id table) e))

local_met : (side : Side) (w : WorldState) (call : Call) (b : Bool) → is_delivery call ≡ b → AreMet w → (station_of side w).desk.saved ≤ length (station_of side w).desk.facts
    → AreMet (cond b w (with_station side (after_call side (station_of side w) call) w))
local_met side w call true e are within = are
local_met side w call false e are within = called_met side w call are within (λ id table is. absurd (meets_none side (station_of side w).desk call id table e is))

-- a packet that the other side sent meets the table that this one froze there
taken_is : (id other : CycleId) (whole : Whole) (part : Part) (o : Outcome) (table : TableContents) → Takes id whole part o → recorded_in o ≡ Some (Met other table) → Met id whole.processed ≡ Met other table
taken_is id other whole part o table takes e = sym (subst (Takes id whole part) (recorded_is o (Met other table) e) takes)

same_one : (P : CycleId → TableContents → Type 0) (id other : CycleId) (peer table : TableContents) → Met id peer ≡ Met other table → P id peer → P other table
same_one P id other peer table e holds =
    let cycle : id ≡ other = cc in
    let met : peer ≡ table = cc in
    subst (P other) met (subst (λ (id : CycleId). P id peer) cycle holds)

pub order_may : (w : WorldState) (s : DeskState) (packet : Packet) → let theirs = w.initiating.desk in FitsDesk I theirs.point theirs.facts → AreKept s.kept → All (IsOfOrder theirs) s.kept
    → IsOrdered w packet → MayMeet M w (recorded_by M s (calls.Deliver packet.body))
order_may w s packet fits few all it =
    let whole = order_whole w packet it in
    let o = desk_outcome M s (calls.Deliver packet.body) in
    λ id table is.
    same_one (λ id table. IsFrozenAt I w.initiating.desk id table × IsMetAfter M w id) it.id id whole.processed table
    (taken_is it.id id whole (order_carried w packet it) o table (order-taken w s packet fits few all it) is) ((it.closed, refl), tt)

pub response_may : (w : WorldState) (s : DeskState) (packet : Packet) → let theirs = w.matching.desk in FitsDesk M theirs.point theirs.facts → AreKept s.kept → All (IsOfResponse theirs) s.kept
    → IsResponded w packet → MayMeet I w (recorded_by I s (calls.Deliver packet.body))
response_may w s packet fits few all it =
    let whole = response_whole w packet it in
    let o = desk_outcome I s (calls.Deliver packet.body) in
    λ id table is.
    same_one (λ id table. IsFrozenAt M w.matching.desk id table × IsMetAfter I w id) it.id id whole.processed table
    (taken_is it.id id whole (response_carried w packet it) o table (response-taken w s packet fits few all it) is) ((it.closed, refl), ap is_some it.met)

delivery_met : (side : Side) (w : WorldState) (o : Option Packet) → AreMet w → (station_of side w).desk.saved ≤ length (station_of side w).desk.facts
    → ((packet : Packet) → o ≡ Some packet → MayMeet side w (recorded_by side (station_of side w).desk (calls.Deliver packet.body))) → AreMet (after_delivery w side o)
delivery_met side w None are within may = are
delivery_met side w (Some packet) are within may = called_met side w (calls.Deliver packet.body) are within (may packet refl)

restart_met : (side : Side) (w : WorldState) (keep saved len : ℕ) (few many : Bool) → nat_lt keep (station_of side w).desk.saved ≡ few → AreMet w
    → AreMet (after_if w (with_station side (after_restart (station_of side w) keep) w) (cond few (Err (KeepsTooFew saved)) (cond many (Err (KeepsTooMany len)) (Ok (Restarted keep)))))
unfolding after_restart
restart_met side w keep saved len true many e are = are
restart_met side w keep saved len false true e are = are
restart_met side w keep saved len false false e are =
    let s = (station_of side w).desk in
    let above : s.saved ≤ keep = let not_below = ltb-false keep s.saved e in omega (arith, not_below) in
    with_moved side w (after_restart (station_of side w) keep) None are (restart_moved s keep above) (λ id table is. absurd cc)

step_met : DeliversOrders → DeliversResponses → (w : WorldState) (step : Step) → IsSound w → FitsWorld w → AreMet (after w step)
unfolding after
step_met orders responses w (Local side call) sound fits =
    local_met side w call (is_delivery call) refl (record { met = sound.met; after = sound.after }) (sound.legal side).within
step_met orders responses w (Deliver I n) sound fits =
    delivery_met I w (delivery w I n) (record { met = sound.met; after = sound.after }) (sound.legal I).within
    (λ packet there. response_may w w.initiating.desk packet (fits M) (sound.few I) (sound.kept I) (responses w n packet sound fits there))
step_met orders responses w (Deliver M n) sound fits =
    delivery_met M w (delivery w M n) (record { met = sound.met; after = sound.after }) (sound.legal M).within
    (λ packet there. order_may w w.matching.desk packet (fits I) (sound.few M) (sound.kept M) (orders w n packet sound fits there))
step_met orders responses w (Restart side keep) sound fits =
    let s = (station_of side w).desk in
    restart_met side w keep s.saved (length s.facts) (nat_lt keep s.saved) (nat_lt (length s.facts) keep) refl (record { met = sound.met; after = sound.after })

-- after a step each side still met what the other one froze, and the initiating side what the matching one met before
pub met-sound : DeliversOrders → DeliversResponses → (w : WorldState) (step : Step) → IsSound w → FitsWorld w
    → (side : Side) → MeetsFrozen side (station_of side (after w step)).desk (station_of (other side) (after w step)).desk
met-sound orders responses w step sound fits = (step_met orders responses w step sound fits).met

pub after-sound : DeliversOrders → DeliversResponses → (w : WorldState) (step : Step) → IsSound w → FitsWorld w
    → MeetsAfter (after w step).initiating.desk (after w step).matching.desk
after-sound orders responses w step sound fits = (step_met orders responses w step sound fits).after
