-- What a desk takes of a packet that the other one sent: the tables of which it is a part meet, or the part is kept.
use Rattle.std.proofs.Common.{◌≡◌, ℕ, List, length, All, Bool, true, false, cond, nat_le, Option, Some, None, Result, refl, sym, ◌∙◌, subst}
use Rattle.std.specs.Prelude.{◌==◌}
use Rattle.std.specs.Str.{bytes_eq}
use Rattle.std.proofs.lemmas.List.Elements.{All-weaker}
use Rattle.gi_pairs.specs.Table.{TableContents, same_hours, table_eq}
use Rattle.gi_pairs.specs.declared.cycle_id.CycleId.{CycleId}
use Rattle.gi_pairs.specs.declared.side.Side.{Side}
use Rattle.gi_pairs.specs.declared.side.Side.TheVariants.{I, M}
use Rattle.gi_lesser.specs.Lesser.{lesser_of}
use Rattle.gi_messages.specs.declared.message.Message.{Message}
use Rattle.gi_messages.specs.declared.message_fault.MessageFault.{MessageFault}
use Rattle.gi_cycles.specs.States.{matched_of}
use Rattle.gi_cycles.specs.declared.cycle_state.CycleState.{CycleState}
use Rattle.gi_cycles.specs.declared.cycle_state.CycleState.TheVariants.{Collecting, Frozen, Matched}
use Rattle.gi_parts.specs.Gathering.{gathered, is_awaiting, is_whole}
use Rattle.gi_parts.specs.Parts.{AreKept, parts_of, rows_of}
use Rattle.gi_parts.specs.Splitting.{IsPartOf, IsSendable, part_of_whole}
use Rattle.gi_parts.specs.declared.gathered.Gathered.{Gathered}
use Rattle.gi_parts.specs.declared.gathered.Gathered.TheVariants as gathers
use Rattle.gi_parts.specs.declared.kept_parts.KeptPart.{KeptPart}
use Rattle.gi_parts.specs.declared.part.Part.{Part}
use Rattle.gi_parts.specs.declared.part.Whole.{Whole}
use Rattle.gi_desk.specs.Caches.{id_of}
use Rattle.gi_desk.specs.Deciding.{by_order, by_response, compared, difference, met_again, ordered, part_again, responded, unless_differs}
use Rattle.gi_desk.specs.History.{frozen_cycle, is_meeting, met_by, number_of, peer_of, state_of}
use Rattle.gi_desk.specs.Judging.{by_decision, delivered}
use Rattle.gi_desk.specs.Machine.{DeskState, comes_to, most_facts, outcome as desk_outcome, unless_full}
use Rattle.gi_desk.specs.Messages.{order_of, response_of}
use Rattle.gi_desk.specs.Writable.{FitsDesk, FitsMatched, FitsState}
use Rattle.gi_desk.specs.declared.call.Call.{Call}
use Rattle.gi_desk.specs.declared.call.Call.TheVariants as calls
use Rattle.gi_desk.specs.declared.decision.Decision.{Decision}
use Rattle.gi_desk.specs.declared.decision.Decision.TheVariants as decisions
use Rattle.gi_facts.specs.declared.fact.Fact.{Fact}
use Rattle.gi_facts.specs.declared.fact.Fact.TheVariants.{Met}
use Rattle.gi_desk.specs.declared.outcome.Outcome.{Outcome}
use Rattle.gi_desk.specs.declared.outcome.Outcome.TheVariants.{Records, RepeatsNomination, RepeatsMeeting, RepeatsPart, Keeps, Saves, Resends, Stops, Refuses}
use Rattle.gi_desk.specs.declared.packet.Packet.{Packet}
use Rattle.gi_desk.specs.declared.refusal.Refusal.TheVariants as refusals
use Rattle.gi_desk.proofs.PartsOfTables.{lesser-has_own_rows}
use Rattle.gi_desk.proofs.StageLaws.{id_of-state}
use Rattle.gi_world.specs.Agreement.{IsOfOrder, IsOfResponse, IsOrdered, IsResponded, saved_facts}
use Rattle.gi_world.specs.World.{WorldState}
use Rattle.gi_world.proofs.DeliveredPackets.{closed_fits}
use Rattle.gi_world.proofs.FrozenTables.{frozen-fits}
use Rattle.gi_world.proofs.Fronts.{front-closed, front-met, saved-front}
use Rattle.gi_world.proofs.SplitTables.{gathers as gathers_split, parts_all}

-- ---- the tables of which a packet is a part, and the part

abbrev pub order_whole : (w : WorldState) (packet : Packet) → IsOrdered w packet → Whole
order_whole w packet it = order_of (frozen_cycle I w.initiating.desk.facts it.id)

abbrev pub order_carried : (w : WorldState) (packet : Packet) → IsOrdered w packet → Part
order_carried w packet it = part_of_whole (order_whole w packet it) it.number

abbrev pub response_whole : (w : WorldState) (packet : Packet) → IsResponded w packet → Whole
response_whole w packet it = response_of (matched_of (frozen_cycle M w.matching.desk.facts it.id) it.peer)

abbrev pub response_carried : (w : WorldState) (packet : Packet) → IsResponded w packet → Part
response_carried w packet it = part_of_whole (response_whole w packet it) it.number

-- A part of tables that can be sent, where all that is kept of its cycle are parts of the same: it is kept too, or comes to these tables.
pub record IsComing (id : CycleId) (kept : List KeptPart) (whole : Whole) (part : Part) : Type 0 where
  pub sendable : IsSendable whole
  pub is : IsPartOf whole part
  pub comes : gathered id kept part ≡ cond (is_awaiting part (parts_of id kept)) (gathers.Keep part) (gathers.Complete whole)

coming : (id : CycleId) (kept : List KeptPart) (whole : Whole) (part : Part) → IsSendable whole → IsPartOf whole part → AreKept kept
    → All (λ one. one.id ≡ id → IsPartOf whole one.part) kept → IsComing id kept whole part
coming id kept whole part sendable is few all = record {
  sendable = sendable;
  is = is;
  comes = gathers_split whole id kept part sendable few (parts_all (IsPartOf whole) id kept all) is;
}

pub order-coming : (w : WorldState) (kept : List KeptPart) (packet : Packet) → let theirs = w.initiating.desk in FitsDesk I theirs.point theirs.facts → AreKept kept → All (IsOfOrder theirs) kept
    → (it : IsOrdered w packet) → IsComing it.id kept (order_whole w packet it) (order_carried w packet it)
order-coming w kept packet fits few all it =
    let theirs = w.initiating.desk in
    let whole = order_whole w packet it in
    let their_fits = frozen-fits I theirs.point theirs.facts it.id fits (front-closed (saved_facts theirs) theirs.facts it.id (saved-front theirs) it.closed) in
    coming it.id kept whole (order_carried w packet it)
    (record { processed = their_fits.table; few = their_fits.few; confirmed = tt; same_hours = tt; no_fewer = tt })
    (record { number = it.within; is = refl }) few
    (All-weaker (IsOfOrder theirs) (λ one. one.id ≡ it.id → IsPartOf whole one.part)
    (λ one of. λ same. subst (λ (i : CycleId). IsPartOf (order_of (frozen_cycle I theirs.facts i)) one.part) same of.part) kept all)

same_peer : (s : DeskState) (id : CycleId) (a b : TableContents) → peer_of id (saved_facts s) ≡ Some a → peer_of id (saved_facts s) ≡ Some b → b ≡ a
same_peer s id a b first second = let same : Some b ≡ Some a = sym second ∙ first in cc

of_response : (s : DeskState) (id : CycleId) (peer : TableContents) (one : KeptPart) → peer_of id (saved_facts s) ≡ Some peer → IsOfResponse s one → one.id ≡ id
    → IsPartOf (response_of (matched_of (frozen_cycle M s.facts id) peer)) one.part
of_response s id peer one met of same =
    let here : peer_of id (saved_facts s) ≡ Some of.peer = subst (λ (i : CycleId). peer_of i (saved_facts s) ≡ Some of.peer) same of.met in
    subst (λ (t : TableContents). IsPartOf (response_of (matched_of (frozen_cycle M s.facts id) t)) one.part) (same_peer s id peer of.peer met here)
    (subst (λ (i : CycleId). IsPartOf (response_of (matched_of (frozen_cycle M s.facts i) of.peer)) one.part) same of.part)

pub response-coming : (w : WorldState) (kept : List KeptPart) (packet : Packet) → let theirs = w.matching.desk in FitsDesk M theirs.point theirs.facts → AreKept kept → All (IsOfResponse theirs) kept
    → (it : IsResponded w packet) → IsComing it.id kept (response_whole w packet it) (response_carried w packet it)
response-coming w kept packet fits few all it =
    let theirs = w.matching.desk in
    let id = it.id in
    let cycle = frozen_cycle M theirs.facts id in
    let whole = response_whole w packet it in
    let met = front-met (saved_facts theirs) theirs.facts id it.peer (saved-front theirs) it.met in
    let closed = front-closed (saved_facts theirs) theirs.facts id (saved-front theirs) it.closed in
    let their_fits : FitsMatched M (matched_of cycle it.peer) = subst (λ (o : Option TableContents). FitsState M (met_by cycle o)) met (closed_fits M theirs.point theirs.facts id fits closed) in
    coming id kept whole (response_carried w packet it)
    (record {
      processed = their_fits.own.table;
      few = their_fits.own.few;
      confirmed = their_fits.confirmed;
      same_hours = record { first = sym their_fits.begins; last = sym their_fits.ends };
      no_fewer = lesser-has_own_rows cycle.own it.peer;
    })
    (record { number = it.within; is = refl }) few
    (All-weaker (IsOfResponse theirs) (λ one. one.id ≡ id → IsPartOf whole one.part) (λ one of. λ same. of_response theirs id it.peer one it.met of same) kept all)

-- ---- outcomes

-- what is recorded is the meeting of these tables, and what is kept this part
abbrev pub Takes : CycleId → Whole → Part → Outcome → Type 0
Takes id whole part (Records fact) = fact ≡ Met id whole.processed
Takes id whole part (RepeatsNomination n) = Unit {0}
Takes id whole part (RepeatsMeeting n) = Unit {0}
Takes id whole part (RepeatsPart n) = Unit {0}
Takes id whole part (Keeps other one) = (other ≡ id) × (one ≡ part)
Takes id whole part (Saves n) = Unit {0}
Takes id whole part (Resends other) = Unit {0}
Takes id whole part Stops = Unit {0}
Takes id whole part (Refuses refusal) = Unit {0}

either : (id : CycleId) (whole : Whole) (part : Part) (b : Bool) (x y : Outcome) → Takes id whole part x → Takes id whole part y → Takes id whole part (cond b x y)
either id whole part true x y first second = first
either id whole part false x y first second = second

full : (id : CycleId) (whole : Whole) (part : Part) (history : List Fact) (o : Outcome) → Takes id whole part o → Takes id whole part (unless_full history o)
full id whole part history (Records fact) takes = either id whole part (nat_le most_facts (length history)) (Refuses refusals.Full) (Records fact) tt takes
full id whole part history (RepeatsNomination n) takes = tt
full id whole part history (RepeatsMeeting n) takes = tt
full id whole part history (RepeatsPart n) takes = tt
full id whole part history (Keeps other one) takes = takes
full id whole part history (Saves n) takes = tt
full id whole part history (Resends other) takes = tt
full id whole part history Stops takes = tt
full id whole part history (Refuses refusal) takes = tt

-- ---- decisions

abbrev Decides : List Fact → CycleId → Whole → Part → Decision → Type 0
Decides history id whole part d = Takes id whole part (by_decision history id part.number d)

test : (history : List Fact) (id : CycleId) (whole : Whole) (part : Part) (b : Bool) (x y : Decision) → Decides history id whole part x → Decides history id whole part y
    → Decides history id whole part (cond b x y)
test history id whole part true x y first second = first
test history id whole part false x y first second = second

again : (history : List Fact) (id : CycleId) (whole : Whole) (part : Part) → Decides history id whole part decisions.Again
again history id whole part = let n = number_of (is_meeting id) history in either id whole part (part.number == 1) (RepeatsMeeting n) (RepeatsPart n) tt tt

-- a cycle that met records nothing and keeps nothing
met : (history : List Fact) (id : CycleId) (whole : Whole) (part : Part) (b : Bool) → Decides history id whole part (cond b decisions.Again (decisions.Refused refusals.Conflict))
met history id whole part b = test history id whole part b decisions.Again (decisions.Refused refusals.Conflict) (again history id whole part) tt

unless : (history : List Fact) (id : CycleId) (whole : Whole) (part : Part) (row : Option ℕ) (d : Decision) → Decides history id whole part d → Decides history id whole part (unless_differs row d)
unless history id whole part None d decides = decides
unless history id whole part (Some row) d decides = tt

abbrev Gathers : CycleId → List KeptPart → Whole → Part → Type 0
Gathers id kept whole part = gathered id kept part ≡ cond (is_awaiting part (parts_of id kept)) (gathers.Keep part) (gathers.Complete whole)

ordered_by : (history : List Fact) (id : CycleId) (whole : Whole) (part : Part) (b : Bool) → Decides history id whole part (ordered (cond b (gathers.Keep part) (gathers.Complete whole)))
ordered_by history id whole part true = (refl, refl)
ordered_by history id whole part false = refl

responded_by : (history : List Fact) (id : CycleId) (own : TableContents) (whole : Whole) (part : Part) (b : Bool)
    → Decides history id whole part (responded own (cond b (gathers.Keep part) (gathers.Complete whole)))
responded_by history id own whole part true = (refl, refl)
responded_by history id own whole part false =
    unless history id whole part (difference (rows_of whole.confirmed) (lesser_of own whole.processed).rows) (decisions.Meet whole.processed) refl

-- of the cycle in whatever state
at_cycle : (id other : CycleId) (kept : List KeptPart) (whole : Whole) (part : Part) → other ≡ id → Gathers id kept whole part → Gathers other kept whole part
at_cycle id other kept whole part same is = subst (λ (i : CycleId). Gathers i kept whole part) (sym same) is

order : (history : List Fact) (id : CycleId) (kept : List KeptPart) (whole : Whole) (part : Part) (state : CycleState) → id_of state ≡ id → Gathers id kept whole part
    → Decides history id whole part (by_order kept part state)
order history id kept whole part (Collecting other) same is = tt
order history id kept whole part (Frozen cycle) same is =
    test history id whole part (same_hours cycle.own part.processed) (ordered (gathered cycle.id kept part)) (decisions.Refused refusals.ShapeDiffers)
    (subst (λ (g : Gathered). Decides history id whole part (ordered g)) (sym (at_cycle id cycle.id kept whole part same is)) (ordered_by history id whole part (is_awaiting part (parts_of cycle.id kept)))) tt
order history id kept whole part (Matched cycle) same is =
    let again_if = cond (is_whole part) (met_again cycle.peer part.processed) (part_again cycle part) in
    test history id whole part (same_hours cycle.own part.processed) again_if (decisions.Refused refusals.ShapeDiffers)
    (test history id whole part (is_whole part) (met_again cycle.peer part.processed) (part_again cycle part) (met history id whole part (table_eq cycle.peer part.processed))
    (met history id whole part _)) tt

response : (history : List Fact) (id : CycleId) (kept : List KeptPart) (whole : Whole) (part : Part) (state : CycleState) → id_of state ≡ id → Gathers id kept whole part
    → Decides history id whole part (by_response kept part state)
response history id kept whole part (Collecting other) same is = tt
response history id kept whole part (Frozen cycle) same is =
    test history id whole part (same_hours cycle.own part.processed) (responded cycle.own (gathered cycle.id kept part)) (decisions.Refused refusals.ShapeDiffers)
    (subst (λ (g : Gathered). Decides history id whole part (responded cycle.own g)) (sym (at_cycle id cycle.id kept whole part same is))
    (responded_by history id cycle.own whole part (is_awaiting part (parts_of cycle.id kept)))) tt
response history id kept whole part (Matched cycle) same is =
    let whole_again = compared cycle.own part.processed (rows_of part.confirmed) (met_again cycle.peer part.processed) in
    test history id whole part (same_hours cycle.own part.processed) (cond (is_whole part) whole_again (part_again cycle part)) (decisions.Refused refusals.ShapeDiffers)
    (test history id whole part (is_whole part) whole_again (part_again cycle part)
    (unless history id whole part (difference (rows_of part.confirmed) (lesser_of cycle.own part.processed).rows) (met_again cycle.peer part.processed)
    (met history id whole part (table_eq cycle.peer part.processed)))
    (met history id whole part _)) tt

-- ---- deliveries

-- where the call by itself takes so, a desk that is halted or full does no other
outcome-takes : (side : Side) (id : CycleId) (whole : Whole) (part : Part) (s : DeskState) (call : Call) → Takes id whole part (comes_to side s call) → Takes id whole part (desk_outcome side s call)
unfolding desk_outcome
outcome-takes side id whole part s call takes =
    either id whole part s.halted (Refuses refusals.Halted) (unless_full s.facts (comes_to side s call)) tt (full id whole part s.facts (comes_to side s call) takes)

pub order-taken : (w : WorldState) (s : DeskState) (packet : Packet) → let theirs = w.initiating.desk in FitsDesk I theirs.point theirs.facts → AreKept s.kept → All (IsOfOrder theirs) s.kept
    → (it : IsOrdered w packet) → Takes it.id (order_whole w packet it) (order_carried w packet it) (desk_outcome M s (calls.Deliver packet.body))
order-taken w s packet fits few all it =
    let whole = order_whole w packet it in
    let part = order_carried w packet it in
    let theirs = w.initiating.desk in
    let d = order s.facts it.id s.kept whole part (state_of M s.facts it.id) (id_of-state M s.facts it.id) (order-coming w s.kept packet fits few all it).comes in
    outcome-takes M it.id whole part s (calls.Deliver packet.body)
    (subst (λ (read : Result Message MessageFault). Takes it.id whole part (delivered M s.point s.facts s.kept read)) (sym it.reads)
    (either it.id whole part (bytes_eq theirs.point s.point) (by_decision s.facts it.id part.number (by_order s.kept part (state_of M s.facts it.id))) (Refuses refusals.WrongPoint) d tt))

pub response-taken : (w : WorldState) (s : DeskState) (packet : Packet) → let theirs = w.matching.desk in FitsDesk M theirs.point theirs.facts → AreKept s.kept → All (IsOfResponse theirs) s.kept
    → (it : IsResponded w packet) → Takes it.id (response_whole w packet it) (response_carried w packet it) (desk_outcome I s (calls.Deliver packet.body))
response-taken w s packet fits few all it =
    let whole = response_whole w packet it in
    let part = response_carried w packet it in
    let theirs = w.matching.desk in
    let d = response s.facts it.id s.kept whole part (state_of I s.facts it.id) (id_of-state I s.facts it.id) (response-coming w s.kept packet fits few all it).comes in
    outcome-takes I it.id whole part s (calls.Deliver packet.body)
    (subst (λ (read : Result Message MessageFault). Takes it.id whole part (delivered I s.point s.facts s.kept read)) (sym it.reads)
    (either it.id whole part (bytes_eq theirs.point s.point) (by_decision s.facts it.id part.number (by_response s.kept part (state_of I s.facts it.id))) (Refuses refusals.WrongPoint) d tt))
