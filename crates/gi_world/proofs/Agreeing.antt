-- No delivery tells of a packet that disagrees with what the other side saved.
use Rattle.std.proofs.Common.{◌≡◌, ℕ, List, [], ◌∷◌, length, Bool, true, false, cond, nat_le, Option, Some, None, Result, refl, sym, ap, ◌∙◌, subst}
use Rattle.std.specs.Prelude.{◌==◌}
use Rattle.std.proofs.lemmas.Bool.{and_from}
use Rattle.std.proofs.lemmas.Slice.Eq.{bytes_eq-Decides}
use Rattle.gi_pairs.specs.Table.{TableContents, same_hours}
use Rattle.gi_pairs.specs.declared.cycle_id.CycleId.{CycleId}
use Rattle.gi_pairs.specs.declared.row.Row.{Row}
use Rattle.gi_pairs.specs.declared.side.Side.{Side}
use Rattle.gi_pairs.specs.declared.side.Side.TheVariants.{I, M}
use Rattle.gi_lesser.specs.Lesser.{lesser_of}
use Rattle.gi_lesser.specs.Laws.{LessensBothWays}
use Rattle.gi_messages.specs.declared.message.Message.{Message}
use Rattle.gi_messages.specs.declared.message_fault.MessageFault.{MessageFault}
use Rattle.gi_cycles.specs.States.{FrozenCycle, MatchedCycle, matched_of}
use Rattle.gi_cycles.specs.declared.cycle_state.CycleState.TheVariants.{Collecting}
use Rattle.gi_parts.specs.Gathering.{gathered, is_awaiting, is_whole}
use Rattle.gi_parts.specs.Parts.{parts_of, rows_of}
use Rattle.gi_parts.specs.Splitting.{IsPartOf, IsSendable}
use Rattle.gi_parts.specs.declared.gathered.Gathered.TheVariants as gathers
use Rattle.gi_parts.specs.declared.kept_parts.KeptPart.{KeptPart}
use Rattle.gi_parts.specs.declared.part.Part.{Part}
use Rattle.gi_parts.specs.declared.part.Whole.{Whole}
use Rattle.gi_desk.specs.Deciding.{are_among, by_order, by_response, compared, difference, met_again, ordered, part_again, responded, unless_differs}
use Rattle.gi_desk.specs.History.{frozen_cycle, frozen_table, is_closed, is_meeting, met_by, number_of, peer_of, state_of}
use Rattle.gi_desk.specs.Judging.{by_decision, delivered, of_point}
use Rattle.gi_desk.specs.Machine.{DeskState, answer_of, comes_to, most_facts, outcome as desk_outcome, reply, unless_full}
use Rattle.gi_desk.specs.declared.call.Call.{Call}
use Rattle.gi_desk.specs.declared.call.Call.TheVariants as calls
use Rattle.gi_desk.specs.declared.decision.Decision.{Decision}
use Rattle.gi_desk.specs.declared.decision.Decision.TheVariants as decisions
use Rattle.gi_facts.specs.declared.fact.Fact.{Fact}
use Rattle.gi_desk.specs.declared.outcome.Outcome.{Outcome}
use Rattle.gi_desk.specs.declared.outcome.Outcome.TheVariants.{Records, RepeatsNomination, RepeatsMeeting, RepeatsPart, Keeps, Saves, Resends, Stops, Refuses}
use Rattle.gi_desk.specs.declared.packet.Packet.{Packet}
use Rattle.gi_desk.specs.declared.refusal.Refusal.TheVariants as refusals
use Rattle.gi_world.specs.Agreement.{Agrees, AgreesAnswer, AgreesReply, FitsWorld, IsOrdered, IsResponded, IsSound, disagrees, saved_facts}
use Rattle.gi_world.specs.World.{StationState, WorldState, delivered as delivered_step, delivery, outcome}
use Rattle.gi_world.specs.declared.step.Step.{Step}
use Rattle.gi_world.specs.declared.step.Step.TheVariants.{Local, Deliver, Restart}
use Rattle.gi_world.proofs.FrozenTables.{frozen-is-table, same-hours}
use Rattle.gi_world.proofs.Fronts.{front-closed, front-met, saved-front}
use Rattle.gi_world.proofs.SplitTables.{part_among, part_confirms_among, whole_part}
use Rattle.gi_world.proofs.Taking.{IsComing, order-coming, order_carried, order_whole, response-coming, response_carried, response_whole}
use Rattle.gi_desk.proofs.Differing.{difference-self}
use Rattle.gi_world.proofs.SameTables.{hours-same, table-self}

-- what an outcome tells of the other side
abbrev Settles : Side → Outcome → Type 0
Settles side (Records fact) = Unit {0}
Settles side (RepeatsNomination n) = Unit {0}
Settles side (RepeatsMeeting n) = Unit {0}
Settles side (RepeatsPart n) = Unit {0}
Settles side (Keeps id part) = Unit {0}
Settles side (Saves n) = Unit {0}
Settles side (Resends id) = Unit {0}
Settles side Stops = Unit {0}
Settles side (Refuses refusal) = disagrees side refusal ≡ false

answers : (side : Side) (s : DeskState) (o : Outcome) → Settles side o → AgreesAnswer side (answer_of s o)
answers side s (Records fact) settles = tt
answers side s (RepeatsNomination n) settles = tt
answers side s (RepeatsMeeting n) settles = tt
answers side s (RepeatsPart n) settles = tt
answers side s (Keeps id part) settles = tt
answers side s (Saves n) settles = tt
answers side s (Resends id) settles = tt
answers side s Stops settles = tt
answers side s (Refuses refusal) settles = settles

either : (side : Side) (b : Bool) (x y : Outcome) → Settles side x → Settles side y → Settles side (cond b x y)
either side true x y first second = first
either side false x y first second = second

full_is : (side : Side) → disagrees side refusals.Full ≡ false
full_is I = refl
full_is M = refl

halted_is : (side : Side) → disagrees side refusals.Halted ≡ false
halted_is I = refl
halted_is M = refl

full : (side : Side) (history : List Fact) (o : Outcome) → Settles side o → Settles side (unless_full history o)
full side history (Records fact) settles = either side (nat_le most_facts (length history)) (Refuses refusals.Full) (Records fact) (full_is side) tt
full side history (RepeatsNomination n) settles = tt
full side history (RepeatsMeeting n) settles = tt
full side history (RepeatsPart n) settles = tt
full side history (Keeps id part) settles = tt
full side history (Saves n) settles = tt
full side history (Resends id) settles = tt
full side history Stops settles = tt
full side history (Refuses refusal) settles = settles

-- an answer tells what the call comes to by itself
call-settles : (side : Side) (s : DeskState) (call : Call) → Settles side (comes_to side s call) → AgreesAnswer side (reply side s call).answer
unfolding reply desk_outcome
call-settles side s call settles =
    answers side s (desk_outcome side s call)
    (either side s.halted (Refuses refusals.Halted) (unless_full s.facts (comes_to side s call)) (halted_is side) (full side s.facts (comes_to side s call) settles))

-- ---- decisions

-- what comes of a decision on the part of a number
abbrev DecisionSettles : Side → List Fact → CycleId → ℕ → Decision → Type 0
DecisionSettles side history id number d = Settles side (by_decision history id number d)

same_point : (side : Side) (point own : List ℕ) (o : Outcome) → point ≡ own → Settles side o → Settles side (of_point point own o)
same_point side point own o same settles = rw ((bytes_eq-Decides point own).1 same) settles

-- a meeting that is repeated
again_settles : (side : Side) (history : List Fact) (id : CycleId) (number : ℕ) → DecisionSettles side history id number decisions.Again
again_settles side history id number = let n = number_of (is_meeting id) history in either side (number == 1) (RepeatsMeeting n) (RepeatsPart n) tt tt

-- a cycle that met these tables meets them again, and each part of them
meets_again : (met peer : TableContents) → peer ≡ met → met_again met peer ≡ decisions.Again
meets_again met peer same =
    ap (met_again met) same ∙ ap (λ (b : Bool). cond b decisions.Again (decisions.Refused refusals.Conflict)) (table-self met)

part_meets_again : (cycle : MatchedCycle) (part : Part) → are_among part.processed.rows cycle.peer.rows ≡ true → are_among (rows_of part.confirmed) cycle.confirmed.rows ≡ true
    → part_again cycle part ≡ decisions.Again
part_meets_again cycle part processed confirmed =
    ap (λ (b : Bool). cond b decisions.Again (decisions.Refused refusals.Conflict))
    (and_from (are_among part.processed.rows cycle.peer.rows) (are_among (rows_of part.confirmed) cycle.confirmed.rows) processed confirmed)

-- for the hours of the frozen table
if_hours : (b : Bool) (d : Decision) → b ≡ true → cond b d (decisions.Refused refusals.ShapeDiffers) ≡ d
if_hours true d e = refl
if_hours false d e = absurd cc

by_wholeness : (b : Bool) (x y d : Decision) → (b ≡ true → x ≡ d) → y ≡ d → cond b x y ≡ d
by_wholeness true x y d first second = first refl
by_wholeness false x y d first second = second

-- ---- at the matching side: a cycle that meets this table alone

ordered_settles : (history : List Fact) (id : CycleId) (number : ℕ) (whole : Whole) (part : Part) (b : Bool) → DecisionSettles M history id number (ordered (cond b (gathers.Keep part) (gathers.Complete whole)))
ordered_settles history id number whole part true = tt
ordered_settles history id number whole part false = tt

-- an order confirms nothing
order_again : (cycle : MatchedCycle) (id : CycleId) (whole : Whole) (part : Part) → IsSendable whole → IsPartOf whole part → whole.confirmed ≡ None → cycle.peer ≡ whole.processed
    → cond (is_whole part) (met_again cycle.peer part.processed) (part_again cycle part) ≡ decisions.Again
order_again cycle id whole part sendable is none met =
    by_wholeness (is_whole part) (met_again cycle.peer part.processed) (part_again cycle part) decisions.Again
    (λ one. meets_again cycle.peer part.processed ((whole_part whole id part sendable is one).processed ∙ sym met))
    (part_meets_again cycle part (ap (λ (t : TableContents). are_among part.processed.rows t.rows) met ∙ part_among whole part is)
    (none_among (rows_of part.confirmed) (subst (λ (o : Option TableContents). are_among (rows_of part.confirmed) (rows_of o) ≡ true) none (part_confirms_among whole part is))))
  where
    none_among : (rows : List Row) → are_among rows [] ≡ true → are_among rows cycle.confirmed.rows ≡ true
    none_among [] e = refl
    none_among (row ∷ rows) e = absurd cc

order_by : (history : List Fact) (id : CycleId) (number : ℕ) (cycle : FrozenCycle) (kept : List KeptPart) (whole : Whole) (part : Part) (met : Option TableContents) (b : Bool)
    → IsComing cycle.id kept whole part → same_hours cycle.own part.processed ≡ true → whole.confirmed ≡ None
    → ((table : TableContents) → met ≡ Some table → table ≡ whole.processed) → DecisionSettles M history id number (by_order kept part (cond b (met_by cycle met) (Collecting id)))
order_by history id number cycle kept whole part met false coming hours none only = refl
order_by history id number cycle kept whole part None true coming hours none only =
    subst (DecisionSettles M history id number) (sym (if_hours (same_hours cycle.own part.processed) (ordered (gathered cycle.id kept part)) hours ∙ ap ordered coming.comes))
    (ordered_settles history id number whole part (is_awaiting part (parts_of cycle.id kept)))
order_by history id number cycle kept whole part (Some table) true coming hours none only =
    let matched = matched_of cycle table in
    let again = cond (is_whole part) (met_again table part.processed) (part_again matched part) in
    subst (DecisionSettles M history id number)
    (sym (if_hours (same_hours cycle.own part.processed) again hours ∙ order_again matched id whole part coming.sendable coming.is none (only table refl)))
    (again_settles M history id number)

settles-order : (history : List Fact) (id : CycleId) (number : ℕ) (kept : List KeptPart) (whole : Whole) (part : Part) → IsComing id kept whole part → same_hours (frozen_table M history id) part.processed ≡ true → whole.confirmed ≡ None
    → ((table : TableContents) → peer_of id history ≡ Some table → table ≡ whole.processed) → DecisionSettles M history id number (by_order kept part (state_of M history id))
unfolding state_of
settles-order history id number kept whole part coming hours none only = order_by history id number (frozen_cycle M history id) kept whole part (peer_of id history) (is_closed id history) coming hours none only

-- ---- at the initiating side: the cycle is closed, and what is confirmed is the lesser

no_difference : (own peer : TableContents) (confirmed : List Row) (d : Decision) → confirmed ≡ (lesser_of own peer).rows → compared own peer confirmed d ≡ d
no_difference own peer confirmed d is =
    ap (λ (rows : List Row). unless_differs (difference rows (lesser_of own peer).rows) d) is
    ∙ ap (λ (row : Option ℕ). unless_differs row d) (difference-self (lesser_of own peer).rows)

responded_settles : (history : List Fact) (id : CycleId) (number : ℕ) (own : TableContents) (whole : Whole) (part : Part) (b : Bool) → rows_of whole.confirmed ≡ (lesser_of own whole.processed).rows
    → DecisionSettles I history id number (responded own (cond b (gathers.Keep part) (gathers.Complete whole)))
responded_settles history id number own whole part true lesser = tt
responded_settles history id number own whole part false lesser =
    subst (DecisionSettles I history id number) (sym (no_difference own whole.processed (rows_of whole.confirmed) (decisions.Meet whole.processed) lesser)) tt

response_again : (cycle : FrozenCycle) (table : TableContents) (id : CycleId) (whole : Whole) (part : Part) → IsSendable whole → IsPartOf whole part
    → rows_of whole.confirmed ≡ (lesser_of cycle.own whole.processed).rows → table ≡ whole.processed
    → cond (is_whole part) (compared cycle.own part.processed (rows_of part.confirmed) (met_again table part.processed)) (part_again (matched_of cycle table) part) ≡ decisions.Again
response_again cycle table id whole part sendable is lesser met =
    let own = cycle.own in
    by_wholeness (is_whole part) (compared own part.processed (rows_of part.confirmed) (met_again table part.processed)) (part_again (matched_of cycle table) part) decisions.Again
    (λ one. let all = whole_part whole id part sendable is one in
    no_difference own part.processed (rows_of part.confirmed) (met_again table part.processed)
    (ap rows_of all.confirmed ∙ lesser ∙ ap (λ (t : TableContents). (lesser_of own t).rows) (sym all.processed))
    ∙ meets_again table part.processed (all.processed ∙ sym met))
    (part_meets_again (matched_of cycle table) part (ap (λ (t : TableContents). are_among part.processed.rows t.rows) met ∙ part_among whole part is)
    (ap (λ (t : TableContents). are_among (rows_of part.confirmed) (lesser_of own t).rows) met
    ∙ ap (are_among (rows_of part.confirmed)) (sym lesser)
    ∙ part_confirms_among whole part is))

response_by : (history : List Fact) (id : CycleId) (number : ℕ) (cycle : FrozenCycle) (kept : List KeptPart) (whole : Whole) (part : Part) (met : Option TableContents)
    → IsComing cycle.id kept whole part → same_hours cycle.own part.processed ≡ true → rows_of whole.confirmed ≡ (lesser_of cycle.own whole.processed).rows
    → ((table : TableContents) → met ≡ Some table → table ≡ whole.processed) → DecisionSettles I history id number (by_response kept part (met_by cycle met))
response_by history id number cycle kept whole part None coming hours lesser only =
    subst (DecisionSettles I history id number)
    (sym (if_hours (same_hours cycle.own part.processed) (responded cycle.own (gathered cycle.id kept part)) hours ∙ ap (responded cycle.own) coming.comes))
    (responded_settles history id number cycle.own whole part (is_awaiting part (parts_of cycle.id kept)) lesser)
response_by history id number cycle kept whole part (Some table) coming hours lesser only =
    let again = cond (is_whole part) (compared cycle.own part.processed (rows_of part.confirmed) (met_again table part.processed)) (part_again (matched_of cycle table) part) in
    subst (DecisionSettles I history id number)
    (sym (if_hours (same_hours cycle.own part.processed) again hours ∙ response_again cycle table id whole part coming.sendable coming.is lesser (only table refl)))
    (again_settles I history id number)

settles-response : (history : List Fact) (id : CycleId) (number : ℕ) (kept : List KeptPart) (whole : Whole) (part : Part) → IsComing id kept whole part → same_hours (frozen_table I history id) part.processed ≡ true → is_closed id history ≡ true
    → rows_of whole.confirmed ≡ (lesser_of (frozen_table I history id) whole.processed).rows
    → ((table : TableContents) → peer_of id history ≡ Some table → table ≡ whole.processed) → DecisionSettles I history id number (by_response kept part (state_of I history id))
unfolding state_of
settles-response history id number kept whole part coming hours closed lesser only =
    subst (λ (b : Bool). DecisionSettles I history id number (by_response kept part (cond b (met_by (frozen_cycle I history id) (peer_of id history)) (Collecting id)))) (sym closed)
    (response_by history id number (frozen_cycle I history id) kept whole part (peer_of id history) coming hours lesser only)

-- ---- deliveries

order-settles : (w : WorldState) (packet : Packet) → IsSound w → FitsWorld w → IsOrdered w packet → Settles M (comes_to M w.matching.desk (calls.Deliver packet.body))
order-settles w packet sound fits it =
    let ours = w.matching.desk in
    let theirs = w.initiating.desk in
    let id = it.id in
    let own = frozen_table M ours.facts id in
    let whole = order_whole w packet it in
    let part = order_carried w packet it in
    let shape = same-hours M I ours.facts theirs.facts id in
    let hours = hours-same own part.processed (record { first = shape.first; last = shape.last }) in
    let d =
    settles-order ours.facts id part.number ours.kept whole part (order-coming w ours.kept packet (fits I) (sound.few M) (sound.kept M) it) hours refl (λ table met. (sound.met M id table met).1) in
    subst (λ (read : Result Message MessageFault). Settles M (delivered M ours.point ours.facts ours.kept read)) (sym it.reads)
    (same_point M theirs.point ours.point (by_decision ours.facts id part.number (by_order ours.kept part (state_of M ours.facts id))) (sym sound.point) d)

response-settles : LessensBothWays → (w : WorldState) (packet : Packet) → IsSound w → FitsWorld w → IsResponded w packet → Settles I (comes_to I w.initiating.desk (calls.Deliver packet.body))
response-settles both_ways w packet sound fits it =
    let ours = w.initiating.desk in
    let theirs = w.matching.desk in
    let id = it.id in
    let own = frozen_table I ours.facts id in
    let peer = frozen_table M theirs.facts id in
    let whole = response_whole w packet it in
    let part = response_carried w packet it in
    let met = sound.met M id it.peer (front-met (saved_facts theirs) theirs.facts id it.peer (saved-front theirs) it.met) in
    let closed = front-closed (saved_facts ours) ours.facts id (saved-front ours) met.0 in
    let their_closed = front-closed (saved_facts theirs) theirs.facts id (saved-front theirs) it.closed in
    let shape = same-hours I M ours.facts theirs.facts id in
    let hours = hours-same own part.processed (record { first = shape.first; last = shape.last }) in
    let confirmed : lesser_of peer it.peer ≡ lesser_of own peer =
    ap (lesser_of peer) met.1
    ∙ both_ways peer own (frozen-is-table M theirs.point theirs.facts id (fits M) their_closed) (frozen-is-table I ours.point ours.facts id (fits I) closed) (same-hours M I theirs.facts ours.facts id) in
    let d =
    settles-response ours.facts id part.number ours.kept whole part (response-coming w ours.kept packet (fits M) (sound.few I) (sound.kept I) it) hours closed
    (ap (λ (t : TableContents). t.rows) confirmed) (λ table again. (sound.met I id table again).1) in
    subst (λ (read : Result Message MessageFault). Settles I (delivered I ours.point ours.facts ours.kept read)) (sym it.reads)
    (same_point I theirs.point ours.point (by_decision ours.facts id part.number (by_response ours.kept part (state_of I ours.facts id))) sound.point d)

-- what is delivered to the matching side is an order, and to the initiating side a response
abbrev pub DeliversOrders : Type 0
DeliversOrders = (w : WorldState) (n : ℕ) (packet : Packet) → IsSound w → FitsWorld w → delivery w M n ≡ Some packet → IsOrdered w packet

abbrev pub DeliversResponses : Type 0
DeliversResponses = (w : WorldState) (n : ℕ) (packet : Packet) → IsSound w → FitsWorld w → delivery w I n ≡ Some packet → IsResponded w packet

delivered_by : (side : Side) (w : WorldState) (station : StationState) (o : Option Packet)
    → ((packet : Packet) → o ≡ Some packet → Settles side (comes_to side station.desk (calls.Deliver packet.body))) → AgreesReply side (delivered_step side station o)
delivered_by side w station None settles = tt
delivered_by side w station (Some packet) settles = call-settles side station.desk (calls.Deliver packet.body) (settles packet refl)

-- no step tells of a packet that disagrees
pub step-agrees : LessensBothWays → DeliversOrders → DeliversResponses → (w : WorldState) (step : Step) → IsSound w → FitsWorld w → Agrees step (outcome w step)
unfolding outcome
step-agrees both_ways orders responses w (Local side call) sound fits = tt
step-agrees both_ways orders responses w (Restart side keep) sound fits = tt
step-agrees both_ways orders responses w (Deliver M n) sound fits =
    delivered_by M w w.matching (delivery w M n) (λ packet there. order-settles w packet sound fits (orders w n packet sound fits there))
step-agrees both_ways orders responses w (Deliver I n) sound fits =
    delivered_by I w w.initiating (delivery w I n) (λ packet there. response-settles both_ways w packet sound fits (responses w n packet sound fits there))
