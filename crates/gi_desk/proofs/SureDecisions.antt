-- What is known of a decision: a table that meets is one that the cycle can meet, and a part that is kept may be.
use Rattle.std.proofs.Common.{arith, ◌≡◌, ◌≤◌, ℕ, List, length, Bool, true, false, cond, ◌&&◌, nat_eq, Option, Some, None, refl, sym, ap, subst, ◌∙◌}
use Rattle.std.proofs.lemmas.Bool.{and_from}
use Rattle.std.proofs.lemmas.Bool.Decides.{nat_tests}
use Rattle.gi_pairs.specs.Limits.{most_processed_rows}
use Rattle.gi_pairs.specs.Table.{TableContents, same_hours, table_eq}
use Rattle.gi_pairs.specs.declared.cycle_id.CycleId.{CycleId}
use Rattle.gi_pairs.specs.declared.side.Side.{Side}
use Rattle.gi_lesser.specs.Lesser.{lesser_of}
use Rattle.gi_cycles.specs.States.{FrozenCycle, MatchedCycle}
use Rattle.gi_cycles.specs.declared.cycle_state.CycleState.{CycleState}
use Rattle.gi_cycles.specs.declared.cycle_state.CycleState.TheVariants.{Collecting, Frozen, Matched}
use Rattle.gi_parts.specs.Gathering.{CanKeep, gathered, is_whole}
use Rattle.gi_parts.specs.Parts.{IsSent, rows_of}
use Rattle.gi_parts.specs.declared.gathered.Gathered.{Gathered}
use Rattle.gi_parts.specs.declared.gathered.Gathered.TheVariants as gathers
use Rattle.gi_parts.specs.declared.part.Part.{Part}
use Rattle.gi_facts.specs.declared.fact.Fact.TheVariants.{Met}
use Rattle.gi_desk.specs.Caches.{id_of}
use Rattle.gi_desk.specs.Deciding.{are_among, by_order, by_response, compared, difference, met_again, ordered, part_again, responded, unless_differs}
use Rattle.gi_desk.specs.History.{state_of}
use Rattle.gi_desk.specs.Machine.{DeskState, can_meet, would_record}
use Rattle.gi_desk.specs.declared.decision.Decision.{Decision}
use Rattle.gi_desk.specs.declared.decision.Decision.TheVariants.{Meet, Keep, Again, Refused}
use Rattle.gi_desk.specs.declared.refusal.Refusal.TheVariants.{Conflict, ShapeDiffers}
use Rattle.gi_facts.specs.declared.fact.Fact.{Fact}
use Rattle.gi_desk.proofs.Gatherings.{IsKnown, gathered-known}
use Rattle.gi_desk.proofs.StageLaws.{id_of-state}

abbrev pub IsSureDecision : Side → DeskState → CycleId → Decision → Type 0
IsSureDecision side s id (Meet peer) = would_record side s.point s.facts (Met id peer) ≡ true
IsSureDecision side s id (Keep part) = CanKeep id s.kept part
IsSureDecision side s id Again = Unit {0}
IsSureDecision side s id (Refused refusal) = Unit {0}

sure_test : (side : Side) (s : DeskState) (id : CycleId) (b : Bool) (d e : Decision) → IsSureDecision side s id d → IsSureDecision side s id e → IsSureDecision side s id (cond b d e)
sure_test side s id true d e first second = first
sure_test side s id false d e first second = second

-- a cycle that met records nothing
sure_again : (side : Side) (s : DeskState) (id : CycleId) (met peer : TableContents) → IsSureDecision side s id (met_again met peer)
sure_again side s id met peer = sure_test side s id (table_eq met peer) Again (Refused Conflict) tt tt

sure_part_again : (side : Side) (s : DeskState) (id : CycleId) (cycle : MatchedCycle) (part : Part) → IsSureDecision side s id (part_again cycle part)
sure_part_again side s id cycle part =
    sure_test side s id (are_among part.processed.rows cycle.peer.rows && are_among (rows_of part.confirmed) cycle.confirmed.rows) Again (Refused Conflict) tt tt

sure_unless : (side : Side) (s : DeskState) (id : CycleId) (o : Option ℕ) (d : Decision) → IsSureDecision side s id d → IsSureDecision side s id (unless_differs o d)
sure_unless side s id None d is = is
sure_unless side s id (Some row) d is = tt

-- ---- a frozen cycle can meet a table for its hours that has few rows

sure_met : (side : Side) (s : DeskState) (id : CycleId) (cycle : FrozenCycle) (peer : TableContents) → state_of side s.facts id ≡ Frozen cycle → same_hours cycle.own peer ≡ true
    → length peer.rows ≤ most_processed_rows → would_record side s.point s.facts (Met id peer) ≡ true
sure_met side s id cycle peer is hours few = and_from _ _ (ap (can_meet peer) is ∙ hours) (grind (arith, nat_tests, few))

-- the tables of all parts, or that a part is kept
abbrev IsSureOf : Side → DeskState → CycleId → Gathered → Type 0
IsSureOf side s id (gathers.Complete whole) = would_record side s.point s.facts (Met id whole.processed) ≡ true
IsSureOf side s id (gathers.Keep part) = CanKeep id s.kept part
IsSureOf side s id (gathers.Refused fault) = Unit {0}

sure_of : (side : Side) (s : DeskState) (id : CycleId) (cycle : FrozenCycle) (part : Part) (got : Gathered) → state_of side s.facts id ≡ Frozen cycle → same_hours cycle.own part.processed ≡ true
    → IsKnown id s.kept part got → IsSureOf side s id got
sure_of side s id cycle part (gathers.Complete whole) is hours known =
    let own = cycle.own in
    let peer = whole.processed in
    let as_well : same_hours own peer ≡ same_hours own part.processed = λ t. nat_eq own.first (sym known.hours.first t) && nat_eq own.last (sym known.hours.last t) in
    sure_met side s id cycle peer is (as_well ∙ hours) known.few
sure_of side s id cycle part (gathers.Keep one) is hours known = known
sure_of side s id cycle part (gathers.Refused fault) is hours known = tt

-- the state of a cycle is of that cycle
frozen_id : (side : Side) (facts : List Fact) (id : CycleId) (cycle : FrozenCycle) → state_of side facts id ≡ Frozen cycle → cycle.id ≡ id
frozen_id side facts id cycle is = ap id_of (sym is) ∙ id_of-state side facts id

sure_gathered : (side : Side) (s : DeskState) (id : CycleId) (cycle : FrozenCycle) (part : Part) → state_of side s.facts id ≡ Frozen cycle → IsSent part → same_hours cycle.own part.processed ≡ true
    → IsSureOf side s id (gathered cycle.id s.kept part)
sure_gathered side s id cycle part is sent hours =
    subst (λ (a : CycleId). IsSureOf side s id (gathered a s.kept part)) (sym (frozen_id side s.facts id cycle is))
    (sure_of side s id cycle part (gathered id s.kept part) is hours (gathered-known id s.kept part sent))

sure_ordered : (side : Side) (s : DeskState) (id : CycleId) (got : Gathered) → IsSureOf side s id got → IsSureDecision side s id (ordered got)
sure_ordered side s id (gathers.Complete whole) is = is
sure_ordered side s id (gathers.Keep part) is = is
sure_ordered side s id (gathers.Refused fault) is = tt

sure_responded : (side : Side) (s : DeskState) (id : CycleId) (own : TableContents) (got : Gathered) → IsSureOf side s id got → IsSureDecision side s id (responded own got)
sure_responded side s id own (gathers.Complete whole) is = sure_unless side s id (difference (rows_of whole.confirmed) (lesser_of own whole.processed).rows) (Meet whole.processed) is
sure_responded side s id own (gathers.Keep part) is = is
sure_responded side s id own (gathers.Refused fault) is = tt

-- ---- the decisions of both sides

hours_by : (side : Side) (s : DeskState) (id : CycleId) (b : Bool) (d : Decision) → (b ≡ true → IsSureDecision side s id d) → IsSureDecision side s id (cond b d (Refused ShapeDiffers))
hours_by side s id true d is = is refl
hours_by side s id false d is = tt

pub sure_order : (side : Side) (s : DeskState) (id : CycleId) (part : Part) (state : CycleState) → state_of side s.facts id ≡ state → IsSent part
    → IsSureDecision side s id (by_order s.kept part state)
sure_order side s id part (Collecting other) is sent = tt
sure_order side s id part (Frozen cycle) is sent =
    hours_by side s id (same_hours cycle.own part.processed) (ordered (gathered cycle.id s.kept part))
    (λ hours. sure_ordered side s id (gathered cycle.id s.kept part) (sure_gathered side s id cycle part is sent hours))
sure_order side s id part (Matched cycle) is sent =
    hours_by side s id (same_hours cycle.own part.processed) (cond (is_whole part) (met_again cycle.peer part.processed) (part_again cycle part))
    (λ hours. sure_test side s id (is_whole part) (met_again cycle.peer part.processed) (part_again cycle part) (sure_again side s id cycle.peer part.processed) (sure_part_again side s id cycle part))

pub sure_response : (side : Side) (s : DeskState) (id : CycleId) (part : Part) (state : CycleState) → state_of side s.facts id ≡ state → IsSent part
    → IsSureDecision side s id (by_response s.kept part state)
sure_response side s id part (Collecting other) is sent = tt
sure_response side s id part (Frozen cycle) is sent =
    hours_by side s id (same_hours cycle.own part.processed) (responded cycle.own (gathered cycle.id s.kept part))
    (λ hours. sure_responded side s id cycle.own (gathered cycle.id s.kept part) (sure_gathered side s id cycle part is sent hours))
sure_response side s id part (Matched cycle) is sent =
    let again = met_again cycle.peer part.processed in
    let confirmed = rows_of part.confirmed in
    hours_by side s id (same_hours cycle.own part.processed) (cond (is_whole part) (compared cycle.own part.processed confirmed again) (part_again cycle part))
    (λ hours. sure_test side s id (is_whole part) (compared cycle.own part.processed confirmed again) (part_again cycle part)
    (sure_unless side s id (difference confirmed (lesser_of cycle.own part.processed).rows) again (sure_again side s id cycle.peer part.processed))
    (sure_part_again side s id cycle part))
