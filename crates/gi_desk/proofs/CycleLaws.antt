-- Of legal facts one at most closes a cycle, and one at most meets it, after its closing.
use Rattle.std.proofs.Common.{◌≡◌, ◌<◌, ◌≤◌, ℕ, List, [], ◌∷◌, ◌++◌, length, Bool, true, false, cond, not, ◌&&◌, ◌||◌, nat_eq, nat_le, nat_lt, Option, Some, None, filter_map, slice_get, refl, sym, ap, ◌∙◌, subst, eqb-true, leb-true, ltb-true}
use Rattle.std.specs.List.{list_any, cons_option}
use Rattle.std.proofs.lemmas.Bool.{and_parts, both_ways, false_from_ne_true, or_from, or_right}
use Rattle.std.proofs.lemmas.List.{append_assoc}
use Rattle.std.proofs.lemmas.List.Elements.{filter_map-append}
use Rattle.std.proofs.lemmas.List.Folds.{list_any-append}
use Rattle.gi_day.specs.Cycles.{cycle_count}
use Rattle.gi_pairs.specs.Limits.{most_processed_rows}
use Rattle.gi_pairs.specs.Table.{TableContents}
use Rattle.gi_pairs.specs.declared.cycle_id.CycleId.{CycleId}
use Rattle.gi_pairs.specs.declared.side.Side.{Side}
use Rattle.gi_lesser.specs.Lesser.{HasShapeOf}
use Rattle.gi_cycles.specs.States.{FrozenCycle}
use Rattle.gi_cycles.specs.declared.cycle_state.CycleState.{CycleState}
use Rattle.gi_cycles.specs.declared.cycle_state.CycleState.TheVariants.{Collecting, Frozen, Matched}
use Rattle.gi_desk.specs.History.{frozen_cycle, frozen_table, is_closed, is_closing, last_closed, met_by, peer_in, peer_of, state_of}
use Rattle.gi_desk.specs.Judging.{unless_later}
use Rattle.gi_desk.specs.Machine.{bad_fact, bad_from, can_meet, is_record, most_facts, would_record}
use Rattle.gi_facts.specs.Same.{same_cycle}
use Rattle.gi_facts.specs.declared.fact.Fact.{Fact}
use Rattle.gi_facts.specs.declared.fact.Fact.TheVariants.{Contracted, Noticed, Nominated, Closed, Met}
use Rattle.gi_facts.proofs.SameLemmas.{same_cycle-is, same_cycle-self}
use Rattle.gi_desk.specs.declared.outcome.Outcome.{Outcome}
use Rattle.gi_desk.specs.declared.outcome.Outcome.TheVariants.{Records, Refuses}
use Rattle.gi_desk.specs.declared.refusal.Refusal.TheVariants.{AlreadyClosed, NoSuchCycle}
use Rattle.gi_desk.proofs.Legality.{legal-first, legal-parts, legal-recorded}
use Rattle.gi_desk.proofs.StateLaws.{is_closed-more, peer_of-more}
use Rattle.gi_processing.specs.declared.rule.Rule.{Rule}

-- ---- what is known of a closing and of a meeting that would be recorded

closing_by : (beyond closed : Bool) (next : Outcome) → is_record (cond beyond (Refuses NoSuchCycle) (cond closed (Refuses AlreadyClosed) next)) ≡ true → closed ≡ false
closing_by true closed next e = absurd cc
closing_by false true next e = absurd cc
closing_by false false next e = refl

-- a closing is of a cycle that is not closed
pub recorded-closing : (side : Side) (point : List ℕ) (before : List Fact) (id : CycleId) (rule : Rule) → would_record side point before (Closed id rule) ≡ true → is_closed id before ≡ false
recorded-closing side point before id rule e =
    closing_by (not (nat_lt id.cycle (cycle_count id.day))) (is_closed id before) (unless_later id.cycle (last_closed id.day before) (Records (Closed id rule))) e

below_by : (b : Bool) (next : Outcome) → is_record (cond (not b) (Refuses NoSuchCycle) next) ≡ true → b ≡ true
below_by true next e = refl
below_by false next e = absurd cc

-- which its gas day has
pub recorded-below : (side : Side) (point : List ℕ) (before : List Fact) (id : CycleId) (rule : Rule) → would_record side point before (Closed id rule) ≡ true → id.cycle < cycle_count id.day
recorded-below side point before id rule e = ltb-true id.cycle (cycle_count id.day) (below_by (nat_lt id.cycle (cycle_count id.day)) _ e)

meeting_hours : (own peer : TableContents) (first last : Bool) → nat_eq own.first peer.first ≡ first → nat_eq own.last peer.last ≡ last → (first && last) ≡ true → HasShapeOf own peer
meeting_hours own peer true true first last e = record { first = eqb-true own.first peer.first first; last = eqb-true own.last peer.last last }
meeting_hours own peer true false first last e = absurd cc
meeting_hours own peer false last' first last e = absurd cc

-- the state of a cycle that may meet the peer's table
pub record MayMeet (state : CycleState) (peer : TableContents) : Type 0 where
  pub cycle : FrozenCycle
  pub frozen : state ≡ Frozen cycle
  pub same_hours : HasShapeOf cycle.own peer

meeting_by : (peer : TableContents) (state : CycleState) → can_meet peer state ≡ true → MayMeet state peer
meeting_by peer (Collecting other) e = absurd cc
meeting_by peer (Frozen cycle) e = record {
  cycle = cycle;
  frozen = refl;
  same_hours = meeting_hours cycle.own peer (nat_eq cycle.own.first peer.first) (nat_eq cycle.own.last peer.last) refl refl e;
}
meeting_by peer (Matched cycle) e = absurd cc

-- a meeting is of a cycle that is closed and has not met, for the same hours
pub record IsMeeting (side : Side) (before : List Fact) (id : CycleId) (peer : TableContents) : Type 0 where
  pub closed : is_closed id before ≡ true
  pub unmet : peer_of id before ≡ None
  pub same_hours : HasShapeOf (frozen_table side before id) peer
  pub few : length peer.rows ≤ most_processed_rows

record IsFrozenBy (b : Bool) (met : Option TableContents) (cycle other : FrozenCycle) : Type 0 where
  closed : b ≡ true
  unmet : met ≡ None
  same : cycle ≡ other

frozen_by : (b : Bool) (met : Option TableContents) (cycle other : FrozenCycle) (id : CycleId) → cond b (met_by cycle met) (Collecting id) ≡ Frozen other → IsFrozenBy b met cycle other
frozen_by true None cycle other id e = record { closed = refl; unmet = refl; same = cc }
frozen_by true (Some peer) cycle other id e = absurd cc
frozen_by false met cycle other id e = absurd cc

pub recorded-meeting : (side : Side) (point : List ℕ) (before : List Fact) (id : CycleId) (peer : TableContents) → would_record side point before (Met id peer) ≡ true
    → IsMeeting side before id peer
unfolding state_of
recorded-meeting side point before id peer e =
    let parts = and_parts (can_meet peer (state_of side before id)) (nat_le (length peer.rows) most_processed_rows) e in
    let may = meeting_by peer (state_of side before id) parts.0 in
    let frozen = frozen_by (is_closed id before) (peer_of id before) (frozen_cycle side before id) may.cycle id may.frozen in
    record {
      closed = frozen.closed;
      unmet = frozen.unmet;
      same_hours = subst (λ (cycle : FrozenCycle). HasShapeOf cycle.own peer) (sym frozen.same) may.same_hours;
      few = leb-true (length peer.rows) most_processed_rows parts.1;
    }

-- ---- what comes after

-- the facts after one of legal facts
pub legal-rest : (side : Side) (point : List ℕ) (before : List Fact) (fact : Fact) (later : List Fact) → bad_fact side point (before ++ fact ∷ later) ≡ None
    → bad_from side point (before ++ fact ∷ []) later ≡ None
unfolding bad_fact
legal-rest side point before fact later e = (legal-first side point before fact later (legal-parts side point [] before (fact ∷ later) e).1).1

-- and those before the last
pub legal-before : (side : Side) (point : List ℕ) (facts : List Fact) (last : Fact) → bad_fact side point (facts ++ last ∷ []) ≡ None → bad_fact side point facts ≡ None
unfolding bad_fact
legal-before side point facts last e = (legal-parts side point [] facts (last ∷ []) e).0

first_recorded : (side : Side) (point : List ℕ) (before : List Fact) (fact : Fact) (later : List Fact) → bad_from side point before (fact ∷ later) ≡ None
    → would_record side point before fact ≡ true
first_recorded side point before fact later e =
    (and_parts (would_record side point before fact) (nat_lt (length before) most_facts) (legal-first side point before fact later e).0).0

-- a closed cycle is not closed again
pub not_again : (side : Side) (point : List ℕ) (before : List Fact) (fact : Fact) (id : CycleId) → would_record side point before fact ≡ true → is_closed id before ≡ true
    → is_closing id fact ≡ false
not_again side point before (Contracted contract) id e closed = refl
not_again side point before (Noticed notice) id e closed = refl
not_again side point before (Nominated document) id e closed = refl
not_again side point before (Met other peer) id e closed = refl
not_again side point before (Closed other rule) id e closed =
    false_from_ne_true (same_cycle other id)
    (λ same.
    both_ways (is_closed id before)
    (recorded-closing side point before id rule (subst (λ (id : CycleId). would_record side point before (Closed id rule) ≡ true) (same_cycle-is other id same) e)) closed)

pub closed-after : (side : Side) (point : List ℕ) (before later : List Fact) (id : CycleId) → bad_from side point before later ≡ None → is_closed id before ≡ true
    → is_closed id later ≡ false
unfolding is_closed
closed-after side point before [] id e closed = refl
closed-after side point before (fact ∷ later) id e closed =
    or_from (is_closing id fact) (is_closed id later) (not_again side point before fact id (first_recorded side point before fact later e) closed)
    (closed-after side point (before ++ fact ∷ []) later id (legal-first side point before fact later e).1 (is_closed-more id before (fact ∷ []) closed))

pub is_closed-last : (facts : List Fact) (id : CycleId) (rule : Rule) → is_closed id (facts ++ Closed id rule ∷ []) ≡ true
unfolding is_closed
is_closed-last facts id rule =
    list_any-append (is_closing id) facts (Closed id rule ∷ [])
    ∙ or_right (list_any (is_closing id) facts) (same_cycle id id || false) (ap (λ (b : Bool). b || false) (same_cycle-self id))

pub closes-once : (side : Side) (point : List ℕ) (before after : List Fact) (id : CycleId) (rule : Rule) → bad_fact side point (before ++ Closed id rule ∷ after) ≡ None
    → (is_closed id before ≡ false) × (is_closed id after ≡ false)
closes-once side point before after id rule e = (
  recorded-closing side point before id rule (legal-recorded side point before (Closed id rule) after e),
  closed-after side point (before ++ Closed id rule ∷ []) after id (legal-rest side point before (Closed id rule) after e) (is_closed-last before id rule),
)

-- ---- the tables that a cycle met

meets_by : (b : Bool) (id other : CycleId) (peer : TableContents) → same_cycle other id ≡ b → (Met other peer ≡ Met id peer → ⊥) → cond b (Some peer) None ≡ None
meets_by true id other peer same not_met = absurd (not_met (ap (λ (id : CycleId). Met id peer) (same_cycle-is other id same)))
meets_by false id other peer same not_met = refl

pub none_in : (id : CycleId) (fact : Fact) → ((peer : TableContents) → fact ≡ Met id peer → ⊥) → peer_in id fact ≡ None
none_in id (Contracted contract) not_met = refl
none_in id (Noticed notice) not_met = refl
none_in id (Nominated document) not_met = refl
none_in id (Closed other rule) not_met = refl
none_in id (Met other peer) not_met = meets_by (same_cycle other id) id other peer refl (not_met peer)

meeting_at : (side : Side) (point : List ℕ) (before : List Fact) (fact : Fact) (later : List Fact) (id : CycleId) (peer : TableContents)
    → bad_from side point before (fact ∷ later) ≡ None → fact ≡ Met id peer → IsMeeting side before id peer
meeting_at side point before fact later id peer e is =
    recorded-meeting side point before id peer (subst (λ (fact : Fact). would_record side point before fact ≡ true) is (first_recorded side point before fact later e))

-- a cycle that is never closed meets none
pub unmet-from : (side : Side) (point : List ℕ) (before later : List Fact) (id : CycleId) → bad_from side point before later ≡ None → is_closed id (before ++ later) ≡ false
    → filter_map (peer_in id) later ≡ []
unmet-from side point before [] id e unclosed = refl
unmet-from side point before (fact ∷ later) id e unclosed =
    let none = none_in id fact
    (λ peer is. both_ways (is_closed id (before ++ fact ∷ later)) unclosed (is_closed-more id before (fact ∷ later) (meeting_at side point before fact later id peer e is).closed)) in
    let rest = unmet-from side point (before ++ fact ∷ []) later id (legal-first side point before fact later e).1
    (subst (λ (facts : List Fact). is_closed id facts ≡ false) (sym (append_assoc before (fact ∷ []) later)) unclosed) in
    λ i. cons_option (none i) (rest i)

pub unmet : (side : Side) (point : List ℕ) (facts : List Fact) (id : CycleId) → bad_fact side point facts ≡ None → is_closed id facts ≡ false
    → filter_map (peer_in id) facts ≡ []
unfolding bad_fact
unmet side point facts id e unclosed = unmet-from side point [] facts id e unclosed

some_none : (peer : TableContents) (o : Option TableContents) → o ≡ Some peer → o ≡ None → ⊥
some_none peer o some none = absurd (cc (some, none))

-- a cycle that met one meets no other
pub met-after : (side : Side) (point : List ℕ) (before later : List Fact) (id : CycleId) (peer : TableContents) → bad_from side point before later ≡ None
    → peer_of id before ≡ Some peer → filter_map (peer_in id) later ≡ []
met-after side point before [] id peer e met = refl
met-after side point before (fact ∷ later) id peer e met =
    let none = none_in id fact (λ other is. some_none peer (peer_of id before) met (meeting_at side point before fact later id other e is).unmet) in
    let rest = met-after side point (before ++ fact ∷ []) later id peer (legal-first side point before fact later e).1 (peer_of-more id before (fact ∷ []) peer met) in
    λ i. cons_option (none i) (rest i)

first_is : (peers : List TableContents) (peer : TableContents) → slice_get peers 0 ≡ None → slice_get (peers ++ peer ∷ []) 0 ≡ Some peer
first_is [] peer none = refl
first_is (other ∷ peers) peer none = absurd cc

pub peer_of-last : (facts : List Fact) (id : CycleId) (peer : TableContents) → peer_of id facts ≡ None → peer_of id (facts ++ Met id peer ∷ []) ≡ Some peer
unfolding peer_of
peer_of-last facts id peer none =
    ap (λ (peers : List TableContents). slice_get peers 0)
    (filter_map-append (peer_in id) facts (Met id peer ∷ [])
    ∙ ap (λ (b : Bool). filter_map (peer_in id) facts ++ cons_option (cond b (Some peer) None) []) (same_cycle-self id))
    ∙ first_is (filter_map (peer_in id) facts) peer none

pub none_of : (facts : List Fact) (id : CycleId) → filter_map (peer_in id) facts ≡ [] → peer_of id facts ≡ None
unfolding peer_of
none_of facts id none = ap (λ (peers : List TableContents). slice_get peers 0) none

pub meets-once : (side : Side) (point : List ℕ) (before after : List Fact) (id : CycleId) (peer : TableContents) → bad_fact side point (before ++ Met id peer ∷ after) ≡ None
    → (is_closed id before ≡ true) × (peer_of id before ≡ None) × (peer_of id after ≡ None)
meets-once side point before after id peer e =
    let meeting = recorded-meeting side point before id peer (legal-recorded side point before (Met id peer) after e) in
    let met = peer_of-last before id peer meeting.unmet in
    let rest = met-after side point (before ++ Met id peer ∷ []) after id peer (legal-rest side point before (Met id peer) after e) met in
    (meeting.closed, meeting.unmet, none_of after id rest)
