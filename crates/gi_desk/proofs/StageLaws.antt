-- How far the closed cycles are, after one more fact.
use Rattle.std.proofs.Common.{◌≡◌, ◌+◌, ℕ, List, [], ◌∷◌, ◌++◌, map, Bool, true, false, cond, not, ◌||◌, Option, Some, None, find, filter_map, take_while, slice_get, slice_set, refl, sym, ap, ◌∙◌, subst, one-add}
use Rattle.std.specs.Option.{option_map_or}
use Rattle.std.specs.List.{list_any, cons_option, position_or_len}
use Rattle.std.proofs.lemmas.Bool.{both_ways, false_from_ne_true, or_from, or_left, or_parts, or_right}
use Rattle.std.proofs.lemmas.List.{append-nil, map_push}
use Rattle.std.proofs.lemmas.List.Elements.{filter_map-append}
use Rattle.std.proofs.lemmas.List.Folds.{list_any-append}
use Rattle.std.proofs.lemmas.List.Sums.{take_while-cons}
use Rattle.gi_pairs.specs.Table.{TableContents}
use Rattle.gi_pairs.specs.declared.cycle_id.CycleId.{CycleId}
use Rattle.gi_pairs.specs.declared.side.Side.{Side}
use Rattle.gi_processing.specs.Processing.{processed}
use Rattle.gi_processing.specs.declared.rule.Rule.{Rule}
use Rattle.gi_processing.specs.declared.rule.Rule.TheVariants.{One}
use Rattle.gi_cycles.specs.States.{FrozenCycle, matched_of}
use Rattle.gi_cycles.specs.declared.cycle_state.CycleState.{CycleState}
use Rattle.gi_cycles.specs.declared.cycle_state.CycleState.TheVariants.{Frozen, Matched}
use Rattle.gi_desk.specs.History.{capacity_of, documents_of, closing_in, closings, facts_before, frozen_cycle, frozen_table, is_closed, is_closing, met_by, peer_in, peer_of, rule_in, rule_of, state_of}
use Rattle.gi_desk.specs.Caches.{changes_cycle, closed_state, id_of, is_state_of, states_of}
use Rattle.gi_desk.specs.Machine.{bad_fact}
use Rattle.gi_facts.specs.Same.{same_cycle}
use Rattle.gi_facts.specs.declared.fact.Fact.{Fact}
use Rattle.gi_facts.specs.declared.fact.Fact.TheVariants.{Contracted, Noticed, Nominated, Closed, Met}
use Rattle.gi_facts.proofs.SameLemmas.{same_cycle-is, same_cycle-self}
use Rattle.gi_desk.proofs.CycleLaws.{IsMeeting, closes-once, is_closed-last, legal-before, none_in, none_of, peer_of-last, recorded-closing, recorded-meeting, unmet}
use Rattle.gi_desk.proofs.Legality.{legal-recorded}
use Rattle.gi_desk.proofs.StateLaws.{frozen_table-more, is_closed-more}

-- ---- the state of a cycle is found among those of the closed cycles

id_of-met : (cycle : FrozenCycle) (peer : Option TableContents) → id_of (met_by cycle peer) ≡ cycle.id
id_of-met cycle None = refl
id_of-met cycle (Some peer) = refl

pub id_of-state : (side : Side) (facts : List Fact) (id : CycleId) → id_of (state_of side facts id) ≡ id
unfolding state_of
id_of-state side facts id = by_closed (is_closed id facts) refl
  where
    by_closed : (b : Bool) → is_closed id facts ≡ b → id_of (state_of side facts id) ≡ id
    by_closed true closed = rw closed (id_of-met (frozen_cycle side facts id) (peer_of id facts))
    by_closed false unclosed = rw unclosed refl

found_by : (b : Bool) (f : CycleId → CycleState) (id other : CycleId) (rest : Option CycleState) (later : Bool) → same_cycle other id ≡ b → rest ≡ cond later (Some (f id)) None
    → cond b (Some (f other)) rest ≡ cond (b || later) (Some (f id)) None
found_by true f id other rest later same e = ap (λ (id : CycleId). Some (f id)) (same_cycle-is other id same)
found_by false f id other rest later same e = e

found_among : (f : CycleId → CycleState) → ((id : CycleId) → id_of (f id) ≡ id) → (id : CycleId) (facts : List Fact)
    → find (is_state_of id) (map f (filter_map closing_in facts)) ≡ cond (list_any (is_closing id) facts) (Some (f id)) None
found_among f of id [] = refl
found_among f of id (Contracted contract ∷ facts) = found_among f of id facts
found_among f of id (Noticed notice ∷ facts) = found_among f of id facts
found_among f of id (Nominated document ∷ facts) = found_among f of id facts
found_among f of id (Met other peer ∷ facts) = found_among f of id facts
found_among f of id (Closed other rule ∷ facts) =
    ap (λ (other' : CycleId). cond (same_cycle other' id) (Some (f other)) (find (is_state_of id) (map f (filter_map closing_in facts)))) (of other)
    ∙ found_by (same_cycle other id) f id other (find (is_state_of id) (map f (filter_map closing_in facts))) (list_any (is_closing id) facts) refl (found_among f of id facts)

pub found : (side : Side) (facts : List Fact) (id : CycleId) → find (is_state_of id) (states_of side facts) ≡ closed_state side facts id
unfolding states_of closings is_closed
found side facts id = found_among (state_of side facts) (id_of-state side facts) id facts

-- ---- a fact that changes no cycle

pub closed_same : (facts : List Fact) (fact : Fact) (id : CycleId) → is_closed id facts ≡ false → is_closing id fact ≡ false → is_closed id (facts ++ fact ∷ []) ≡ false
unfolding is_closed
closed_same facts fact id unclosed other =
    list_any-append (is_closing id) facts (fact ∷ []) ∙ or_from (list_any (is_closing id) facts) (is_closing id fact || false) unclosed (or_from (is_closing id fact) false other refl)

none_met : (facts : List Fact) (fact : Fact) (id : CycleId) → peer_in id fact ≡ None → filter_map (peer_in id) (facts ++ fact ∷ []) ≡ filter_map (peer_in id) facts
none_met facts fact id none =
    filter_map-append (peer_in id) facts (fact ∷ []) ∙ ap (λ (peer : Option TableContents). filter_map (peer_in id) facts ++ cons_option peer []) none
    ∙ append-nil (filter_map (peer_in id) facts)

pub peer_same : (facts : List Fact) (fact : Fact) (id : CycleId) → peer_in id fact ≡ None → peer_of id (facts ++ fact ∷ []) ≡ peer_of id facts
unfolding peer_of
peer_same facts fact id none = ap (λ (peers : List TableContents). slice_get peers 0) (none_met facts fact id none)

-- a fact that neither closes the cycle nor meets it leaves its state as it was
pub state-same : (side : Side) (facts : List Fact) (fact : Fact) (id : CycleId) → is_closing id fact ≡ false → peer_in id fact ≡ None
    → state_of side (facts ++ fact ∷ []) id ≡ state_of side facts id
unfolding state_of
state-same side facts fact id other none = by_closed (is_closed id facts) refl
  where
    by_closed : (b : Bool) → is_closed id facts ≡ b → state_of side (facts ++ fact ∷ []) id ≡ state_of side facts id
    by_closed true closed =
        rw (closed, is_closed-more id facts (fact ∷ []) closed, peer_same facts fact id none, frozen_table-more side facts (fact ∷ []) id closed) refl
    by_closed false unclosed = rw (unclosed, closed_same facts fact id unclosed other) refl

closings-more : (facts : List Fact) (fact : Fact) → closings (facts ++ fact ∷ []) ≡ closings facts ++ cons_option (closing_in fact) []
unfolding closings
closings-more facts fact = filter_map-append closing_in facts (fact ∷ [])

pub not_closing : (fact : Fact) (id : CycleId) → changes_cycle fact ≡ false → is_closing id fact ≡ false
not_closing (Contracted contract) id e = refl
not_closing (Noticed notice) id e = refl
not_closing (Nominated document) id e = refl
not_closing (Closed other rule) id e = absurd cc
not_closing (Met other peer) id e = refl

pub not_met : (fact : Fact) (id : CycleId) → changes_cycle fact ≡ false → peer_in id fact ≡ None
not_met (Contracted contract) id e = refl
not_met (Noticed notice) id e = refl
not_met (Nominated document) id e = refl
not_met (Closed other rule) id e = refl
not_met (Met other peer) id e = absurd cc

no_closings : (fact : Fact) → changes_cycle fact ≡ false → cons_option (closing_in fact) [] ≡ []
no_closings (Contracted contract) e = refl
no_closings (Noticed notice) e = refl
no_closings (Nominated document) e = refl
no_closings (Closed other rule) e = absurd cc
no_closings (Met other peer) e = absurd cc

pub states-other : (side : Side) (facts : List Fact) (fact : Fact) → changes_cycle fact ≡ false → states_of side (facts ++ fact ∷ []) ≡ states_of side facts
unfolding states_of
states-other side facts fact other =
    (λ i. map (λ id. state-same side facts fact id (not_closing fact id other) (not_met fact id other) i) (closings (facts ++ fact ∷ [])))
    ∙ ap (map (state_of side facts)) (closings-more facts fact ∙ ap (λ (ids : List CycleId). closings facts ++ ids) (no_closings fact other) ∙ append-nil (closings facts))

-- ---- a closing

-- two readings of the closed cycles that agree at each of them
agree_among : (f g : CycleId → CycleState) (facts : List Fact) → ((id : CycleId) → list_any (is_closing id) facts ≡ true → f id ≡ g id)
    → map f (filter_map closing_in facts) ≡ map g (filter_map closing_in facts)
agree_among f g [] same = refl
agree_among f g (Contracted contract ∷ facts) same = agree_among f g facts same
agree_among f g (Noticed notice ∷ facts) same = agree_among f g facts same
agree_among f g (Nominated document ∷ facts) same = agree_among f g facts same
agree_among f g (Met other peer ∷ facts) same = agree_among f g facts same
agree_among f g (Closed other rule ∷ facts) same =
    let here = same other (or_left (same_cycle other other) (list_any (is_closing other) facts) (same_cycle-self other)) in
    let rest = agree_among f g facts (λ id closed. same id (or_right (same_cycle other id) (list_any (is_closing id) facts) closed)) in
    λ i. here i ∷ rest i

pub all_before : (is : Fact → Bool) (facts : List Fact) (last : Fact) → list_any is facts ≡ false → is last ≡ true → take_while (λ f. not (is f)) (facts ++ last ∷ []) ≡ facts
all_before is [] last none here = take_while-cons (λ f. not (is f)) last [] ∙ rw here refl
all_before is (fact ∷ facts) last none here =
    let parts = or_parts (is fact) (list_any is facts) none in
    take_while-cons (λ f. not (is f)) fact (facts ++ last ∷ [])
    ∙ ap (λ (b : Bool). cond (not b) (fact ∷ take_while (λ f. not (is f)) (facts ++ last ∷ [])) []) parts.0
    ∙ ap (λ (fs : List Fact). fact ∷ fs) (all_before is facts last parts.1 here)

first_found : (is : Fact → Bool) (facts : List Fact) (last : Fact) → list_any is facts ≡ false → is last ≡ true → find is (facts ++ last ∷ []) ≡ Some last
first_found is [] last none here = rw here refl
first_found is (fact ∷ facts) last none here =
    let parts = or_parts (is fact) (list_any is facts) none in
    rw parts.0 (first_found is facts last parts.1 here)

rule_closed : (facts : List Fact) (id : CycleId) (rule : Rule) → is_closed id facts ≡ false → rule_of id (facts ++ Closed id rule ∷ []) ≡ rule
unfolding rule_of is_closed
rule_closed facts id rule unclosed = ap (λ (o : Option Fact). option_map_or rule_in o One) (first_found (is_closing id) facts (Closed id rule) unclosed (same_cycle-self id))

table_closed : (side : Side) (facts : List Fact) (id : CycleId) (rule : Rule) → is_closed id facts ≡ false
    → frozen_table side (facts ++ Closed id rule ∷ []) id ≡ processed (capacity_of facts) (documents_of facts) side id.day id.cycle rule
unfolding frozen_table facts_before is_closed
table_closed side facts id rule unclosed =
    let before = all_before (is_closing id) facts (Closed id rule) unclosed (same_cycle-self id) in
    let own = rule_closed facts id rule unclosed in
    λ i. processed (capacity_of (before i)) (documents_of (before i)) side id.day id.cycle (own i)

-- what is frozen when a cycle is closed
abbrev frozen_now : Side → List Fact → CycleId → Rule → FrozenCycle
frozen_now side facts id rule = record { id = id; own = processed (capacity_of facts) (documents_of facts) side id.day id.cycle rule }

pub state-closed : (side : Side) (facts : List Fact) (id : CycleId) (rule : Rule) → is_closed id facts ≡ false → peer_of id facts ≡ None
    → state_of side (facts ++ Closed id rule ∷ []) id ≡ Frozen (frozen_now side facts id rule)
unfolding state_of
state-closed side facts id rule unclosed none =
    rw (is_closed-last facts id rule, peer_same facts (Closed id rule) id refl, none)
    (ap (λ (own : TableContents). Frozen (record { id = id; own = own })) (table_closed side facts id rule unclosed))

-- a closing leaves the states of the other closed cycles as they were
closing_other : (side : Side) (facts : List Fact) (id : CycleId) (rule : Rule) (other : CycleId) → is_closed id facts ≡ false → is_closed other facts ≡ true
    → state_of side (facts ++ Closed id rule ∷ []) other ≡ state_of side facts other
closing_other side facts id rule other unclosed closed =
    state-same side facts (Closed id rule) other
    (false_from_ne_true (same_cycle id other)
    (λ same. both_ways (is_closed id facts) unclosed (subst (λ (id : CycleId). is_closed id facts ≡ true) (sym (same_cycle-is id other same)) closed)))
    refl

closing_others : (side : Side) (facts : List Fact) (id : CycleId) (rule : Rule) → is_closed id facts ≡ false
    → map (state_of side (facts ++ Closed id rule ∷ [])) (closings facts) ≡ map (state_of side facts) (closings facts)
unfolding closings is_closed
closing_others side facts id rule unclosed =
    agree_among (state_of side (facts ++ Closed id rule ∷ [])) (state_of side facts) facts (λ other closed. closing_other side facts id rule other unclosed closed)

pub states-closed : (side : Side) (point : List ℕ) (facts : List Fact) (id : CycleId) (rule : Rule) → bad_fact side point (facts ++ Closed id rule ∷ []) ≡ None
    → states_of side (facts ++ Closed id rule ∷ [])
    ≡ states_of side facts ++ Frozen (record { id = id; own = processed (capacity_of facts) (documents_of facts) side id.day id.cycle rule }) ∷ []
unfolding states_of
states-closed side point facts id rule e =
    let unclosed = recorded-closing side point facts id rule (legal-recorded side point facts (Closed id rule) [] e) in
    let none = none_of facts id (unmet side point facts id (legal-before side point facts (Closed id rule) e) unclosed) in
    let after = state_of side (facts ++ Closed id rule ∷ []) in
    let others = closing_others side facts id rule unclosed in
    let last = state-closed side facts id rule unclosed none in
    ap (map after) (closings-more facts (Closed id rule)) ∙ map_push after (closings facts) id ∙ (λ i. others i ++ last i ∷ [])

-- ---- a meeting

-- a cycle that may meet is frozen
pub state-meeting : (side : Side) (facts : List Fact) (id : CycleId) (peer : TableContents) → IsMeeting side facts id peer
    → state_of side facts id ≡ Frozen (frozen_cycle side facts id)
unfolding state_of
state-meeting side facts id peer meeting = rw (meeting.closed, meeting.unmet) refl

pub state-met : (side : Side) (facts : List Fact) (id : CycleId) (peer : TableContents) → IsMeeting side facts id peer
    → state_of side (facts ++ Met id peer ∷ []) id ≡ Matched (matched_of (frozen_cycle side facts id) peer)
unfolding state_of
state-met side facts id peer meeting =
    rw (is_closed-more id facts (Met id peer ∷ []) meeting.closed, peer_of-last facts id peer meeting.unmet, frozen_table-more side facts (Met id peer ∷ []) id meeting.closed) refl

-- a meeting leaves the states of the other cycles as they were
meeting_other : (side : Side) (facts : List Fact) (id other : CycleId) (peer : TableContents) → same_cycle other id ≡ false
    → state_of side (facts ++ Met id peer ∷ []) other ≡ state_of side facts other
meeting_other side facts id other peer differs =
    state-same side facts (Met id peer) other refl
    (none_in other (Met id peer)
    (λ met is.
    let same : id ≡ other = cc is in
    both_ways (same_cycle other id) differs (subst (λ (other : CycleId). same_cycle other id ≡ true) same (same_cycle-self id))))

-- one closing of the cycle at most
ClosesOne : CycleId → List Fact → Type 0
ClosesOne id facts = (front back : List Fact) (rule : Rule) → facts ≡ front ++ Closed id rule ∷ back → list_any (is_closing id) back ≡ false

later_set : (x : CycleState) (xs : List CycleState) (place : ℕ) (y : CycleState) → slice_set (x ∷ xs) (1 + place) y ≡ x ∷ slice_set xs place y
later_set x xs place y = ap (λ (n : ℕ). slice_set (x ∷ xs) n y) (one-add place)

meets_by : (b : Bool) (f g : CycleId → CycleState) (id other : CycleId) (rule : Rule) (facts : List Fact) (place : ℕ) → ((other : CycleId) → same_cycle other id ≡ false → g other ≡ f other)
    → ClosesOne id (Closed other rule ∷ facts) → same_cycle other id ≡ b
    → map g (filter_map closing_in facts) ≡ slice_set (map f (filter_map closing_in facts)) place (g id)
    → g other ∷ map g (filter_map closing_in facts) ≡ slice_set (f other ∷ map f (filter_map closing_in facts)) (cond (not b) (1 + place) 0) (g id)
unfolding ClosesOne
meets_by false f g id other rule facts place keeps once same e =
    (λ i. keeps other same i ∷ e i) ∙ sym (later_set (f other) (map f (filter_map closing_in facts)) place (g id))
meets_by true f g id other rule facts place keeps once same e =
    let is = same_cycle-is other id same in
    let closed_no_more = once [] facts rule (ap (λ (id : CycleId). Closed id rule ∷ facts) is) in
    let rest = agree_among g f facts
    (λ another closed.
    keeps another
    (false_from_ne_true (same_cycle another id)
    (λ here.
    both_ways (list_any (is_closing id) facts) closed_no_more
    (subst (λ (id : CycleId). list_any (is_closing id) facts ≡ true) (same_cycle-is another id here) closed)))) in
    λ i. g (is i) ∷ rest i

meets_among : (f g : CycleId → CycleState) (id : CycleId) → ((id : CycleId) → id_of (f id) ≡ id) → ((other : CycleId) → same_cycle other id ≡ false → g other ≡ f other)
    → (facts : List Fact) → ClosesOne id facts
    → map g (filter_map closing_in facts) ≡ slice_set (map f (filter_map closing_in facts)) (position_or_len (is_state_of id) (map f (filter_map closing_in facts))) (g id)
unfolding ClosesOne
meets_among f g id of keeps [] once = refl
meets_among f g id of keeps (Contracted contract ∷ facts) once =
    meets_among f g id of keeps facts (λ front back closed e. once (Contracted contract ∷ front) back closed (ap (λ (fs : List Fact). Contracted contract ∷ fs) e))
meets_among f g id of keeps (Noticed notice ∷ facts) once =
    meets_among f g id of keeps facts (λ front back closed e. once (Noticed notice ∷ front) back closed (ap (λ (fs : List Fact). Noticed notice ∷ fs) e))
meets_among f g id of keeps (Nominated document ∷ facts) once =
    meets_among f g id of keeps facts (λ front back closed e. once (Nominated document ∷ front) back closed (ap (λ (fs : List Fact). Nominated document ∷ fs) e))
meets_among f g id of keeps (Met other peer ∷ facts) once =
    meets_among f g id of keeps facts (λ front back closed e. once (Met other peer ∷ front) back closed (ap (λ (fs : List Fact). Met other peer ∷ fs) e))
meets_among f g id of keeps (Closed other rule ∷ facts) once =
    let rest = meets_among f g id of keeps facts (λ front back closed e. once (Closed other rule ∷ front) back closed (ap (λ (fs : List Fact). Closed other rule ∷ fs) e)) in
    let states = map f (filter_map closing_in facts) in
    let place = position_or_len (is_state_of id) states in
    meets_by (same_cycle other id) f g id other rule facts place keeps once refl rest
    ∙ ap (λ (named : CycleId). slice_set (f other ∷ states) (cond (not (same_cycle named id)) (1 + place) 0) (g id)) (sym (of other))

-- the place of the cycle among the closed ones
abbrev pub place_of : Side → List Fact → CycleId → ℕ
place_of side facts id = position_or_len (is_state_of id) (states_of side facts)

-- a meeting changes the state at the place of the cycle alone
pub states-met : (side : Side) (point : List ℕ) (facts : List Fact) (id : CycleId) (peer : TableContents) → bad_fact side point (facts ++ Met id peer ∷ []) ≡ None
    → states_of side (facts ++ Met id peer ∷ []) ≡ slice_set (states_of side facts) (place_of side facts id) (Matched (matched_of (frozen_cycle side facts id) peer))
unfolding states_of closings ClosesOne is_closed
states-met side point facts id peer e =
    let meeting = recorded-meeting side point facts id peer (legal-recorded side point facts (Met id peer) [] e) in
    let legal = legal-before side point facts (Met id peer) e in
    let after = state_of side (facts ++ Met id peer ∷ []) in
    let once : ClosesOne id facts = λ front back rule is. (closes-once side point front back id rule (subst (λ (all : List Fact). bad_fact side point all ≡ None) is legal)).1 in
    let ids = closings-more facts (Met id peer) ∙ append-nil (closings facts) in
    ap (map after) ids
    ∙ meets_among (state_of side facts) after id (id_of-state side facts) (λ other differs. meeting_other side facts id other peer differs) facts once
    ∙ ap (slice_set (states_of side facts) (place_of side facts id)) (state-met side facts id peer meeting)
