-- What the saved facts say of a cycle that met its peer's table.
use Rattle.std.proofs.Common.{arith, ◌≡◌, ◌<◌, ◌≤◌, ◌+◌, ℕ, zero, suc, List, [], ◌∷◌, ◌++◌, length, take, Bool, true, false, cond, not, nat_lt, Option, Some, None, refl, sym, ap, ◌∙◌, subst}
use Rattle.std.specs.Prelude.{option_map}
use Rattle.std.specs.Option.{option_and_then}
use Rattle.std.proofs.lemmas.Bool.{and_parts}
use Rattle.std.proofs.lemmas.List.{append_assoc}
use Rattle.std.proofs.lemmas.List.Sums.{take_while-cons}
use Rattle.gi_pairs.specs.Table.{TableContents}
use Rattle.gi_pairs.specs.declared.cycle_id.CycleId.{CycleId}
use Rattle.gi_pairs.specs.declared.side.Side.{Side}
use Rattle.gi_lesser.specs.Lesser.{lesser_of}
use Rattle.gi_cycles.specs.States.{FrozenCycle, MatchedCycle, matched_of}
use Rattle.gi_cycles.specs.declared.cycle_state.CycleState.{CycleState}
use Rattle.gi_cycles.specs.declared.cycle_state.CycleState.TheVariants.{Collecting, Matched}
use Rattle.gi_desk.specs.History.{facts_before, frozen_cycle, is_closed, is_meeting, met_by, number_of, peer_in, peer_of, state_of}
use Rattle.gi_desk.specs.Caches.{closed_state}
use Rattle.gi_desk.specs.Machine.{DeskState, bad_fact, bad_from, most_facts, would_record}
use Rattle.gi_desk.specs.Queries.{confirmed, frozen, meeting, met_saved, own_in, peer_in as peer_in_state, stage_of}
use Rattle.gi_facts.specs.declared.fact.Fact.{Fact}
use Rattle.gi_facts.specs.declared.fact.Fact.TheVariants.{Contracted, Noticed, Nominated, Closed, Met}
use Rattle.gi_desk.specs.declared.stage_name.StageName.TheVariants as stages
use Rattle.gi_facts.proofs.SameLemmas.{same_cycle-is}
use Rattle.gi_desk.proofs.CycleLaws.{none_of, recorded-meeting, unmet}
use Rattle.gi_desk.proofs.Legality.{legal-first}
use Rattle.gi_desk.proofs.StateLaws.{is_closed-more, number_of-from}

-- ---- the meeting among the first facts

-- a fact that is no meeting of the cycle has no table of it, and a meeting has
no_peer : (id : CycleId) (fact : Fact) → is_meeting id fact ≡ false → peer_in id fact ≡ None
no_peer id (Contracted contract) e = refl
no_peer id (Noticed notice) e = refl
no_peer id (Nominated document) e = refl
no_peer id (Closed other rule) e = refl
no_peer id (Met other peer) e = rw e refl

pub a_peer : (id : CycleId) (fact : Fact) → is_meeting id fact ≡ true → (peer : TableContents) × (peer_in id fact ≡ Some peer)
a_peer id (Contracted contract) e = absurd cc
a_peer id (Noticed notice) e = absurd cc
a_peer id (Nominated document) e = absurd cc
a_peer id (Closed other rule) e = absurd cc
a_peer id (Met other peer) e = (peer, rw e refl)

-- the number of the first fact that is so, by the first fact
number_here : (is : Fact → Bool) (fact : Fact) (facts : List Fact) → is fact ≡ true → number_of is (fact ∷ facts) ≡ 1
unfolding number_of facts_before
number_here is fact facts e = rw (take_while-cons (λ f. not (is f)) fact facts, e) refl

number_later : (is : Fact → Bool) (fact : Fact) (facts : List Fact) → is fact ≡ false → number_of is (fact ∷ facts) ≡ number_of is facts + 1
unfolding number_of facts_before
number_later is fact facts e = rw (take_while-cons (λ f. not (is f)) fact facts, e) (omega arith)

peer_here : (id : CycleId) (fact : Fact) (facts more : List Fact) → is_meeting id fact ≡ true → peer_of id (fact ∷ facts) ≡ peer_of id (fact ∷ more)
unfolding peer_of
peer_here id fact facts more e = let peer = a_peer id fact e in rw peer.1 refl

pub peer_later : (id : CycleId) (fact : Fact) (facts : List Fact) → is_meeting id fact ≡ false → peer_of id (fact ∷ facts) ≡ peer_of id facts
unfolding peer_of
peer_later id fact facts e = rw (no_peer id fact e) refl

pub peer_none : (id : CycleId) → peer_of id [] ≡ None
unfolding peer_of
peer_none id = refl

-- where the meeting is among the first facts, they tell its table
within_by : (id : CycleId) (b : Bool) (fact : Fact) (facts : List Fact) (n : ℕ) → is_meeting id fact ≡ b → number_of (is_meeting id) (fact ∷ facts) ≤ suc n
    → (number_of (is_meeting id) facts ≤ n → peer_of id (take n facts) ≡ peer_of id facts) → peer_of id (fact ∷ take n facts) ≡ peer_of id (fact ∷ facts)
within_by id true fact facts n e above rest = peer_here id fact (take n facts) facts e
within_by id false fact facts n e above rest =
    let later = number_later (is_meeting id) fact facts e in
    peer_later id fact (take n facts) e ∙ rest (omega (arith, later, above)) ∙ sym (peer_later id fact facts e)

pub peer_of-within : (id : CycleId) (facts : List Fact) (n : ℕ) → number_of (is_meeting id) facts ≤ n → peer_of id (take n facts) ≡ peer_of id facts
peer_of-within id [] zero above = refl
peer_of-within id [] (suc n) above = refl
peer_of-within id (fact ∷ facts) zero above = absurd (omega (arith, number_of-from (is_meeting id) (fact ∷ facts), above))
peer_of-within id (fact ∷ facts) (suc n) above = within_by id (is_meeting id fact) fact facts n refl above (peer_of-within id facts n)

-- where it is later, they tell none
beyond_by : (id : CycleId) (b : Bool) (fact : Fact) (facts : List Fact) (n : ℕ) → is_meeting id fact ≡ b → suc n < number_of (is_meeting id) (fact ∷ facts)
    → (n < number_of (is_meeting id) facts → peer_of id (take n facts) ≡ None) → peer_of id (fact ∷ take n facts) ≡ None
beyond_by id true fact facts n e below rest = absurd (omega (arith, number_here (is_meeting id) fact facts e, below))
beyond_by id false fact facts n e below rest =
    let later = number_later (is_meeting id) fact facts e in
    peer_later id fact (take n facts) e ∙ rest (omega (arith, later, below))

pub peer_of-beyond : (id : CycleId) (facts : List Fact) (n : ℕ) → n < number_of (is_meeting id) facts → peer_of id (take n facts) ≡ None
peer_of-beyond id [] zero below = peer_none id
peer_of-beyond id [] (suc n) below = peer_none id
peer_of-beyond id (fact ∷ facts) zero below = peer_none id
peer_of-beyond id (fact ∷ facts) (suc n) below = beyond_by id (is_meeting id fact) fact facts n refl below (peer_of-beyond id facts n)

-- ---- a cycle that met is closed

meeting_closes : (side : Side) (point : List ℕ) (before : List Fact) (fact : Fact) (id : CycleId) → is_meeting id fact ≡ true → would_record side point before fact ≡ true
    → is_closed id before ≡ true
meeting_closes side point before (Contracted contract) id is e = absurd cc
meeting_closes side point before (Noticed notice) id is e = absurd cc
meeting_closes side point before (Nominated document) id is e = absurd cc
meeting_closes side point before (Closed other rule) id is e = absurd cc
meeting_closes side point before (Met other peer) id is e = subst (λ (cycle : CycleId). is_closed cycle before ≡ true) (same_cycle-is other id is) (recorded-meeting side point before other peer e).closed

met_by_test : (side : Side) (point : List ℕ) (before : List Fact) (fact : Fact) (later : List Fact) (id : CycleId) (peer : TableContents) (b : Bool) → is_meeting id fact ≡ b
    → would_record side point before fact ≡ true → peer_of id (fact ∷ later) ≡ Some peer
    → (peer_of id later ≡ Some peer → is_closed id ((before ++ fact ∷ []) ++ later) ≡ true) → is_closed id (before ++ fact ∷ later) ≡ true
met_by_test side point before fact later id peer true is recorded met rest = is_closed-more id before (fact ∷ later) (meeting_closes side point before fact id is recorded)
met_by_test side point before fact later id peer false is recorded met rest =
    subst (λ (facts : List Fact). is_closed id facts ≡ true) (append_assoc before (fact ∷ []) later) (rest (sym (peer_later id fact later is) ∙ met))

met_from : (side : Side) (point : List ℕ) (before later : List Fact) (id : CycleId) (peer : TableContents) → bad_from side point before later ≡ None
    → peer_of id later ≡ Some peer → is_closed id (before ++ later) ≡ true
met_from side point before [] id peer e met = absurd (cc (peer_none id))
met_from side point before (fact ∷ later) id peer e met =
    let first = legal-first side point before fact later e in
    met_by_test side point before fact later id peer (is_meeting id fact) refl (and_parts (would_record side point before fact) (nat_lt (length before) most_facts) first.0).0 met
    (met_from side point (before ++ fact ∷ []) later id peer first.1)

pub met_closed : (side : Side) (point : List ℕ) (facts : List Fact) (id : CycleId) (peer : TableContents) → bad_fact side point facts ≡ None → peer_of id facts ≡ Some peer
    → is_closed id facts ≡ true
unfolding bad_fact
met_closed side point facts id peer e met = met_from side point [] facts id peer e met

-- of legal facts a cycle that met is matched
pub met_matched : (side : Side) (point : List ℕ) (facts : List Fact) (id : CycleId) (peer : TableContents) → bad_fact side point facts ≡ None → peer_of id facts ≡ Some peer
    → closed_state side facts id ≡ Some (Matched (matched_of (frozen_cycle side facts id) peer))
unfolding state_of
met_matched side point facts id peer e met = rw (met_closed side point facts id peer e met, met) refl

-- a cycle that is not closed collects
collects_by : (b : Bool) (state : CycleState) (id : CycleId) → cond b (Some (cond b state (Collecting id))) None ≡ None → stage_of (cond b state (Collecting id)) ≡ stages.Collecting
collects_by true state id e = absurd cc
collects_by false state id e = refl

pub collects : (side : Side) (facts : List Fact) (id : CycleId) → closed_state side facts id ≡ None → stage_of (state_of side facts id) ≡ stages.Collecting
unfolding state_of
collects side facts id e = collects_by (is_closed id facts) (met_by (frozen_cycle side facts id) (peer_of id facts)) id e

-- ---- what is confirmed

confirmed_by : (cycle : FrozenCycle) (o : Option TableContents) → option_map (λ (met : MatchedCycle). met.confirmed) (option_map (matched_of cycle) o) ≡ option_map (lesser_of cycle.own) o
confirmed_by cycle None = refl
confirmed_by cycle (Some peer) = refl

-- of a cycle that a saved fact met
pub confirmed-met : (side : Side) (s : DeskState) (id : CycleId) (o : Option MatchedCycle) → o ≡ met_saved side s id → option_map (λ (met : MatchedCycle). met.confirmed) o ≡ confirmed side s id
unfolding confirmed met_saved
confirmed-met side s id o e =
    ap (option_map (λ (met : MatchedCycle). met.confirmed)) e ∙ confirmed_by (frozen_cycle side s.facts id) (peer_of id (take s.saved s.facts))

-- ---- the tables of a cycle, by all facts

own_by : (cycle : FrozenCycle) (o : Option TableContents) → own_in (met_by cycle o) ≡ Some cycle.own
own_by cycle None = refl
own_by cycle (Some peer) = refl

frozen_by : (closed : Bool) (cycle : FrozenCycle) (o : Option TableContents) (id : CycleId)
    → option_and_then own_in (cond closed (Some (cond closed (met_by cycle o) (Collecting id))) None) ≡ cond closed (Some cycle.own) None
frozen_by true cycle o id = own_by cycle o
frozen_by false cycle o id = refl

pub frozen-read : (side : Side) (facts : List Fact) (id : CycleId) (o : Option CycleState) → o ≡ closed_state side facts id → option_and_then own_in o ≡ frozen side facts id
unfolding state_of frozen
frozen-read side facts id o e = ap (option_and_then own_in) e ∙ frozen_by (is_closed id facts) (frozen_cycle side facts id) (peer_of id facts) id

peer_by : (cycle : FrozenCycle) (o : Option TableContents) → peer_in_state (met_by cycle o) ≡ o
peer_by cycle None = refl
peer_by cycle (Some peer) = refl

met_by_closed : (closed : Bool) (cycle : FrozenCycle) (o : Option TableContents) (id : CycleId) → (closed ≡ false → o ≡ None)
    → option_and_then peer_in_state (cond closed (Some (cond closed (met_by cycle o) (Collecting id))) None) ≡ o
met_by_closed true cycle o id none = peer_by cycle o
met_by_closed false cycle o id none = sym (none refl)

-- of legal facts a cycle that met is closed
pub peer-read : (side : Side) (point : List ℕ) (facts : List Fact) (id : CycleId) (o : Option CycleState) → bad_fact side point facts ≡ None → o ≡ closed_state side facts id
    → option_and_then peer_in_state o ≡ peer_of id facts
unfolding state_of
peer-read side point facts id o legal e =
    ap (option_and_then peer_in_state) e
    ∙ met_by_closed (is_closed id facts) (frozen_cycle side facts id) (peer_of id facts) id (λ unclosed. none_of facts id (unmet side point facts id legal unclosed))

pub meeting-read : (facts : List Fact) (id : CycleId) (n : ℕ) (o : Option TableContents) → n ≡ number_of (is_meeting id) facts → o ≡ peer_of id facts
    → option_map (λ (peer : TableContents). (n, peer)) o ≡ meeting facts id
unfolding meeting
meeting-read facts id n o n_is o_is = λ t. option_map (λ (peer : TableContents). (n_is t, peer)) (o_is t)
