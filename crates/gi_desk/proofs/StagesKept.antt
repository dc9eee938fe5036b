-- The stages that a desk keeps, after one more fact.
use Rattle.std.proofs.Common.{◌≡◌, ◌≤◌, ◌+◌, ℕ, List, [], ◌∷◌, ◌++◌, length, Bool, true, false, cond, ◌||◌, Option, Some, None, is_some, nat_eq, refl, sym, ap, ◌∙◌}
use Rattle.std.specs.Prelude.{option_map}
use Rattle.std.specs.BTreeMap.{is_at}
use Rattle.std.specs.Cmp.{both_tied, unsigned_ties}
use Rattle.std.specs.List.{list_any}
use Rattle.std.specs.Ordering.{int_cmp, nat_cmp}
use Rattle.jiff_core.specs.Date.{epoch_day}
use Rattle.gi_day.specs.SameDay.{same_day}
use Rattle.std.proofs.lemmas.Option.{same_Some}
use Rattle.gi_pairs.specs.CycleId.{answered}
use Rattle.gi_pairs.specs.Limits.{most_processed_rows}
use Rattle.gi_pairs.specs.Table.{TableContents}
use Rattle.gi_pairs.specs.declared.cycle_id.CycleId.{CycleId}
use Rattle.gi_pairs.specs.declared.side.Side.{Side}
use Rattle.gi_processing.specs.Processing.{processed}
use Rattle.gi_processing.specs.declared.rule.Rule.{Rule}
use Rattle.gi_lesser.specs.Lesser.{HasShapeOf}
use Rattle.gi_cycles.specs.States.{FrozenCycle, matched_of}
use Rattle.gi_cycles.specs.declared.cycle_state.CycleState.TheVariants.{Frozen, Matched}
use Rattle.gi_desk.specs.History.{capacity_of, documents_of, facts_before, frozen_cycle, frozen_table, is_closed, is_closing, is_meeting, number_of, peer_in, peer_of}
use Rattle.gi_desk.specs.Caches.{changes_cycle}
use Rattle.gi_desk.specs.Machine.{bad_fact}
use Rattle.gi_desk.specs.Stages.{AreStages, closed_stage, stage_at, stage_in}
use Rattle.gi_desk.specs.declared.stage.Stage.{Stage}
use Rattle.gi_facts.specs.Same.{same_cycle}
use Rattle.gi_facts.specs.declared.fact.Fact.{Fact}
use Rattle.gi_facts.specs.declared.fact.Fact.TheVariants.{Closed, Met}
use Rattle.gi_facts.proofs.SameLemmas.{same_cycle-is, same_cycle-self}
use Rattle.gi_desk.proofs.Confirmed.{peer_later, peer_none, a_peer}
use Rattle.gi_desk.proofs.CycleLaws.{is_closed-last, legal-before, none_of, peer_of-last, recorded-closing, recorded-meeting, unmet}
use Rattle.gi_desk.proofs.Legality.{legal-recorded}
use Rattle.gi_desk.proofs.StageLaws.{all_before, closed_same, not_closing, not_met, peer_same, state-closed, state-meeting, state-met, state-same}
use Rattle.gi_desk.proofs.StateLaws.{facts_before-more, is_closed-more}

-- ---- the names of cycles

-- the map's test of names is that of facts
name-same : (a b : CycleId) → is_at (answered a) b ≡ same_cycle a b
name-same a b =
    sym (both_tied (same_day a.day b.day) (nat_eq a.cycle b.cycle) (int_cmp (epoch_day a.day) (epoch_day b.day)) (nat_cmp a.cycle b.cycle) refl (unsigned_ties a.cycle b.cycle))

-- ---- the numbers of facts

pub number_of-more : (is : Fact → Bool) (facts more : List Fact) → list_any is facts ≡ true → number_of is (facts ++ more) ≡ number_of is facts
unfolding number_of
number_of-more is facts more any = ap (λ (fs : List Fact). length fs + 1) (facts_before-more is facts more any)

pub number_of-last : (is : Fact → Bool) (facts : List Fact) (last : Fact) → list_any is facts ≡ false → is last ≡ true → number_of is (facts ++ last ∷ []) ≡ length facts + 1
unfolding number_of facts_before
number_of-last is facts last none here = ap (λ (fs : List Fact). length fs + 1) (all_before is facts last none here)

-- a cycle met a table where a fact is its meeting
any_by : (id : CycleId) (fact : Fact) (facts : List Fact) (b : Bool) → is_meeting id fact ≡ b → list_any (is_meeting id) facts ≡ is_some (peer_of id facts)
    → (b || list_any (is_meeting id) facts) ≡ is_some (peer_of id (fact ∷ facts))
unfolding peer_of
any_by id fact facts true here rest = let peer = a_peer id fact here in rw peer.1 refl
any_by id fact facts false here rest = rest ∙ ap is_some (sym (peer_later id fact facts here))

pub meets-any : (id : CycleId) (facts : List Fact) → list_any (is_meeting id) facts ≡ is_some (peer_of id facts)
meets-any id [] = ap is_some (sym (peer_none id))
meets-any id (fact ∷ facts) =
    ap (λ b. b || list_any (is_meeting id) facts) refl ∙ any_by id fact facts (is_meeting id fact) refl (meets-any id facts)

-- ---- a fact that neither closes the cycle nor meets it

meeting_same : (facts : List Fact) (fact : Fact) (id : CycleId) (o : Option TableContents) → peer_of id facts ≡ o
    → option_map (λ (peer : TableContents). number_of (is_meeting id) (facts ++ fact ∷ [])) o ≡ option_map (λ (peer : TableContents). number_of (is_meeting id) facts) o
meeting_same facts fact id None is = refl
meeting_same facts fact id (Some peer) is =
    ap (λ (n : ℕ). Some n) (number_of-more (is_meeting id) facts (fact ∷ []) (meets-any id facts ∙ ap is_some is))

stage-same : (side : Side) (facts : List Fact) (fact : Fact) (id : CycleId) → is_closing id fact ≡ false → peer_in id fact ≡ None
    → closed_stage side (facts ++ fact ∷ []) id ≡ closed_stage side facts id
unfolding is_closed
stage-same side facts fact id other none = by_closed (is_closed id facts) refl
  where
    by_closed : (b : Bool) → is_closed id facts ≡ b → closed_stage side (facts ++ fact ∷ []) id ≡ closed_stage side facts id
    by_closed false unclosed =
        ap (λ (b : Bool). cond b (Some (stage_at side (facts ++ fact ∷ []) id)) None) (closed_same facts fact id unclosed other)
        ∙ ap (λ (b : Bool). cond b (Some (stage_at side facts id)) None) (sym unclosed)
    by_closed true closed =
        let state = state-same side facts fact id other none in
        let closing = number_of-more (is_closing id) facts (fact ∷ []) closed in
        let meeting : option_map (λ (peer : TableContents). number_of (is_meeting id) (facts ++ fact ∷ [])) (peer_of id (facts ++ fact ∷ [])) ≡ option_map (λ (peer : TableContents). number_of (is_meeting id) facts) (peer_of id facts) =
        ap (option_map (λ (peer : TableContents). number_of (is_meeting id) (facts ++ fact ∷ []))) (peer_same facts fact id none) ∙ meeting_same facts fact id (peer_of id facts) refl in
        ap (λ (b : Bool). cond b (Some (stage_at side (facts ++ fact ∷ []) id)) None) (is_closed-more id facts (fact ∷ []) closed)
        ∙ (λ i. Some (record { state = state i; closing = closing i; meeting = meeting i }))
        ∙ ap (λ (b : Bool). cond b (Some (stage_at side facts id)) None) (sym closed)

-- the stages of all cycles
pub stages-other : (side : Side) (point : List ℕ) (facts : List Fact) (fact : Fact) (entries : List (CycleId × Stage)) → changes_cycle fact ≡ false → bad_fact side point (facts ++ fact ∷ []) ≡ None
    → AreStages side point facts entries → AreStages side point (facts ++ fact ∷ []) entries
stages-other side point facts fact entries other legal stages = record {
  legal = legal;
  at = λ id. stages.at id ∙ sym (stage-same side facts fact id (not_closing fact id other) (not_met fact id other));
}

-- ---- a closing

none_meets : (o : Option TableContents) (n : ℕ) → o ≡ None → option_map (λ (peer : TableContents). n) o ≡ None
none_meets o n e = ap (option_map (λ (peer : TableContents). n)) e

stage-closed : (side : Side) (point : List ℕ) (facts : List Fact) (id : CycleId) (rule : Rule) (cycle : FrozenCycle) (number : ℕ) → bad_fact side point (facts ++ Closed id rule ∷ []) ≡ None
    → cycle ≡ record { id = id; own = processed (capacity_of facts) (documents_of facts) side id.day id.cycle rule } → number ≡ length facts + 1
    → closed_stage side (facts ++ Closed id rule ∷ []) id ≡ Some (record { state = Frozen cycle; closing = number; meeting = None })
unfolding is_closed
stage-closed side point facts id rule cycle number e frozen number_is =
    let unclosed = recorded-closing side point facts id rule (legal-recorded side point facts (Closed id rule) [] e) in
    let none = none_of facts id (unmet side point facts id (legal-before side point facts (Closed id rule) e) unclosed) in
    let state = state-closed side facts id rule unclosed none ∙ ap Frozen (sym frozen) in
    let closing = number_of-last (is_closing id) facts (Closed id rule) unclosed (same_cycle-self id) ∙ sym number_is in
    let meeting = none_meets (peer_of id (facts ++ Closed id rule ∷ [])) (number_of (is_meeting id) (facts ++ Closed id rule ∷ [])) (peer_same facts (Closed id rule) id refl ∙ none) in
    ap (λ (b : Bool). cond b (Some (stage_at side (facts ++ Closed id rule ∷ []) id)) None) (is_closed-last facts id rule)
    ∙ (λ i. Some (record { state = state i; closing = closing i; meeting = meeting i }))

-- what a map has once a name is put into it or the value of a name is changed
abbrev pub Puts : List (CycleId × Stage) → List (CycleId × Stage) → CycleId → Stage → Type 0
Puts old new id stage = (other : CycleId) → stage_in new other ≡ cond (is_at (answered id) other) (Some stage) (stage_in old other)

put_by : (side : Side) (facts : List Fact) (fact : Fact) (old new : List (CycleId × Stage)) (id other : CycleId) (stage : Stage) (b : Bool) → is_at (answered id) other ≡ b
    → Puts old new id stage → closed_stage side (facts ++ fact ∷ []) id ≡ Some stage → stage_in old other ≡ closed_stage side facts other
    → (same_cycle id other ≡ false → closed_stage side (facts ++ fact ∷ []) other ≡ closed_stage side facts other) → stage_in new other ≡ closed_stage side (facts ++ fact ∷ []) other
put_by side facts fact old new id other stage true is puts here at same =
    puts other ∙ ap (λ (b : Bool). cond b (Some stage) (stage_in old other)) is ∙ sym here ∙ ap (closed_stage side (facts ++ fact ∷ [])) (same_cycle-is id other (sym (name-same id other) ∙ is))
put_by side facts fact old new id other stage false is puts here at same =
    puts other ∙ ap (λ (b : Bool). cond b (Some stage) (stage_in old other)) is ∙ at ∙ sym (same (sym (name-same id other) ∙ is))

pub stages-closed : (side : Side) (point : List ℕ) (facts : List Fact) (id : CycleId) (rule : Rule) (cycle : FrozenCycle) (number : ℕ) (old new : List (CycleId × Stage)) → bad_fact side point (facts ++ Closed id rule ∷ []) ≡ None
    → AreStages side point facts old → cycle ≡ record { id = id; own = processed (capacity_of facts) (documents_of facts) side id.day id.cycle rule } → number ≡ length facts + 1
    → Puts old new id (record { state = Frozen cycle; closing = number; meeting = None }) → AreStages side point (facts ++ Closed id rule ∷ []) new
stages-closed side point facts id rule cycle number old new e stages frozen number_is puts = record {
  legal = e;
  at = λ other. put_by side facts (Closed id rule) old new id other (record { state = Frozen cycle; closing = number; meeting = None }) (is_at (answered id) other) refl puts
      (stage-closed side point facts id rule cycle number e frozen number_is) (stages.at other) (λ differs. stage-same side facts (Closed id rule) other differs refl);
}

-- ---- a meeting

stage-met : (side : Side) (point : List ℕ) (facts : List Fact) (id : CycleId) (peer : TableContents) (number : ℕ) → bad_fact side point (facts ++ Met id peer ∷ []) ≡ None → number ≡ length facts + 1
    → closed_stage side (facts ++ Met id peer ∷ []) id
    ≡ Some (record { state = Matched (matched_of (frozen_cycle side facts id) peer); closing = number_of (is_closing id) facts; meeting = Some number })
unfolding is_closed
stage-met side point facts id peer number e number_is =
    let later = facts ++ Met id peer ∷ [] in
    let meeting = recorded-meeting side point facts id peer (legal-recorded side point facts (Met id peer) [] e) in
    let state = state-met side facts id peer meeting in
    let closing = number_of-more (is_closing id) facts (Met id peer ∷ []) meeting.closed in
    let place = number_of-last (is_meeting id) facts (Met id peer) (meets-any id facts ∙ ap is_some meeting.unmet) (same_cycle-self id) ∙ sym number_is in
    let met : option_map (λ (table : TableContents). number_of (is_meeting id) later) (peer_of id later) ≡ Some number =
    ap (option_map (λ (table : TableContents). number_of (is_meeting id) later)) (peer_of-last facts id peer meeting.unmet) ∙ ap (λ (n : ℕ). Some n) place in
    ap (λ (b : Bool). cond b (Some (stage_at side later id)) None) (is_closed-more id facts (Met id peer ∷ []) meeting.closed)
    ∙ (λ i. Some (record { state = state i; closing = closing i; meeting = met i }))

differs_met : (id other : CycleId) (peer : TableContents) → same_cycle id other ≡ false → peer_in other (Met id peer) ≡ None
differs_met id other peer differs = ap (λ (b : Bool). cond b (Some peer) None) differs

pub stages-met : (side : Side) (point : List ℕ) (facts : List Fact) (id : CycleId) (peer : TableContents) (number : ℕ) (old new : List (CycleId × Stage)) → bad_fact side point (facts ++ Met id peer ∷ []) ≡ None
    → AreStages side point facts old → number ≡ length facts + 1
    → Puts old new id (record { state = Matched (matched_of (frozen_cycle side facts id) peer); closing = number_of (is_closing id) facts; meeting = Some number }) → AreStages side point (facts ++ Met id peer ∷ []) new
stages-met side point facts id peer number old new e stages number_is puts = record {
  legal = e;
  at = λ other. put_by side facts (Met id peer) old new id other
      (record { state = Matched (matched_of (frozen_cycle side facts id) peer); closing = number_of (is_closing id) facts; meeting = Some number }) (is_at (answered id) other) refl puts
      (stage-met side point facts id peer number e number_is) (stages.at other) (λ differs. stage-same side facts (Met id peer) other refl (differs_met id other peer differs));
}

-- ---- a cycle that may meet the peer's table

-- its stage, as a desk finds it
pub record IsStageToMeet (side : Side) (facts : List Fact) (id : CycleId) (peer : TableContents) (stage : Stage) : Type 0 where
  pub is : stage ≡ stage_at side facts id
  pub frozen : stage.state ≡ Frozen (frozen_cycle side facts id)
  pub same_hours : HasShapeOf (frozen_table side facts id) peer
  pub few : length peer.rows ≤ most_processed_rows

pub stage-kept : (side : Side) (point : List ℕ) (facts : List Fact) (id : CycleId) (peer : TableContents) (entries : List (CycleId × Stage)) → AreStages side point facts entries
    → bad_fact side point (facts ++ Met id peer ∷ []) ≡ None → stage_in entries id ≡ Some (stage_at side facts id)
stage-kept side point facts id peer entries are e =
    let meeting = recorded-meeting side point facts id peer (legal-recorded side point facts (Met id peer) [] e) in
    are.at id ∙ ap (λ (b : Bool). cond b (Some (stage_at side facts id)) None) meeting.closed

pub stage-to-meet : (side : Side) (point : List ℕ) (facts : List Fact) (id : CycleId) (peer : TableContents) (entries : List (CycleId × Stage)) (stage : Stage) → AreStages side point facts entries
    → bad_fact side point (facts ++ Met id peer ∷ []) ≡ None → Some stage ≡ stage_in entries id → IsStageToMeet side facts id peer stage
stage-to-meet side point facts id peer entries stage are e found =
    let meeting = recorded-meeting side point facts id peer (legal-recorded side point facts (Met id peer) [] e) in
    let is = same_Some stage (stage_at side facts id) (found ∙ stage-kept side point facts id peer entries are e) in
    record {
      is = is;
      frozen = ap (λ (s : Stage). s.state) is ∙ state-meeting side facts id peer meeting;
      same_hours = meeting.same_hours;
      few = meeting.few;
    }
