-- What is confirmed, from the frozen table and the peer's.
use Rattle.std.proofs.Common.{◌≡◌, ℕ, List, [], ◌∷◌, ◌++◌, length, min, take, drop, Bool, true, false, nat_lt, Option, Some, None, refl, sym, ap, ◌∙◌, subst, append_assoc}
use Rattle.std.specs.Prelude.{option_map}
use Rattle.std.proofs.lemmas.Bool.{and_parts}
use Rattle.std.proofs.lemmas.List.{take-append-drop}
use Rattle.std.proofs.lemmas.Option.{same_Some}
use Rattle.gi_pairs.specs.Table.{HasShapeOf, TableContents}
use Rattle.gi_pairs.specs.declared.cycle_id.CycleId.{CycleId}
use Rattle.gi_pairs.specs.declared.side.Side.{Side}
use Rattle.gi_lesser.specs.Lesser.{lesser_of}
use Rattle.gi_lesser.proofs.LesserLaws.{AreMatched, reading-lesser_of}
use Rattle.gi_cycles.specs.States.{matched_of}
use Rattle.gi_cycles.specs.declared.cycle_state.CycleState.TheVariants.{Matched}
use Rattle.gi_facts.proofs.SameLemmas.{same_cycle-is}
use Rattle.gi_facts.specs.Same.{same_cycle}
use Rattle.gi_facts.specs.declared.fact.Fact.{Fact}
use Rattle.gi_facts.specs.declared.fact.Fact.TheVariants.{Contracted, Noticed, Nominated, Closed, Met}
use Rattle.gi_desk.specs.History.{frozen_cycle, frozen_table, is_meeting, met_by, peer_in, peer_of, state_of}
use Rattle.gi_desk.specs.Machine.{DeskState, bad_fact, bad_from, most_facts, would_record}
use Rattle.gi_desk.specs.Queries.{confirmed}
use Rattle.gi_desk.specs.Writable.{FitsDesk, FitsMatched, FitsState}
use Rattle.gi_desk.proofs.Confirmed.{met_closed, peer_later, peer_none}
use Rattle.gi_desk.proofs.CycleLaws.{IsMeeting, recorded-meeting}
use Rattle.gi_desk.proofs.Fitting.{state-fits}
use Rattle.gi_desk.proofs.Legality.{legal-first}
use Rattle.gi_desk.proofs.StateLaws.{frozen_table-more, peer_of-more, state-closed}
use Rattle.gi_explanations.specs.Outcome.{peer_quantity, read_at}
use Rattle.gi_explanations.specs.Reduction.{processed_quantity}
use Rattle.gi_explanations.specs.declared.question.Question.{Question}
use Rattle.gi_explanations.proofs.FrozenLemmas.{frozen-reads}

-- ---- the peer's table is for the hours of the frozen one

meeting-is : (id : CycleId) (other : CycleId) (table peer : TableContents) (later : List Fact) → same_cycle other id ≡ true → peer_of id (Met other table ∷ later) ≡ Some peer → table ≡ peer
unfolding peer_of
meeting-is id other table peer later is met =
    let first : peer_in id (Met other table) ≡ Some table = rw is refl in
    let found : peer_of id (Met other table ∷ later) ≡ Some table = rw first refl in
    same_Some table peer (sym found ∙ met)

shape-here : (side : Side) (point : List ℕ) (before : List Fact) (fact : Fact) (later : List Fact) (id : CycleId) (peer : TableContents) → is_meeting id fact ≡ true
    → would_record side point before fact ≡ true → peer_of id (fact ∷ later) ≡ Some peer → HasShapeOf (frozen_table side (before ++ fact ∷ later) id) peer
shape-here side point before (Contracted contract) later id peer is e met = absurd cc
shape-here side point before (Noticed notice) later id peer is e met = absurd cc
shape-here side point before (Nominated document) later id peer is e met = absurd cc
shape-here side point before (Closed other rule) later id peer is e met = absurd cc
shape-here side point before (Met other table) later id peer is e met =
    let meeting = subst (λ (cycle : CycleId). IsMeeting side before cycle table) (same_cycle-is other id is) (recorded-meeting side point before other table e) in
    subst (λ (t : TableContents). HasShapeOf t peer) (sym (frozen_table-more side before (Met other table ∷ later) id meeting.closed))
    (subst (λ (t : TableContents). HasShapeOf (frozen_table side before id) t) (meeting-is id other table peer later is met) meeting.same_hours)

shape-by : (side : Side) (point : List ℕ) (before : List Fact) (fact : Fact) (later : List Fact) (id : CycleId) (peer : TableContents) (b : Bool) → is_meeting id fact ≡ b
    → would_record side point before fact ≡ true → peer_of id (fact ∷ later) ≡ Some peer
    → (peer_of id later ≡ Some peer → HasShapeOf (frozen_table side ((before ++ fact ∷ []) ++ later) id) peer) → HasShapeOf (frozen_table side (before ++ fact ∷ later) id) peer
shape-by side point before fact later id peer true is recorded met rest = shape-here side point before fact later id peer is recorded met
shape-by side point before fact later id peer false is recorded met rest =
    subst (λ (facts : List Fact). HasShapeOf (frozen_table side facts id) peer) (append_assoc before (fact ∷ []) later) (rest (sym (peer_later id fact later is) ∙ met))

shape-from : (side : Side) (point : List ℕ) (before later : List Fact) (id : CycleId) (peer : TableContents) → bad_from side point before later ≡ None
    → peer_of id later ≡ Some peer → HasShapeOf (frozen_table side (before ++ later) id) peer
shape-from side point before [] id peer e met = absurd (cc (peer_none id))
shape-from side point before (fact ∷ later) id peer e met =
    let first = legal-first side point before fact later e in
    shape-by side point before fact later id peer (is_meeting id fact) refl (and_parts (would_record side point before fact) (nat_lt (length before) most_facts) first.0).0 met
    (shape-from side point (before ++ fact ∷ []) later id peer first.1)

met-shape : (side : Side) (point : List ℕ) (facts : List Fact) (id : CycleId) (peer : TableContents) → bad_fact side point facts ≡ None → peer_of id facts ≡ Some peer
    → HasShapeOf (frozen_table side facts id) peer
unfolding bad_fact
met-shape side point facts id peer legal met = shape-from side point [] facts id peer legal met

-- ---- both tables are as the lesser asks

met-fits : (side : Side) (point : List ℕ) (facts : List Fact) (id : CycleId) (peer : TableContents) → bad_fact side point facts ≡ None → FitsDesk side point facts
    → peer_of id facts ≡ Some peer → FitsMatched side (matched_of (frozen_cycle side facts id) peer)
met-fits side point facts id peer legal fits met =
    let closed = met_closed side point facts id peer legal met in
    let is : state_of side facts id ≡ Matched (matched_of (frozen_cycle side facts id) peer) = state-closed side facts id closed ∙ ap (met_by (frozen_cycle side facts id)) met in
    subst (FitsState side) is (state-fits side facts id fits.states closed)

matched-tables : (side : Side) (point : List ℕ) (facts : List Fact) (id : CycleId) (peer : TableContents) → bad_fact side point facts ≡ None → FitsDesk side point facts
    → peer_of id facts ≡ Some peer → AreMatched (frozen_table side facts id) peer
matched-tables side point facts id peer legal fits met =
    let matched = met-fits side point facts id peer legal fits met in
    record {
      own_table = matched.own.table;
      peer_table = matched.peer.table;
      shape = met-shape side point facts id peer legal met;
      own_few = matched.own.few;
      peer_few = matched.peer.few;
    }

-- ---- what is confirmed

pub record IsConfirmed (side : Side) (s : DeskState) (id : CycleId) (table : TableContents) : Type 0 where
  pub peer : TableContents
  pub met : peer_of id s.facts ≡ Some peer
  pub is : lesser_of (frozen_table side s.facts id) peer ≡ table

confirmed-is : (side : Side) (s : DeskState) (id : CycleId) (table : TableContents) → confirmed side s id ≡ Some table → IsConfirmed side s id table
unfolding confirmed
confirmed-is side s id table e = by (peer_of id (take s.saved s.facts)) refl e
  where
    own : TableContents
    own = frozen_table side s.facts id

    by : (o : Option TableContents) → peer_of id (take s.saved s.facts) ≡ o → option_map (lesser_of own) o ≡ Some table → IsConfirmed side s id table
    by None met found = absurd cc
    by (Some peer) met found = record {
      peer = peer;
      met = ap (peer_of id) (sym (take-append-drop s.saved s.facts)) ∙ peer_of-more id (take s.saved s.facts) (drop s.saved s.facts) peer met;
      is = same_Some (lesser_of own peer) table found;
    }

pub confirmed-reads : (side : Side) (s : DeskState) (q : Question) (table : TableContents) → bad_fact side s.point s.facts ≡ None → FitsDesk side s.point s.facts
    → confirmed side s q.id ≡ Some table
    → (peer : ℕ) × (peer_quantity s.facts q ≡ Some peer) × (read_at q table ≡ min (processed_quantity side s.facts q) peer)
confirmed-reads side s q table legal fits e =
    let found = confirmed-is side s q.id table e in
    let own = frozen_table side s.facts q.id in
    let closed = met_closed side s.point s.facts q.id found.peer legal found.met in
    let frozen = frozen-reads side s.point s.facts q legal fits closed in (
      read_at q found.peer,
      ap (option_map (read_at q)) found.met,
      ap (read_at q) (sym found.is) ∙ reading-lesser_of own found.peer q.pair q.direction q.hour (matched-tables side s.point s.facts q.id found.peer legal fits found.met)
          ∙ ap (λ n. min n (read_at q found.peer)) (sym frozen),
    )
