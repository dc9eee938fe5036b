-- Which facts and states can be written.
use Rattle.std.proofs.Common.{◌≡◌, ℕ, zero, suc, ◌+◌, ◌≤◌, List, [], ◌∷◌, ◌++◌, length, count_by, Bool, true, false, cond, not, leb-true, nat_le, All, Some, None, refl, sym, ap, ◌∙◌, subst, arith}
use Rattle.std.specs.Int.{IsInRange}
use Rattle.std.specs.List.{list_all}
use Rattle.std.specs.Prelude.{slice_get}
use Rattle.std.specs.Str.{bytes_eq}
use Rattle.std.proofs.lemmas.Bool.{and_parts}
use Rattle.std.proofs.lemmas.Bool.Decides.{nat_tests}
use Rattle.std.proofs.lemmas.List.Elements.{All-cons, All-head, All-nil, All-push, All-set, All-tail}
use Rattle.std.proofs.lemmas.List.Sums.{count_by-le-length}
use Rattle.gi_day.specs.Cycles.{cycle_count, hour_count}
use Rattle.gi_day.specs.Day.{IsGasYear}
use Rattle.gi_day.proofs.DayFacts.{day_facts}
use Rattle.gi_pairs.specs.Code.{IsCode}
use Rattle.gi_pairs.specs.Limits.{most_processed_rows}
use Rattle.gi_pairs.specs.Pair.{code_at}
use Rattle.gi_pairs.specs.Table.{IsTable, TableContents}
use Rattle.gi_pairs.specs.declared.cycle_id.CycleId.{CycleId}
use Rattle.gi_pairs.specs.declared.side.Side.{Side}
use Rattle.gi_pairs.proofs.Reading.{find_all}
use Rattle.gi_lesser.specs.Lesser.{HasShapeOf, lesser_of}
use Rattle.gi_lesser.proofs.LesserLaws.{AreMatched, lesser_of-is_table}
use Rattle.gi_lesser.proofs.RowCounts.{adds-no_rows}
use Rattle.gi_messages.specs.Grammar.{FitsNominationLine, FitsNomint}
use Rattle.gi_messages.specs.Limits.{last_priority, last_version}
use Rattle.gi_messages.specs.declared.message.Nomint.{Nomint}
use Rattle.gi_messages.specs.declared.nomination_line.NominationLine.{NominationLine}
use Rattle.gi_nominations.specs.Lines.{most_lines}
use Rattle.gi_processing.specs.Processing.{HasFewOfEach, is_row_of, processed}
use Rattle.gi_processing.specs.Recording.{has_hours, is_over, notice_refusal}
use Rattle.gi_processing.specs.declared.notice.Notice.{Notice}
use Rattle.gi_processing.specs.declared.notice_fault.NoticeFault.TheVariants.{NoticeRange, PermilleRange}
use Rattle.gi_processing.specs.declared.rule.Rule.{Rule}
use Rattle.gi_cycles.specs.States.{FrozenCycle, matched_of}
use Rattle.gi_cycles.specs.declared.cycle_state.CycleState.{CycleState}
use Rattle.gi_cycles.specs.declared.cycle_state.CycleState.TheVariants.{Frozen, Matched}
use Rattle.gi_desk.specs.History.{capacity_of, closings, documents_of, frozen_cycle, is_closed, state_of}
use Rattle.gi_desk.specs.Caches.{changes_cycle, is_state_of, states_of}
use Rattle.gi_desk.specs.Machine.{bad_fact, has_priority, would_record}
use Rattle.gi_desk.specs.Writable.{FitsDesk, FitsFrozen, FitsMatched, FitsButPriority, FitsState}
use Rattle.gi_facts.specs.Writable.{FitsCycle, FitsFact, FitsNotice, FitsProcessed}
use Rattle.gi_facts.specs.Grammar.{IsWritable}
use Rattle.gi_facts.proofs.WritingLemmas.{writable_from_fits}
use Rattle.gi_facts.specs.declared.fact.Fact.{Fact}
use Rattle.gi_facts.specs.declared.fact.Fact.TheVariants.{Noticed, Nominated, Closed, Met}
use Rattle.gi_desk.proofs.CycleLaws.{IsMeeting, recorded-below, recorded-meeting}
use Rattle.gi_desk.proofs.Legality.{legal-recorded, recorded-notice}
use Rattle.gi_desk.proofs.StageLaws.{found, place_of, state-meeting, states-closed, states-met, states-other}

-- ---- the state of a closed cycle

pub state-fits : (side : Side) (facts : List Fact) (id : CycleId) → All (FitsState side) (states_of side facts) → is_closed id facts ≡ true → FitsState side (state_of side facts id)
state-fits side facts id all closed =
    find_all (FitsState side) (is_state_of id) (states_of side facts) (state_of side facts id) all
    (found side facts id ∙ ap (λ (b : Bool). cond b (Some (state_of side facts id)) None) closed)

-- a cycle that would meet the peer's table is frozen
meeting-fits : (side : Side) (facts : List Fact) (id : CycleId) (peer : TableContents) → All (FitsState side) (states_of side facts) → IsMeeting side facts id peer
    → FitsFrozen side (frozen_cycle side facts id)
meeting-fits side facts id peer all meeting = subst (FitsState side) (state-meeting side facts id peer meeting) (state-fits side facts id all meeting.closed)

-- ---- a fact that would be recorded

notice_by : (a b : Bool) → cond (not a) (Some NoticeRange) (cond b (Some PermilleRange) None) ≡ None → (a ≡ true) × (b ≡ false)
notice_by true true e = absurd cc
notice_by true false e = (refl, refl)
notice_by false b e = absurd cc

unrefused : (notice : Notice) → notice_refusal notice ≡ None → (has_hours (hour_count notice.day) notice ≡ true) × (is_over notice ≡ false)
unfolding notice_refusal
unrefused notice e = notice_by (has_hours (hour_count notice.day) notice) (is_over notice) e

pub notice-fits : (side : Side) (point : List ℕ) (before : List Fact) (notice : Notice) → would_record side point before (Noticed notice) ≡ true → IsGasYear notice.day.year → FitsNotice notice
notice-fits side point before notice e day =
    let none = unrefused notice (recorded-notice side point before notice e) in
    let hours = none.0 in
    let over = none.1 in
    let longest : IsInRange 23 25 (hour_count notice.day) = (day_facts notice.day).hours_in in
    record {
      day = day;
      begins = grind (arith, nat_tests, hours);
      ordered = grind (arith, nat_tests, hours);
      ends = grind (arith, nat_tests, hours, longest);
      firm = grind (arith, nat_tests, over);
      interruptible = grind (arith, nat_tests, over);
    }

-- lines of which all but the priorities are known to be in range
lines-fit : (lines : List NominationLine) → All FitsButPriority lines → list_all has_priority lines ≡ true → All FitsNominationLine lines
lines-fit [] named e = All-nil FitsNominationLine
lines-fit (line ∷ lines) named e =
    let parts = and_parts (has_priority line) (list_all has_priority lines) e in
    let range = and_parts (nat_le 1 line.priority) (nat_le line.priority last_priority) parts.0 in
    let own = All-head FitsButPriority line lines named in
    All-cons FitsNominationLine line lines
    (record { counterparty = own.counterparty; quantities = own.quantities; from = leb-true 1 line.priority range.0; to = leb-true line.priority last_priority range.1 })
    (lines-fit lines (All-tail FitsButPriority line lines named) parts.1)

pub nomination-fits : (side : Side) (point : List ℕ) (before : List Fact) (document : Nomint) → would_record side point before (Nominated document) ≡ true → IsCode document.point
    → IsCode document.portfolio → IsGasYear document.day.year → All FitsButPriority document.lines → FitsNomint document
nomination-fits side point before document e of_point portfolio day lines =
    let priorities = and_parts _ _ e in
    let to = and_parts _ _ priorities.0 in
    let from = and_parts _ _ to.0 in
    record {
      point = of_point;
      portfolio = portfolio;
      day = day;
      from = leb-true 1 document.version from.1;
      to = leb-true document.version last_version to.1;
      lines = lines-fit document.lines lines priorities.1;
    }

pub closing-fits : (side : Side) (point : List ℕ) (before : List Fact) (id : CycleId) (rule : Rule) → would_record side point before (Closed id rule) ≡ true → IsGasYear id.day.year → FitsCycle id
closing-fits side point before id rule e day =
    let below = recorded-below side point before id rule e in
    let few : IsInRange 35 37 (cycle_count id.day) = (day_facts id.day).count_in in
    record { day = day; cycle = omega (arith, below, few) }

pub meeting_fact-fits : (side : Side) (point : List ℕ) (before : List Fact) (id : CycleId) (peer : TableContents) → FitsDesk side point before → would_record side point before (Met id peer) ≡ true
    → IsTable peer → FitsFact (Met id peer)
meeting_fact-fits side point before id peer desk e table =
    let meeting = recorded-meeting side point before id peer e in
    let frozen = meeting-fits side before id peer desk.states meeting in
    (frozen.id, record { table = table; few = meeting.few })

-- ---- the states after one more fact

pub states_fit-other : (side : Side) (facts : List Fact) (fact : Fact) → changes_cycle fact ≡ false → All (FitsState side) (states_of side facts) → All (FitsState side) (states_of side (facts ++ fact ∷ []))
states_fit-other side facts fact other all = subst (λ (states : List CycleState). All (FitsState side) states) (sym (states-other side facts fact other)) all

pub states_fit-closed : (side : Side) (point : List ℕ) (facts : List Fact) (id : CycleId) (rule : Rule) → bad_fact side point (facts ++ Closed id rule ∷ []) ≡ None → All (FitsState side) (states_of side facts)
    → FitsCycle id → FitsProcessed (processed (capacity_of facts) (documents_of facts) side id.day id.cycle rule)
    → HasFewOfEach side (processed (capacity_of facts) (documents_of facts) side id.day id.cycle rule) → All (FitsState side) (states_of side (facts ++ Closed id rule ∷ []))
states_fit-closed side point facts id rule legal all cycle own few =
    let frozen : FrozenCycle = record { id = id; own = processed (capacity_of facts) (documents_of facts) side id.day id.cycle rule } in
    let fits : FitsFrozen side frozen = record { id = cycle; own = own; few_of_each = few } in
    subst (λ (states : List CycleState). All (FitsState side) states) (sym (states-closed side point facts id rule legal))
    (All-push (FitsState side) (states_of side facts) (Frozen frozen) all fits)

-- of each portfolio the lesser has at most all rows of the peer's table beside the own rows
told-few_rows : (side : Side) (own peer : TableContents) (portfolio : List ℕ) → HasFewOfEach side own → length peer.rows ≤ most_processed_rows
    → count_by (is_row_of side portfolio) (lesser_of own peer).rows ≤ most_lines + most_processed_rows
told-few_rows side own peer portfolio few of_peer =
    let both = adds-no_rows (λ key. bytes_eq (code_at side key.pair) portfolio) own peer in
    omega (arith, both, few portfolio, count_by-le-length (is_row_of side portfolio) peer.rows, of_peer)

matched-fits : (side : Side) (cycle : FrozenCycle) (peer : TableContents) → FitsFrozen side cycle → FitsProcessed peer → HasShapeOf cycle.own peer → FitsMatched side (matched_of cycle peer)
unfolding lesser_of
matched-fits side cycle peer frozen met shape =
    let both : AreMatched cycle.own peer =
    record { own_table = frozen.own.table; peer_table = met.table; shape = shape; own_few = frozen.own.few; peer_few = met.few } in
    record {
      id = frozen.id;
      own = frozen.own;
      few_of_each = frozen.few_of_each;
      peer = met;
      confirmed = lesser_of-is_table cycle.own peer both;
      few_told = λ portfolio. told-few_rows side cycle.own peer portfolio frozen.few_of_each met.few;
      begins = refl;
      ends = refl;
    }

pub states_fit-met : (side : Side) (point : List ℕ) (facts : List Fact) (id : CycleId) (peer : TableContents) → bad_fact side point (facts ++ Met id peer ∷ []) ≡ None
    → All (FitsState side) (states_of side facts) → FitsFact (Met id peer) → All (FitsState side) (states_of side (facts ++ Met id peer ∷ []))
states_fit-met side point facts id peer legal all fact =
    let meeting = recorded-meeting side point facts id peer (legal-recorded side point facts (Met id peer) [] legal) in
    let frozen = meeting-fits side facts id peer all meeting in
    let cycle = frozen_cycle side facts id in
    let fits : FitsMatched side (matched_of cycle peer) = matched-fits side cycle peer frozen fact.1 meeting.same_hours in
    subst (λ (states : List CycleState). All (FitsState side) states) (sym (states-met side point facts id peer legal))
    (All-set (FitsState side) (states_of side facts) (place_of side facts id) (Matched (matched_of cycle peer)) fits all)

-- ---- a desk

pub fits-none : (side : Side) (point : List ℕ) → IsCode point → FitsDesk side point []
unfolding states_of closings
fits-none side point code = record { point = code; facts = All-nil FitsFact; states = All-nil (FitsState side) }

pub fits-more : (side : Side) (point : List ℕ) (facts : List Fact) (fact : Fact) → FitsDesk side point facts → FitsFact fact → All (FitsState side) (states_of side (facts ++ fact ∷ []))
    → FitsDesk side point (facts ++ fact ∷ [])
fits-more side point facts fact desk fits states = record { point = desk.point; facts = All-push FitsFact facts fact desk.facts fits; states = states }

-- ---- a fact of a desk

fits_at : (facts : List Fact) (i : ℕ) (fact : Fact) → All FitsFact facts → slice_get facts i ≡ Some fact → FitsFact fact
fits_at [] i fact all e = absurd cc
fits_at (first ∷ facts) zero fact all e = let same : first ≡ fact = cc in subst FitsFact same (All-head FitsFact first facts all)
fits_at (first ∷ facts) (suc i) fact all e = fits_at facts i fact (All-tail FitsFact first facts all) e

pub writable_at : (facts : List Fact) (i : ℕ) (fact : Fact) → All FitsFact facts → slice_get facts i ≡ Some fact → IsWritable fact
writable_at facts i fact all e = writable_from_fits fact (fits_at facts i fact all e)
