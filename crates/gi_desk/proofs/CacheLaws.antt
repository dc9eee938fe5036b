-- What a desk keeps stays so with one more fact.
use Rattle.std.proofs.Common.{◌≡◌, ◌<◌, ◌+◌, ℕ, List, [], ◌∷◌, ◌++◌, length, length-append, append-nil, refl, true, false, All, None, sym, ap, subst, ◌∙◌, arith}
use Rattle.std.specs.BTreeMap.{BTreeMap}
use Rattle.jiff_core.specs.declared.civil.date.Date.{Date}
use Rattle.gi_day.specs.Cycles.{IsCycle}
use Rattle.gi_day.proofs.CycleLemmas.{below_is_cycle}
use Rattle.gi_pairs.specs.Code.{IsCode}
use Rattle.gi_pairs.specs.Table.{TableContents}
use Rattle.gi_pairs.specs.declared.cycle_id.CycleId.{CycleId}
use Rattle.gi_pairs.specs.declared.side.Side.{Side}
use Rattle.gi_messages.specs.declared.message.Nomint.{Nomint}
use Rattle.gi_processing.specs.Capacity.{Capacity}
use Rattle.gi_nominations.specs.Book.{Documents, DocumentStands, in_force}
use Rattle.gi_nominations.specs.declared.portfolio_day.PortfolioDay.{PortfolioDay}
use Rattle.gi_nominations.proofs.BookLaws.{in_force-agrees}
use Rattle.gi_processing.specs.Readings.{ReadsAs, RecordsContract, RecordsNotice}
use Rattle.gi_processing.specs.Recording.{with_contract, with_notice}
use Rattle.gi_processing.proofs.ProcessingReadings.{reads-sound}
use Rattle.gi_processing.proofs.ReadingLaws.{reads-self}
use Rattle.gi_processing.specs.declared.contract.Contract.{Contract}
use Rattle.gi_processing.specs.declared.notice.Notice.{Notice}
use Rattle.gi_processing.specs.Processing.{AreSound, HasFewOfEach, processed}
use Rattle.gi_processing.specs.declared.rule.Rule.{Rule}
use Rattle.gi_desk.specs.History.{capacity_of, documents_of, is_closed}
use Rattle.gi_desk.specs.DeskRepr.{DeskInvariant, IsKept, IsRunning}
use Rattle.gi_desk.specs.Caches.{HasInForce, changes_cycle, states_of}
use Rattle.gi_desk.specs.Machine.{DeskState, bad_fact, most_facts, would_record}
use Rattle.gi_desk.specs.Stages.{AreStages, closed_stage, stage_in}
use Rattle.gi_desk.specs.Takings.{AreTakings}
use Rattle.gi_desk.specs.declared.kept.Kept.{Kept}
use Rattle.gi_desk.specs.declared.stage.Stage.{Stage}
use Rattle.gi_desk.specs.Writable.{FitsDesk, FitsState}
use Rattle.gi_facts.specs.Writable.{FitsCycle, FitsFact, FitsProcessed}
use Rattle.gi_facts.specs.declared.fact.Fact.{Fact}
use Rattle.gi_facts.specs.declared.fact.Fact.TheVariants.{Closed, Contracted, Met, Nominated, Noticed}
use Rattle.gi_desk.proofs.CycleLaws.{recorded-below}
use Rattle.gi_desk.proofs.Fitting.{fits-more, fits-none, states_fit-closed, states_fit-met, states_fit-other}
use Rattle.gi_desk.proofs.HistoryLaws.{capacity_more, no_document, same_documents, taken-more}
use Rattle.gi_desk.proofs.Legality.{legal-more, legal-sound}
use Rattle.gi_desk.proofs.StagesKept.{stages-other}
use Rattle.gi_desk.proofs.TakingLaws.{legal-rising, takings-none, takings-other}

-- ---- the book and the contracts with what one more fact records

abbrev nothing : Capacity
nothing = record { contracts = []; notices = [] }

same_capacity : (old : List Fact) (fact : Fact) → capacity_of (fact ∷ []) ≡ nothing → capacity_of (old ++ fact ∷ []) ≡ capacity_of old
same_capacity old fact none =
    let before = capacity_of old in
    capacity_more old fact
    ∙ (λ t. record { contracts = before.contracts ++ (none t).contracts; notices = before.notices ++ (none t).notices })
    ∙ (λ t. record { contracts = append-nil before.contracts t; notices = append-nil before.notices t })

contracted-more : (old : List Fact) (contract : Contract) → capacity_of (old ++ Contracted contract ∷ []) ≡ with_contract (capacity_of old) contract
unfolding capacity_of
contracted-more old contract =
    capacity_more old (Contracted contract) ∙ (λ t. record { contracts = (capacity_of old).contracts ++ contract ∷ []; notices = append-nil (capacity_of old).notices t })

noticed-more : (old : List Fact) (notice : Notice) → capacity_of (old ++ Noticed notice ∷ []) ≡ with_notice (capacity_of old) notice
unfolding capacity_of
noticed-more old notice =
    capacity_more old (Noticed notice) ∙ (λ t. record { contracts = append-nil (capacity_of old).contracts t; notices = (capacity_of old).notices ++ notice ∷ [] })

running-read : (point : List ℕ) (old new : List Fact) (book : Documents) (contracts later : Capacity) → IsRunning point old book contracts → documents_of new ≡ documents_of old
    → ReadsAs later (capacity_of new) → IsRunning point new book later
running-read point old new book contracts later running documents reads = record {
  at = running.at;
  nominations = subst (λ (ds : List Nomint). HasInForce book.documents ds) (sym documents) running.nominations;
  capacity = reads;
}

pub running-contract : (point : List ℕ) (old : List Fact) (book : Documents) (contracts new : Capacity) (contract : Contract)
    → IsRunning point old book contracts → RecordsContract contracts new contract → IsRunning point (old ++ Contracted contract ∷ []) book new
unfolding documents_of
running-contract point old book contracts new contract running records =
    running-read point old (old ++ Contracted contract ∷ []) book contracts new running (same_documents old (Contracted contract) refl)
    (subst (ReadsAs new) (sym (contracted-more old contract)) (records (capacity_of old) running.capacity))

pub running-notice : (point : List ℕ) (old : List Fact) (book : Documents) (contracts new : Capacity) (notice : Notice)
    → IsRunning point old book contracts → RecordsNotice contracts new notice → IsRunning point (old ++ Noticed notice ∷ []) book new
unfolding documents_of
running-notice point old book contracts new notice running records =
    running-read point old (old ++ Noticed notice ∷ []) book contracts new running (same_documents old (Noticed notice) refl)
    (subst (ReadsAs new) (sym (noticed-more old notice)) (records (capacity_of old) running.capacity))

pub running-taken : (point : List ℕ) (old : List Fact) (book new : Documents) (contracts : Capacity) (document : Nomint)
    → IsRunning point old book contracts → new.point ≡ book.point → DocumentStands book.documents new.documents document → IsRunning point (old ++ Nominated document ∷ []) new contracts
unfolding capacity_of
running-taken point old book new contracts document running point_is stands = record {
  at = point_is ∙ running.at;
  nominations = subst (λ (ds : List Nomint). HasInForce new.documents ds) (sym (taken-more old document))
      (in_force-agrees (documents_of old) book.documents new.documents document running.nominations stands);
  capacity = subst (ReadsAs contracts) (sym (same_capacity old (Nominated document) refl)) running.capacity;
}

running-closed : (point : List ℕ) (old : List Fact) (book : Documents) (contracts : Capacity) (id : CycleId) (rule : Rule)
    → IsRunning point old book contracts → IsRunning point (old ++ Closed id rule ∷ []) book contracts
unfolding capacity_of documents_of
running-closed point old book contracts id rule running =
    running-read point old (old ++ Closed id rule ∷ []) book contracts contracts running (same_documents old (Closed id rule) refl)
    (subst (ReadsAs contracts) (sym (same_capacity old (Closed id rule) refl)) running.capacity)

running-met : (point : List ℕ) (old : List Fact) (book : Documents) (contracts : Capacity) (id : CycleId) (peer : TableContents)
    → IsRunning point old book contracts → IsRunning point (old ++ Met id peer ∷ []) book contracts
unfolding capacity_of documents_of
running-met point old book contracts id peer running =
    running-read point old (old ++ Met id peer ∷ []) book contracts contracts running (same_documents old (Met id peer) refl)
    (subst (ReadsAs contracts) (sym (same_capacity old (Met id peer) refl)) running.capacity)

-- the numbers of takings with one more fact that takes no nomination
pub takings-same : (side : Side) (point : List ℕ) (old : List Fact) (fact : Fact) (takings : List (PortfolioDay × ℕ)) → ((document : Nomint) → fact ≡ Nominated document → ⊥) → bad_fact side point old ≡ None
    → AreTakings old takings → AreTakings (old ++ fact ∷ []) takings
takings-same side point old fact takings other legal = takings-other old fact takings (no_document fact other) (legal-rising side point old legal)

-- a desk without facts
pub kept-none : (side : Side) (point : List ℕ) (facts : List Fact) (kept : Kept) → IsCode point → facts ≡ [] → kept.stages.entries ≡ [] → kept.takings.entries ≡ []
    → kept.book ≡ record { point = point; documents = [] } → kept.contracts ≡ record { contracts = []; notices = [] } → DeskInvariant side point facts kept 0
unfolding bad_fact is_closed capacity_of documents_of
kept-none side point facts kept code none no_stage no_number no_nomination no_contract = record {
  keeps = record {
    stages = record {
      legal = ap (bad_fact side point) none;
      at = λ id. ap (λ (es : List (CycleId × Stage)). stage_in es id) no_stage ∙ ap (λ (fs : List Fact). closed_stage side fs id) (sym none);
    };
    running = record {
      at = ap (λ (d : Documents). d.point) no_nomination;
      nominations = λ portfolio day. (λ t. in_force portfolio day (no_nomination t).documents) ∙ (λ t. in_force portfolio day (documents_of (sym none t)));
      capacity = subst (λ (c : Capacity). ReadsAs kept.contracts c) (no_contract ∙ ap capacity_of (sym none)) (reads-self kept.contracts);
    };
    numbers = takings-none facts kept.takings.entries none no_number;
  };
  within = omega arith;
  fits = subst (λ (all : List Fact). FitsDesk side point all) (sym none) (fits-none side point code);
}

-- the same facts and nominations, with numbers that belong to them
pub kept-numbered : (side : Side) (point : List ℕ) (facts : List Fact) (kept : Kept) (saved : ℕ) (new : List Fact) (book : Documents) (takings : BTreeMap PortfolioDay ℕ)
    → DeskInvariant side point facts kept saved → new ≡ facts → book ≡ kept.book → AreTakings facts takings.entries → DeskInvariant side point new (record kept { book = book; takings = takings }) saved
kept-numbered side point facts kept saved new book takings is new_is book_is numbers =
    subst (λ (fs : List Fact). DeskInvariant side point fs (record kept { book = book; takings = takings }) saved) (sym new_is)
    (subst (λ (b : Documents). DeskInvariant side point facts (record kept { book = b; takings = takings }) saved) (sym book_is)
    (record { keeps = record { stages = is.keeps.stages; running = is.keeps.running; numbers = numbers }; within = is.within; fits = is.fits }))

-- a fact that some call would record may come next
pub kept-legal : (side : Side) (point : List ℕ) (old : List Fact) (s : DeskState) (fact : Fact) → bad_fact side point old ≡ None → s.point ≡ point → s.facts ≡ old
    → would_record side s.point s.facts fact ≡ true → length s.facts < most_facts → bad_fact side point (old ++ fact ∷ []) ≡ None
kept-legal side point old s fact legal point_is facts_is recorded room =
    legal-more side point old fact legal ((λ t. would_record side (sym point_is t) (sym facts_is t) fact) ∙ recorded)
    (subst (λ (facts : List Fact). length facts < most_facts) facts_is room)

-- and with what belongs to it, where all states can be written, what is kept stays so
kept-more : (side : Side) (point : List ℕ) (old : List Fact) (kept later : Kept) (saved : ℕ) (fact : Fact) (new : List Fact)
    → DeskInvariant side point old kept saved → FitsFact fact → All (FitsState side) (states_of side (old ++ fact ∷ []))
    → new ≡ old ++ fact ∷ [] → IsKept side point (old ++ fact ∷ []) later → DeskInvariant side point new later saved
kept-more side point old kept later saved fact new is fits all_fit new_is keeps =
    let longer : length (old ++ fact ∷ []) ≡ length old + 1 = length-append old (fact ∷ []) in
    let within = is.within in
    subst (λ (facts : List Fact). DeskInvariant side point facts later saved) (sym new_is)
    (record {
      keeps = keeps;
      within = omega (arith, longer, within);
      fits = fits-more side point old fact is.fits fits all_fit;
    })

-- the nominations in force are sound, by what is kept of them and of the contracts
pub kept-sound : (side : Side) (point : List ℕ) (facts : List Fact) (s : DeskState) (capacity : Capacity) (documents : List Nomint) (day : Date)
    → bad_fact side point facts ≡ None → s.facts ≡ facts → ReadsAs capacity (capacity_of s.facts) → HasInForce documents (documents_of s.facts) → AreSound capacity documents day
kept-sound side point facts s capacity documents day legal facts_is reads same =
    let all : AreSound (capacity_of s.facts) (documents_of s.facts) day =
    subst (λ (fs : List Fact). AreSound (capacity_of fs) (documents_of fs) day) (sym facts_is) (legal-sound side point facts day legal) in
    reads-sound capacity (capacity_of s.facts) documents (documents_of s.facts) day reads (λ portfolio. same portfolio day) all

-- a closing that would be recorded is of a cycle of its gas day
pub recorded-cycle : (side : Side) (s : DeskState) (id : CycleId) (rule : Rule) → would_record side s.point s.facts (Closed id rule) ≡ true → IsCycle id.day id.cycle
recorded-cycle side s id rule e = below_is_cycle id.day id.cycle (recorded-below side s.point s.facts id rule e)

-- one more fact that changes no cycle
pub kept-other : (side : Side) (point : List ℕ) (old : List Fact) (kept : Kept) (book : Documents) (contracts : Capacity) (takings : BTreeMap PortfolioDay ℕ) (saved : ℕ) (s : DeskState) (fact : Fact) (new : List Fact)
    → DeskInvariant side point old kept saved → changes_cycle fact ≡ false → s.point ≡ point → s.facts ≡ old → would_record side s.point s.facts fact ≡ true → length s.facts < most_facts → FitsFact fact
    → new ≡ old ++ fact ∷ [] → IsRunning point (old ++ fact ∷ []) book contracts → AreTakings (old ++ fact ∷ []) takings.entries
    → DeskInvariant side point new (record kept { book = book; contracts = contracts; takings = takings }) saved
kept-other side point old kept book contracts takings saved s fact new is other point_is facts_is recorded room fits new_is running numbers =
    let legal = kept-legal side point old s fact is.keeps.stages.legal point_is facts_is recorded room in
    kept-more side point old kept (record kept { book = book; contracts = contracts; takings = takings }) saved fact new is fits (states_fit-other side old fact other is.fits.states) new_is
    (record { stages = stages-other side point old fact kept.stages.entries other legal is.keeps.stages; running = running; numbers = numbers })

-- one more closing
pub kept-closed : (side : Side) (point : List ℕ) (old : List Fact) (kept : Kept) (saved : ℕ) (id : CycleId) (rule : Rule) (new : List Fact) (stages : BTreeMap CycleId Stage)
    → DeskInvariant side point old kept saved → FitsCycle id → FitsProcessed (processed (capacity_of old) (documents_of old) side id.day id.cycle rule)
    → HasFewOfEach side (processed (capacity_of old) (documents_of old) side id.day id.cycle rule)
    → new ≡ old ++ Closed id rule ∷ [] → AreStages side point (old ++ Closed id rule ∷ []) stages.entries → DeskInvariant side point new (record kept { stages = stages }) saved
kept-closed side point old kept saved id rule new stages is fits own_fits few new_is are =
    kept-more side point old kept (record kept { stages = stages }) saved (Closed id rule) new is fits (states_fit-closed side point old id rule are.legal is.fits.states fits own_fits few) new_is
    (record {
      stages = are;
      running = running-closed point old kept.book kept.contracts id rule is.keeps.running;
      numbers = takings-same side point old (Closed id rule) kept.takings.entries (λ document e. absurd cc) is.keeps.stages.legal is.keeps.numbers;
    })

-- one more meeting
pub kept-met : (side : Side) (point : List ℕ) (old : List Fact) (kept : Kept) (saved : ℕ) (id : CycleId) (peer : TableContents) (new : List Fact) (stages : BTreeMap CycleId Stage)
    → DeskInvariant side point old kept saved → FitsFact (Met id peer) → new ≡ old ++ Met id peer ∷ [] → AreStages side point (old ++ Met id peer ∷ []) stages.entries
    → DeskInvariant side point new (record kept { stages = stages }) saved
kept-met side point old kept saved id peer new stages is fits new_is are =
    kept-more side point old kept (record kept { stages = stages }) saved (Met id peer) new is fits (states_fit-met side point old id peer are.legal is.fits.states fits) new_is
    (record {
      stages = are;
      running = running-met point old kept.book kept.contracts id peer is.keeps.running;
      numbers = takings-same side point old (Met id peer) kept.takings.entries (λ document e. absurd cc) is.keeps.stages.legal is.keeps.numbers;
    })
