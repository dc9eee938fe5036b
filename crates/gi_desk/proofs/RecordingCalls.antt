-- Each fact that may come next is recorded by a call, which the fact names.
use Rattle.std.proofs.Common.{arith, ◌≡◌, ◌≤◌, ℕ, List, [], ◌∷◌, length, All, Bool, true, cond, nat_eq, Option, Some, None, eq-eqb, refl, sym, ap, ◌∙◌, subst}
use Rattle.std.specs.Str.{bytes_eq}
use Rattle.std.proofs.lemmas.Bool.{and_from, and_parts}
use Rattle.std.proofs.lemmas.Bool.Decides.{Decides-eqb}
use Rattle.std.proofs.lemmas.List.Elements.{All-cons, All-nil}
use Rattle.std.proofs.lemmas.Slice.Eq.{bytes_eq-Decides}
use Rattle.gi_day.specs.Cycles.{hour_count}
use Rattle.gi_day.proofs.DayFacts.{day_facts}
use Rattle.gi_pairs.specs.Code.{IsCode}
use Rattle.gi_pairs.specs.Limits.{last_hour}
use Rattle.gi_pairs.specs.Table.{TableContents, same_hours}
use Rattle.gi_pairs.specs.declared.cycle_id.CycleId.{CycleId}
use Rattle.gi_pairs.specs.declared.side.Side.{Side}
use Rattle.gi_pairs.specs.declared.side.Side.TheVariants.{I, M}
use Rattle.gi_pairs.proofs.Reading.{find_all}
use Rattle.gi_lesser.specs.Lesser.{HasShapeOf, lesser_of}
use Rattle.gi_lesser.proofs.LesserLaws.{lesser_of-IsLesser}
use Rattle.gi_messages.specs.Grammar.{Fits, HasFewLines}
use Rattle.gi_messages.specs.Writing.{text_of}
use Rattle.gi_messages.specs.declared.nomination_line.NominationLine.{NominationLine}
use Rattle.gi_messages.specs.declared.message.Delord.{Delord}
use Rattle.gi_messages.specs.declared.message.Delres.{Delres}
use Rattle.gi_messages.specs.declared.message.Message.TheVariants as messages
use Rattle.gi_messages.specs.declared.message.Nomint.{Nomint}
use Rattle.gi_nominations.specs.Lines.{has_hours}
use Rattle.gi_nominations.specs.declared.verdict.Verdict.{Verdict}
use Rattle.gi_nominations.specs.declared.verdict.Verdict.TheVariants as verdicts
use Rattle.gi_nominations.proofs.LinesLaws.{without_fault}
use Rattle.gi_cycles.specs.States.{FrozenCycle}
use Rattle.gi_cycles.specs.declared.cycle_state.CycleState.TheVariants.{Frozen}
use Rattle.gi_processing.specs.Recording.{is_refused, notice_refusal}
use Rattle.gi_processing.specs.declared.contract.Contract.{Contract}
use Rattle.gi_processing.specs.declared.notice.Notice.{Notice}
use Rattle.gi_processing.specs.declared.rule.Rule.{Rule}
use Rattle.gi_parts.specs.Parts.{part_of_order, part_of_response}
use Rattle.gi_parts.specs.declared.kept_parts.KeptPart.{KeptPart}
use Rattle.gi_desk.specs.Deciding.{by_order, by_response, difference, unless_differs}
use Rattle.gi_desk.specs.History.{capacity_of, frozen_cycle, frozen_table, state_of}
use Rattle.gi_desk.specs.Judging.{by_decision, by_verdict, closed, contracted, delivered, noticed, submitted, verdict_on}
use Rattle.gi_desk.specs.Caches.{is_state_of, states_of}
use Rattle.gi_desk.specs.Machine.{DeskState, comes_to, is_record, would_record}
use Rattle.gi_desk.specs.Writable.{FitsDesk, FitsFrozen, FitsState}
use Rattle.gi_facts.specs.Writable.{FitsCycle, FitsFact, FitsProcessed}
use Rattle.gi_desk.specs.declared.call.Call.{Call}
use Rattle.gi_desk.specs.declared.call.Call.TheVariants as calls
use Rattle.gi_desk.specs.declared.decision.Decision.TheVariants as decisions
use Rattle.gi_facts.specs.declared.fact.Fact.{Fact}
use Rattle.gi_facts.specs.declared.fact.Fact.TheVariants.{Contracted, Noticed, Nominated, Closed, Met}
use Rattle.gi_desk.specs.declared.outcome.Outcome.{Outcome}
use Rattle.gi_desk.specs.declared.outcome.Outcome.TheVariants.{Records, RepeatsNomination, RepeatsMeeting, RepeatsPart, Keeps, Saves, Resends, Stops, Refuses}
use Rattle.gi_desk.specs.declared.refusal.Refusal.TheVariants as refusals
use Rattle.gi_desk.proofs.CycleLaws.{IsMeeting, recorded-meeting}
use Rattle.gi_desk.proofs.Differing.{difference-self}
use Rattle.gi_desk.proofs.Legality.{recorded-nomination}
use Rattle.gi_desk.proofs.Outcomes.{IsOf, IsSure, of_closing, of_fault, of_test, sure_comes}
use Rattle.gi_desk.proofs.ReadableLaws.{read_back}
use Rattle.gi_desk.proofs.StageLaws.{found, state-meeting}

-- ---- what an outcome records

-- an outcome that records, and records no fact but this one
record_of : (own : Fact) (o : Outcome) → IsOf own o → is_record o ≡ true → o ≡ Records own
record_of own (Records fact) is e = ap Records (sym is)
record_of own (RepeatsNomination n) is e = absurd cc
record_of own (RepeatsMeeting n) is e = absurd cc
record_of own (RepeatsPart n) is e = absurd cc
record_of own (Keeps id part) is e = absurd cc
record_of own (Saves n) is e = absurd cc
record_of own (Resends id) is e = absurd cc
record_of own Stops is e = absurd cc
record_of own (Refuses refusal) is e = absurd cc

-- some call records the fact
abbrev pub IsRecorded : Side → DeskState → Fact → Type 0
IsRecorded side s fact = (call : Call) × (comes_to side s call ≡ Records fact)

contract_called : (side : Side) (s : DeskState) (contract : Contract) → would_record side s.point s.facts (Contracted contract) ≡ true → IsRecorded side s (Contracted contract)
contract_called side s contract e =
    let own = Contracted contract in
    let is = of_test own (is_refused contract (capacity_of s.facts).contracts) (Refuses refusals.TooManyPortfolios) (Records own) tt refl in
    (calls.Contract contract, record_of own (contracted s.facts contract) is e)

notice_called : (side : Side) (s : DeskState) (notice : Notice) → would_record side s.point s.facts (Noticed notice) ≡ true → IsRecorded side s (Noticed notice)
notice_called side s notice e = (calls.Notice notice, record_of (Noticed notice) (noticed notice) (of_fault (Noticed notice) (notice_refusal notice)) e)

closing_called : (side : Side) (s : DeskState) (id : CycleId) (rule : Rule) → would_record side s.point s.facts (Closed id rule) ≡ true → IsRecorded side s (Closed id rule)
closing_called side s id rule e = (calls.Close id rule, record_of (Closed id rule) (closed s.facts id rule) (of_closing s.facts id rule) e)

-- ---- nominations

-- a nomination of which a fact is recorded is that fact
nominated_by : (history : List Fact) (document : Nomint) (v : Verdict) → is_record (by_verdict history document v) ≡ true → by_verdict history document v ≡ Records (Nominated document)
nominated_by history document verdicts.Recordable e = refl
nominated_by history document verdicts.Repeat e = absurd cc
nominated_by history document (verdicts.Refused fault) e = absurd cc

-- lines for the hours of a gas day
lines_short : (hours : ℕ) (lines : List NominationLine) → hours ≤ last_hour → has_hours hours lines ≡ true → All (λ line. length line.hours ≤ last_hour) lines
lines_short hours [] within whole = All-nil (λ line. length line.hours ≤ last_hour)
lines_short hours (line ∷ lines) within whole =
    let both = and_parts (nat_eq (length line.hours) hours) (has_hours hours lines) whole in
    let here = (Decides-eqb (length line.hours) hours).0 both.0 in
    All-cons (λ line. length line.hours ≤ last_hour) line lines (omega (arith, here, within)) (lines_short hours lines within both.1)

few_lines : (side : Side) (s : DeskState) (document : Nomint) → would_record side s.point s.facts (Nominated document) ≡ true → HasFewLines (messages.Nomint document)
few_lines side s document e =
    let lines = without_fault (hour_count document.day) document.lines (recorded-nomination side s.point s.facts document e).lines in
    let hours = (day_facts document.day).hours_in in
    (omega (arith, lines.few), lines_short (hour_count document.day) document.lines (omega (arith, hours)) lines.whole)

nomination_called : (side : Side) (s : DeskState) (document : Nomint) → Fits (messages.Nomint document) → would_record side s.point s.facts (Nominated document) ≡ true
    → IsRecorded side s (Nominated document)
nomination_called side s document fits e =
    let message = messages.Nomint document in
    let recorded = (and_parts _ _ (and_parts _ _ (and_parts _ _ e).0).0).0 in (
      calls.Submit (text_of message),
      ap (submitted s.point s.facts) (read_back message fits (few_lines side s document e)) ∙ nominated_by s.facts document (verdict_on s.point s.facts document) recorded,
    )

-- ---- meetings

bytes_self : (text : List ℕ) → bytes_eq text text ≡ true
bytes_self text = (bytes_eq-Decides text text).1 refl

-- a message of the desk's own point
at_point : (point : List ℕ) (o : Outcome) → cond (bytes_eq point point) o (Refuses refusals.WrongPoint) ≡ o
at_point point o = ap (λ (b : Bool). cond b o (Refuses refusals.WrongPoint)) (bytes_self point)

same_from : (own peer : TableContents) → HasShapeOf own peer → same_hours own peer ≡ true
same_from own peer shape = and_from (nat_eq own.first peer.first) (nat_eq own.last peer.last) (eq-eqb own.first peer.first shape.first) (eq-eqb own.last peer.last shape.last)

-- the order of the peer's table
abbrev order : List ℕ → CycleId → TableContents → Delord
order point id peer = record { point = point; day = id.day; cycle = id.cycle; parts = 1; part = 1; processed = peer }

-- it is whole, so it meets the table, whatever is kept
meets_order : (kept : List KeptPart) (cycle : FrozenCycle) (point : List ℕ) (id : CycleId) (peer : TableContents) → HasShapeOf cycle.own peer
    → by_order kept (part_of_order (order point id peer)) (Frozen cycle) ≡ decisions.Meet peer
meets_order kept cycle point id peer shape = ap (λ (b : Bool). cond b (decisions.Meet peer) (decisions.Refused refusals.ShapeDiffers)) (same_from cycle.own peer shape)

order_called : (s : DeskState) (id : CycleId) (peer : TableContents) → FitsDesk M s.point s.facts → FitsCycle id → FitsProcessed peer
    → would_record M s.point s.facts (Met id peer) ≡ true → IsRecorded M s (Met id peer)
order_called s id peer desk cycle fits e =
    let is = recorded-meeting M s.point s.facts id peer e in
    let message = messages.Delord (order s.point id peer) in
    let part = part_of_order (order s.point id peer) in
    let back = read_back message (record { point = desk.point; day = cycle.day; cycle = cycle.cycle; few_parts = omega arith; part_from = omega arith; part_to = omega arith; processed = fits.table; few = fits.few }) tt in
    let decision = by_order s.kept part (state_of M s.facts id) in
    let meets : decision ≡ decisions.Meet peer = ap (by_order s.kept part) (state-meeting M s.facts id peer is) ∙ meets_order s.kept (frozen_cycle M s.facts id) s.point id peer is.same_hours in (
      calls.Deliver (text_of message),
      ap (delivered M s.point s.facts s.kept) back ∙ at_point s.point (by_decision s.facts id 1 decision) ∙ ap (by_decision s.facts id 1) meets,
    )

-- the frozen table of a cycle that may meet a table
frozen_fits : (side : Side) (point : List ℕ) (history : List Fact) (id : CycleId) (peer : TableContents) → FitsDesk side point history → IsMeeting side history id peer
    → FitsProcessed (frozen_table side history id)
frozen_fits side point history id peer desk is =
    let frozen = Frozen (frozen_cycle side history id) in
    let closed = ap (λ (b : Bool). cond b (Some (state_of side history id)) None) is.closed ∙ ap Some (state-meeting side history id peer is) in
    let fits : FitsFrozen side (frozen_cycle side history id) = find_all (FitsState side) (is_state_of id) (states_of side history) frozen desk.states (found side history id ∙ closed) in
    fits.own

-- the response that confirms the lesser
abbrev response : List ℕ → CycleId → TableContents → TableContents → Delres
response point id own peer = record { point = point; day = id.day; cycle = id.cycle; parts = 1; part = 1; processed = peer; confirmed = lesser_of own peer }

response_fits : (point : List ℕ) (id : CycleId) (own peer : TableContents) → IsCode point → FitsCycle id → FitsProcessed own → FitsProcessed peer → HasShapeOf own peer
    → Fits (messages.Delres (response point id own peer))
response_fits point id own peer code cycle own_fits fits shape =
    let lesser = lesser_of-IsLesser own peer (record { own_table = own_fits.table; peer_table = fits.table; shape = shape; own_few = own_fits.few; peer_few = fits.few }) in
    record {
      point = code;
      day = cycle.day;
      cycle = cycle.cycle;
      few_parts = omega arith;
      part_from = omega arith;
      part_to = omega arith;
      processed = fits.table;
      few = fits.few;
      confirmed = lesser.table;
      few_confirmed = lesser.table.few;
      begins = lesser.first ∙ shape.first;
      ends = lesser.last ∙ shape.last;
    }

-- it meets the table, as the order does
meets_response : (kept : List KeptPart) (cycle : FrozenCycle) (point : List ℕ) (id : CycleId) (peer : TableContents) → HasShapeOf cycle.own peer
    → by_response kept (part_of_response (response point id cycle.own peer)) (Frozen cycle) ≡ decisions.Meet peer
meets_response kept cycle point id peer shape =
    let lesser = (lesser_of cycle.own peer).rows in
    ap (λ (b : Bool). cond b (unless_differs (difference lesser lesser) (decisions.Meet peer)) (decisions.Refused refusals.ShapeDiffers)) (same_from cycle.own peer shape)
    ∙ ap (λ (o : Option ℕ). unless_differs o (decisions.Meet peer)) (difference-self lesser)

response_called : (s : DeskState) (id : CycleId) (peer : TableContents) → FitsDesk I s.point s.facts → FitsCycle id → FitsProcessed peer
    → would_record I s.point s.facts (Met id peer) ≡ true → IsRecorded I s (Met id peer)
response_called s id peer desk cycle fits e =
    let is = recorded-meeting I s.point s.facts id peer e in
    let own = frozen_table I s.facts id in
    let message = messages.Delres (response s.point id own peer) in
    let part = part_of_response (response s.point id own peer) in
    let back = read_back message (response_fits s.point id own peer desk.point cycle (frozen_fits I s.point s.facts id peer desk is) fits is.same_hours) tt in
    let decision = by_response s.kept part (state_of I s.facts id) in
    let meets : decision ≡ decisions.Meet peer = ap (by_response s.kept part) (state-meeting I s.facts id peer is) ∙ meets_response s.kept (frozen_cycle I s.facts id) s.point id peer is.same_hours in (
      calls.Deliver (text_of message),
      ap (delivered I s.point s.facts s.kept) back ∙ at_point s.point (by_decision s.facts id 1 decision) ∙ ap (by_decision s.facts id 1) meets,
    )

-- ---- all facts

called : (side : Side) (s : DeskState) (fact : Fact) → FitsDesk side s.point s.facts → FitsFact fact → would_record side s.point s.facts fact ≡ true → IsRecorded side s fact
called side s (Contracted contract) desk fits e = contract_called side s contract e
called side s (Noticed notice) desk fits e = notice_called side s notice e
called side s (Nominated document) desk fits e = nomination_called side s document fits e
called side s (Closed id rule) desk fits e = closing_called side s id rule e
called M s (Met id peer) desk fits e = order_called s id peer desk fits.0 fits.1 e
called I s (Met id peer) desk fits e = response_called s id peer desk fits.0 fits.1 e

-- what a call records may come next, and some call records what may come next
pub records-what-calls-record : (side : Side) (s : DeskState) (fact : Fact)
    → ((call : Call) → comes_to side s call ≡ Records fact → would_record side s.point s.facts fact ≡ true)
    × (FitsDesk side s.point s.facts → FitsFact fact → would_record side s.point s.facts fact ≡ true → (call : Call) × (comes_to side s call ≡ Records fact))
records-what-calls-record side s fact = (λ call is. subst (IsSure side s) is (sure_comes side s call), λ desk fits e. called side s fact desk fits e)
