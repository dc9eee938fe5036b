-- What a call records is the fact that it names, and what it keeps the part that it is.
use Rattle.std.proofs.Common.{◌≡◌, ◌+◌, ℕ, List, length, slice_get, Bool, true, false, cond, not, nat_eq, nat_le, nat_lt, Option, Some, None, Result, Ok, Err, arith, refl, sym, ap, subst}
use Rattle.std.specs.Prelude.{◌==◌}
use Rattle.std.proofs.lemmas.Bool.Decides.{nat_tests}
use Rattle.std.specs.Str.{bytes_eq}
use Rattle.gi_day.specs.Cycles.{cycle_count}
use Rattle.gi_lesser.specs.Lesser.{lesser_of}
use Rattle.gi_processing.specs.Recording.{is_refused, notice_refusal}
use Rattle.gi_pairs.specs.Table.{TableContents, same_hours, table_eq}
use Rattle.gi_pairs.specs.declared.row.Row.{Row}
use Rattle.gi_pairs.specs.declared.cycle_id.CycleId.{CycleId}
use Rattle.gi_pairs.specs.declared.side.Side.{Side}
use Rattle.gi_pairs.specs.declared.side.Side.TheVariants.{I, M}
use Rattle.gi_messages.specs.Decoding.{decoded}
use Rattle.gi_messages.specs.declared.message.Message.{Message}
use Rattle.gi_messages.specs.declared.message.Message.TheVariants.{Nomint, Acknow, Nomres, Delord, Delres}
use Rattle.gi_messages.specs.declared.message.Nomint.{Nomint as NomintOf}
use Rattle.gi_messages.specs.declared.message_fault.MessageFault.{MessageFault}
use Rattle.gi_nominations.specs.declared.verdict.Verdict.{Verdict}
use Rattle.gi_nominations.specs.declared.verdict.Verdict.TheVariants as verdicts
use Rattle.gi_processing.specs.declared.notice_fault.NoticeFault.{NoticeFault}
use Rattle.gi_processing.specs.declared.notice_fault.NoticeFault.TheVariants as notices
use Rattle.gi_processing.specs.declared.rule.Rule.{Rule}
use Rattle.gi_cycles.specs.declared.cycle_state.CycleState.{CycleState}
use Rattle.gi_cycles.specs.declared.cycle_state.CycleState.TheVariants.{Collecting, Frozen, Matched}
use Rattle.gi_cycles.specs.States.{MatchedCycle}
use Rattle.gi_parts.specs.Gathering.{all_confirmed, all_processed, are_too_many, gathered, go_together, is_awaiting, is_whole, joined_with, overlap, table_of, whole_of}
use Rattle.gi_parts.specs.Parts.{part_of_order, part_of_response, parts_of, rows_of}
use Rattle.gi_parts.specs.declared.gathered.Gathered.{Gathered}
use Rattle.gi_parts.specs.declared.gathered.Gathered.TheVariants as gathers
use Rattle.gi_parts.specs.declared.gathered.PartFault.TheVariants as faults
use Rattle.gi_parts.specs.declared.kept_parts.KeptPart.{KeptPart}
use Rattle.gi_parts.specs.declared.part.Part.{Part}
use Rattle.gi_desk.specs.Caches.{id_of}
use Rattle.gi_desk.specs.Deciding.{by_order, by_response, compared, cycle_of, difference, met_again, ordered, part_again, refusal_of, responded, unless_differs}
use Rattle.gi_desk.specs.History.{capacity_of, is_closed, is_closing, is_meeting, last_closed, number_of, state_of}
use Rattle.gi_desk.specs.Judging.{by_decision, by_verdict, closed, delivered, if_same, submitted, unless_fault, unless_later, verdict_on}
use Rattle.gi_desk.specs.Machine.{DeskState, comes_to, most_facts, outcome, unless_full}
use Rattle.gi_facts.specs.Same.{same_fact}
use Rattle.gi_desk.specs.declared.call.Call.{Call}
use Rattle.gi_desk.specs.declared.call.Call.TheVariants as calls
use Rattle.gi_desk.specs.declared.decision.Decision.{Decision}
use Rattle.gi_desk.specs.declared.decision.Decision.TheVariants as decisions
use Rattle.gi_facts.specs.declared.fact.Fact.{Fact}
use Rattle.gi_facts.specs.declared.fact.Fact.TheVariants.{Contracted, Noticed, Nominated, Closed, Met}
use Rattle.gi_desk.specs.declared.outcome.Outcome.{Outcome}
use Rattle.gi_desk.specs.declared.outcome.Outcome.TheVariants.{Records, RepeatsNomination, RepeatsMeeting, RepeatsPart, Keeps, Saves, Resends, Stops, Refuses}
use Rattle.gi_desk.specs.declared.refusal.Refusal.{Refusal}
use Rattle.gi_desk.specs.declared.refusal.Refusal.TheVariants as refusals
use Rattle.gi_desk.proofs.StageLaws.{id_of-state}
use Rattle.gi_world.specs.Histories.{fact_named_by, meeting_in, nomination_in, part_in, part_named_by, peer_by}

-- where an outcome records a fact, it is this one, where it saves one, that is the next, and where it keeps a part, it is this one of this cycle
abbrev pub Names : Option Fact → Option KeptPart → ℕ → Outcome → Type 0
Names expected part saved o =
    ((fact : Fact) → o ≡ Records fact → expected ≡ Some fact) × ((n : ℕ) → o ≡ Saves n → n ≡ saved + 1)
    × ((id : CycleId) (one : Part) → o ≡ Keeps id one → part ≡ Some (record { id = id; part = one }))

records_it : (part : Option KeptPart) (saved : ℕ) (fact : Fact) → Names (Some fact) part saved (Records fact)
records_it part saved fact = (λ other e. cc, λ n e. absurd cc, λ id one e. absurd cc)

refuses : (expected : Option Fact) (part : Option KeptPart) (saved : ℕ) (refusal : Refusal) → Names expected part saved (Refuses refusal)
refuses expected part saved refusal = (λ fact e. absurd cc, λ n e. absurd cc, λ id one e. absurd cc)

either : (expected : Option Fact) (part : Option KeptPart) (saved : ℕ) (b : Bool) (x y : Outcome) → Names expected part saved x → Names expected part saved y → Names expected part saved (cond b x y)
either expected part saved true x y names other = names
either expected part saved false x y names other = other

full : (expected : Option Fact) (part : Option KeptPart) (saved : ℕ) (history : List Fact) (o : Outcome) → Names expected part saved o → Names expected part saved (unless_full history o)
full expected part saved history (Records fact) names =
    either expected part saved (nat_le most_facts (length history)) (Refuses refusals.Full) (Records fact) (refuses expected part saved refusals.Full) names
full expected part saved history (RepeatsNomination n) names = names
full expected part saved history (RepeatsMeeting n) names = names
full expected part saved history (RepeatsPart n) names = names
full expected part saved history (Keeps id one) names = names
full expected part saved history (Saves n) names = names
full expected part saved history (Resends id) names = names
full expected part saved history Stops names = names
full expected part saved history (Refuses refusal) names = names

notice : (saved : ℕ) (o : Option NoticeFault) (fact : Fact) → Names (Some fact) None saved (unless_fault o (Records fact))
notice saved None fact = records_it None saved fact
notice saved (Some notices.NoticeRange) fact = refuses (Some fact) None saved refusals.NoticeRange
notice saved (Some notices.PermilleRange) fact = refuses (Some fact) None saved refusals.PermilleRange
notice saved (Some notices.OutOfMemory) fact = refuses (Some fact) None saved refusals.OutOfMemory

nomination : (saved : ℕ) (history : List Fact) (document : NomintOf) (v : Verdict) → Names (Some (Nominated document)) None saved (by_verdict history document v)
nomination saved history document verdicts.Recordable = records_it None saved (Nominated document)
nomination saved history document verdicts.Repeat = (λ fact e. absurd cc, λ n e. absurd cc, λ id one e. absurd cc)
nomination saved history document (verdicts.Refused fault) = refuses (Some (Nominated document)) None saved (refusals.Nomination fault)

later : (saved cycle : ℕ) (last : Option ℕ) (fact : Fact) → Names (Some fact) None saved (unless_later cycle last (Records fact))
later saved cycle None fact = records_it None saved fact
later saved cycle (Some last) fact =
    either (Some fact) None saved (nat_lt cycle last) (Refuses (refusals.OutOfOrder last)) (Records fact) (refuses (Some fact) None saved (refusals.OutOfOrder last)) (records_it None saved fact)

-- ---- what a part comes to

-- its tables are those that it makes with what is kept, and it is kept itself
abbrev OfParts : List KeptPart → KeptPart → Gathered → Type 0
OfParts kept one (gathers.Complete whole) = peer_by kept one ≡ whole.processed
OfParts kept one (gathers.Keep part) = one.part ≡ part
OfParts kept one (gathers.Refused fault) = Unit {0}

joined_by : (kept : List KeptPart) (one : KeptPart) (processed confirmed : List Row) (overlaps many : Bool) → peer_by kept one ≡ table_of one.part processed
    → OfParts kept one (cond overlaps (gathers.Refused faults.PartsOverlap) (cond many (gathers.Refused faults.TooManyRows) (gathers.Complete (whole_of one.part processed confirmed))))
joined_by kept one processed confirmed true many is = tt
joined_by kept one processed confirmed false true is = tt
joined_by kept one processed confirmed false false is = is

gathered_by : (kept : List KeptPart) (one : KeptPart) (first last : Gathered) (whole together awaiting : Bool) → (whole ≡ true → OfParts kept one first) → (whole ≡ false → OfParts kept one last)
    → OfParts kept one (cond whole first (cond (not together) (gathers.Refused (faults.PartDiffers one.part.number)) (cond awaiting (gathers.Keep one.part) last)))
gathered_by kept one first last true together awaiting is joined = is refl
gathered_by kept one first last false false awaiting is joined = tt
gathered_by kept one first last false true true is joined = refl
gathered_by kept one first last false true false is joined = joined refl

of_parts : (kept : List KeptPart) (one : KeptPart) → OfParts kept one (gathered one.id kept one.part)
of_parts kept one =
    let part = one.part in
    let others = parts_of one.id kept in
    let processed = all_processed part others in
    let confirmed = all_confirmed part others in
    let peer : (b : Bool) → is_whole part ≡ b → peer_by kept one ≡ cond b part.processed (table_of part processed) = λ b e. ap (λ (c : Bool). cond c part.processed (table_of part processed)) e in
    gathered_by kept one (gathers.Complete (record { processed = part.processed; confirmed = part.confirmed })) (joined_with part processed confirmed)
    (is_whole part) (go_together part others) (is_awaiting part others)
    (λ whole. peer true whole)
    (λ several. joined_by kept one processed confirmed (overlap processed confirmed) (are_too_many processed confirmed) (peer false several))

-- ---- decisions

-- what a decision on a part records or keeps
abbrev Meets : ℕ → List Fact → List KeptPart → KeptPart → Decision → Type 0
Meets saved history kept one d = Names (Some (Met one.id (peer_by kept one))) (Some one) saved (by_decision history one.id one.part.number d)

declines : (saved : ℕ) (history : List Fact) (kept : List KeptPart) (one : KeptPart) (refusal : Refusal) → Meets saved history kept one (decisions.Refused refusal)
declines saved history kept one refusal = refuses (Some (Met one.id (peer_by kept one))) (Some one) saved refusal

decides : (saved : ℕ) (history : List Fact) (kept : List KeptPart) (one : KeptPart) (b : Bool) (x y : Decision) → Meets saved history kept one x → Meets saved history kept one y
    → Meets saved history kept one (cond b x y)
decides saved history kept one true x y first second = first
decides saved history kept one false x y first second = second

meets_it : (saved : ℕ) (history : List Fact) (kept : List KeptPart) (one : KeptPart) (peer : TableContents) → peer_by kept one ≡ peer → Meets saved history kept one (decisions.Meet peer)
meets_it saved history kept one peer is = subst (λ (t : TableContents). Meets saved history kept one (decisions.Meet t)) is (records_it (Some one) saved (Met one.id (peer_by kept one)))

keeps_it : (saved : ℕ) (history : List Fact) (kept : List KeptPart) (one : KeptPart) (part : Part) → one.part ≡ part → Meets saved history kept one (decisions.Keep part)
keeps_it saved history kept one part is =
    subst (λ (p : Part). Meets saved history kept one (decisions.Keep p)) is (λ fact e. absurd cc, λ n e. absurd cc, λ id p e. same_one id p e)
  where
    same_one : (id : CycleId) (p : Part) → Keeps one.id one.part ≡ Keeps id p → Some one ≡ Some (record { id = id; part = p })
    same_one id p e =
        let cycle : one.id ≡ id = cc in
        let carried : one.part ≡ p = cc in
        λ t. Some (record { id = cycle t; part = carried t })

repeats : (saved : ℕ) (history : List Fact) (kept : List KeptPart) (one : KeptPart) → Meets saved history kept one decisions.Again
repeats saved history kept one =
    let n = number_of (is_meeting one.id) history in
    either (Some (Met one.id (peer_by kept one))) (Some one) saved (one.part.number == 1) (RepeatsMeeting n) (RepeatsPart n) (λ fact e. absurd cc, λ m e. absurd cc, λ id p e. absurd cc)
    (λ fact e. absurd cc, λ m e. absurd cc, λ id p e. absurd cc)

again : (saved : ℕ) (history : List Fact) (kept : List KeptPart) (one : KeptPart) (b : Bool) → Meets saved history kept one (cond b decisions.Again (decisions.Refused refusals.Conflict))
again saved history kept one b =
    decides saved history kept one b decisions.Again (decisions.Refused refusals.Conflict) (repeats saved history kept one) (declines saved history kept one refusals.Conflict)

differs : (saved : ℕ) (history : List Fact) (kept : List KeptPart) (one : KeptPart) (row : Option ℕ) (d : Decision) → Meets saved history kept one d
    → Meets saved history kept one (unless_differs row d)
differs saved history kept one None d names = names
differs saved history kept one (Some row) d names = declines saved history kept one (refusals.NotTheLesser row)

order_of_parts : (saved : ℕ) (history : List Fact) (kept : List KeptPart) (one : KeptPart) (got : Gathered) → OfParts kept one got → Meets saved history kept one (ordered got)
order_of_parts saved history kept one (gathers.Complete whole) is = meets_it saved history kept one whole.processed is
order_of_parts saved history kept one (gathers.Keep part) is = keeps_it saved history kept one part is
order_of_parts saved history kept one (gathers.Refused fault) is = declines saved history kept one (refusal_of fault)

response_of_parts : (saved : ℕ) (history : List Fact) (kept : List KeptPart) (one : KeptPart) (own : TableContents) (got : Gathered) → OfParts kept one got → Meets saved history kept one (responded own got)
response_of_parts saved history kept one own (gathers.Complete whole) is =
    differs saved history kept one (difference (rows_of whole.confirmed) (lesser_of own whole.processed).rows) (decisions.Meet whole.processed) (meets_it saved history kept one whole.processed is)
response_of_parts saved history kept one own (gathers.Keep part) is = keeps_it saved history kept one part is
response_of_parts saved history kept one own (gathers.Refused fault) is = declines saved history kept one (refusal_of fault)

-- of a state of its cycle
of_cycle : (kept : List KeptPart) (one : KeptPart) (id : CycleId) → id ≡ one.id → OfParts kept one (gathered id kept one.part)
of_cycle kept one id same = subst (λ (i : CycleId). OfParts kept one (gathered i kept one.part)) (sym same) (of_parts kept one)

at_hours : (saved : ℕ) (history : List Fact) (kept : List KeptPart) (one : KeptPart) (b : Bool) (d : Decision) → Meets saved history kept one d
    → Meets saved history kept one (cond b d (decisions.Refused refusals.ShapeDiffers))
at_hours saved history kept one b d names = decides saved history kept one b d (decisions.Refused refusals.ShapeDiffers) names (declines saved history kept one refusals.ShapeDiffers)

part_again_names : (saved : ℕ) (history : List Fact) (kept : List KeptPart) (one : KeptPart) (cycle : MatchedCycle) → Meets saved history kept one (part_again cycle one.part)
part_again_names saved history kept one cycle = again saved history kept one _

order : (saved : ℕ) (history : List Fact) (kept : List KeptPart) (one : KeptPart) (state : CycleState) → id_of state ≡ one.id → Meets saved history kept one (by_order kept one.part state)
order saved history kept one (Collecting other) same = declines saved history kept one refusals.NotClosed
order saved history kept one (Frozen cycle) same =
    at_hours saved history kept one (same_hours cycle.own one.part.processed) (ordered (gathered cycle.id kept one.part))
    (order_of_parts saved history kept one (gathered cycle.id kept one.part) (of_cycle kept one cycle.id same))
order saved history kept one (Matched cycle) same =
    let met = met_again cycle.peer one.part.processed in
    at_hours saved history kept one (same_hours cycle.own one.part.processed) (cond (is_whole one.part) met (part_again cycle one.part))
    (decides saved history kept one (is_whole one.part) met (part_again cycle one.part) (again saved history kept one (table_eq cycle.peer one.part.processed)) (part_again_names saved history kept one cycle))

response : (saved : ℕ) (history : List Fact) (kept : List KeptPart) (one : KeptPart) (state : CycleState) → id_of state ≡ one.id → Meets saved history kept one (by_response kept one.part state)
response saved history kept one (Collecting other) same = declines saved history kept one refusals.NotClosed
response saved history kept one (Frozen cycle) same =
    at_hours saved history kept one (same_hours cycle.own one.part.processed) (responded cycle.own (gathered cycle.id kept one.part))
    (response_of_parts saved history kept one cycle.own (gathered cycle.id kept one.part) (of_cycle kept one cycle.id same))
response saved history kept one (Matched cycle) same =
    let met = compared cycle.own one.part.processed (rows_of one.part.confirmed) (met_again cycle.peer one.part.processed) in
    at_hours saved history kept one (same_hours cycle.own one.part.processed) (cond (is_whole one.part) met (part_again cycle one.part))
    (decides saved history kept one (is_whole one.part) met (part_again cycle one.part)
    (differs saved history kept one (difference (rows_of one.part.confirmed) (lesser_of cycle.own one.part.processed).rows) (met_again cycle.peer one.part.processed)
    (again saved history kept one (table_eq cycle.peer one.part.processed)))
    (part_again_names saved history kept one cycle))

-- ---- calls

submission : (saved : ℕ) (point : List ℕ) (history : List Fact) (read : Result Message MessageFault) → Names (nomination_in read) None saved (submitted point history read)
submission saved point history (Err fault) = refuses None None saved (refusals.Message fault)
submission saved point history (Ok (Acknow message)) = refuses None None saved refusals.WrongKind
submission saved point history (Ok (Nomres message)) = refuses None None saved refusals.WrongKind
submission saved point history (Ok (Delord message)) = refuses None None saved refusals.WrongKind
submission saved point history (Ok (Delres message)) = refuses None None saved refusals.WrongKind
submission saved point history (Ok (Nomint document)) = nomination saved history document (verdict_on point history document)

delivery : (side : Side) (saved : ℕ) (point : List ℕ) (history : List Fact) (kept : List KeptPart) (read : Result Message MessageFault)
    → Names (meeting_in kept read) (part_in read) saved (delivered side point history kept read)
delivery I saved point history kept (Err fault) = refuses None None saved (refusals.Message fault)
delivery M saved point history kept (Err fault) = refuses None None saved (refusals.Message fault)
delivery I saved point history kept (Ok (Nomint message)) = refuses None None saved refusals.WrongKind
delivery M saved point history kept (Ok (Nomint message)) = refuses None None saved refusals.WrongKind
delivery I saved point history kept (Ok (Acknow message)) = refuses None None saved refusals.WrongKind
delivery M saved point history kept (Ok (Acknow message)) = refuses None None saved refusals.WrongKind
delivery I saved point history kept (Ok (Nomres message)) = refuses None None saved refusals.WrongKind
delivery M saved point history kept (Ok (Nomres message)) = refuses None None saved refusals.WrongKind
delivery I saved point history kept (Ok (Delord message)) = refuses (meeting_in kept (Ok (Delord message))) (part_in (Ok (Delord message))) saved refusals.WrongKind
delivery M saved point history kept (Ok (Delres message)) = refuses (meeting_in kept (Ok (Delres message))) (part_in (Ok (Delres message))) saved refusals.WrongKind
delivery M saved point history kept (Ok (Delord message)) =
    let one : KeptPart = record { id = cycle_of message.day message.cycle; part = part_of_order message } in
    let state = state_of M history one.id in
    let expected = Some (Met one.id (peer_by kept one)) in
    either expected (Some one) saved (bytes_eq message.point point) (by_decision history one.id message.part (by_order kept one.part state)) (Refuses refusals.WrongPoint)
    (order saved history kept one state (id_of-state M history one.id)) (refuses expected (Some one) saved refusals.WrongPoint)
delivery I saved point history kept (Ok (Delres message)) =
    let one : KeptPart = record { id = cycle_of message.day message.cycle; part = part_of_response message } in
    let state = state_of I history one.id in
    let expected = Some (Met one.id (peer_by kept one)) in
    either expected (Some one) saved (bytes_eq message.point point) (by_decision history one.id message.part (by_response kept one.part state)) (Refuses refusals.WrongPoint)
    (response saved history kept one state (id_of-state I history one.id)) (refuses expected (Some one) saved refusals.WrongPoint)

same_if : (saved n : ℕ) (fact : Fact) (next : Option Fact) → n ≡ saved + 1 → Names None None saved (if_same n fact next)
same_if saved n fact None is = refuses None None saved refusals.OtherFact
same_if saved n fact (Some next) is =
    either None None saved (same_fact next fact) (Saves n) (Refuses refusals.OtherFact) (λ other e. absurd cc, λ m e. cc, λ id one e. absurd cc) (refuses None None saved refusals.OtherFact)

mark_if : (saved n : ℕ) (fact : Fact) (next : Option Fact) (b : Bool) → nat_eq n (saved + 1) ≡ b
    → Names None None saved (cond b (if_same n fact next) (Refuses (refusals.NotNext (saved + 1))))
mark_if saved n fact next true is = same_if saved n fact next (grind (is, arith, nat_tests))
mark_if saved n fact next false is = refuses None None saved (refusals.NotNext (saved + 1))

closing : (saved : ℕ) (history : List Fact) (id : CycleId) (rule : Rule) → Names (Some (Closed id rule)) None saved (closed history id rule)
closing saved history id rule =
    let last = last_closed id.day history in
    let then = unless_later id.cycle last (Records (Closed id rule)) in
    either (Some (Closed id rule)) None saved (not (nat_lt id.cycle (cycle_count id.day))) (Refuses refusals.NoSuchCycle) (cond (is_closed id history) (Refuses refusals.AlreadyClosed) then)
    (refuses (Some (Closed id rule)) None saved refusals.NoSuchCycle)
    (either (Some (Closed id rule)) None saved (is_closed id history) (Refuses refusals.AlreadyClosed) then (refuses (Some (Closed id rule)) None saved refusals.AlreadyClosed)
    (later saved id.cycle last (Closed id rule)))

own_call : (side : Side) (s : DeskState) (call : Call) → Names (fact_named_by s.kept call) (part_named_by call) s.saved (comes_to side s call)
own_call side s (calls.Contract contract) =
    either (Some (Contracted contract)) None s.saved (is_refused contract (capacity_of s.facts).contracts) (Refuses refusals.TooManyPortfolios) (Records (Contracted contract))
    (refuses (Some (Contracted contract)) None s.saved refusals.TooManyPortfolios) (records_it None s.saved (Contracted contract))
own_call side s (calls.Notice it) = notice s.saved (notice_refusal it) (Noticed it)
own_call side s (calls.Submit body) = submission s.saved s.point s.facts (decoded body)
own_call side s (calls.Close id rule) = closing s.saved s.facts id rule
own_call side s (calls.Deliver body) = delivery side s.saved s.point s.facts s.kept (decoded body)
own_call side s (calls.Resend id) =
    either None None s.saved (nat_le (number_of (is_closing id) s.facts) s.saved) (Resends id) (Refuses refusals.NotClosed) (λ fact e. absurd cc, λ n e. absurd cc, λ other one e. absurd cc)
    (refuses None None s.saved refusals.NotClosed)
own_call side s (calls.MarkSaved n fact) = mark_if s.saved n fact (slice_get s.facts s.saved) (nat_eq n (s.saved + 1)) refl
own_call side s calls.Halt = (λ fact e. absurd cc, λ n e. absurd cc, λ id one e. absurd cc)

-- of every call at a desk
pub records-named : (side : Side) (s : DeskState) (call : Call) → Names (fact_named_by s.kept call) (part_named_by call) s.saved (outcome side s call)
unfolding outcome
records-named side s call =
    let expected = fact_named_by s.kept call in
    let part = part_named_by call in
    either expected part s.saved s.halted (Refuses refusals.Halted) (unless_full s.facts (comes_to side s call)) (refuses expected part s.saved refusals.Halted)
    (full expected part s.saved s.facts (comes_to side s call) (own_call side s call))
