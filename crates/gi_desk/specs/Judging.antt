-- What each call comes to, by the facts of a desk.
use Rattle.std.specs.Prelude.{ℕ, ◌+◌, ◌==◌, List, slice_get, not, nat_eq, nat_le, nat_lt, if◌then◌else◌, Option, Some, None, Result, Ok, Err}
use Rattle.std.specs.Str.{bytes_eq}
use Rattle.gi_day.specs.Cycles.{cycle_count}
use Rattle.gi_pairs.specs.declared.cycle_id.CycleId.{CycleId}
use Rattle.gi_pairs.specs.declared.side.Side.{Side}
use Rattle.gi_messages.specs.declared.message.Message.{Message}
use Rattle.gi_messages.specs.declared.message.Message.TheVariants.{Nomint}
use Rattle.gi_messages.specs.declared.message.Nomint.{Nomint as NomintOf}
use Rattle.gi_messages.specs.declared.message_fault.MessageFault.{MessageFault}
use Rattle.gi_nominations.specs.Judging.{verdict}
use Rattle.gi_nominations.specs.declared.setting.Setting.{Setting}
use Rattle.gi_nominations.specs.declared.verdict.Verdict.{Verdict}
use Rattle.gi_nominations.specs.declared.verdict.Verdict.TheVariants as verdicts
use Rattle.gi_processing.specs.Capacity.{knows}
use Rattle.gi_processing.specs.Recording.{is_refused, notice_refusal}
use Rattle.gi_processing.specs.declared.contract.Contract.{Contract}
use Rattle.gi_processing.specs.declared.notice.Notice.{Notice}
use Rattle.gi_processing.specs.declared.notice_fault.NoticeFault.{NoticeFault}
use Rattle.gi_processing.specs.declared.notice_fault.NoticeFault.TheVariants as notices
use Rattle.gi_processing.specs.declared.rule.Rule.{Rule}
use Rattle.gi_parts.specs.declared.kept_parts.KeptPart.{KeptPart}
use Rattle.gi_desk.specs.Deciding.{address_of, decision, number_in}
use Rattle.gi_desk.specs.History.{capacity_of, documents_of, is_closed, is_closing, is_meeting, is_taking, last_closed, number_of, state_of}
use Rattle.gi_facts.specs.Same.{same_fact}
use Rattle.gi_desk.specs.declared.decision.Decision.{Decision}
use Rattle.gi_desk.specs.declared.decision.Decision.TheVariants as decisions
use Rattle.gi_desk.specs.declared.outcome.Outcome.{Outcome}
use Rattle.gi_desk.specs.declared.outcome.Outcome.TheVariants.{Records, RepeatsNomination, RepeatsMeeting, RepeatsPart, Keeps, Saves, Resends, Refuses}
use Rattle.gi_facts.specs.declared.fact.Fact.{Fact}
use Rattle.gi_facts.specs.declared.fact.Fact.TheVariants as facts
use Rattle.gi_desk.specs.declared.refusal.Refusal.TheVariants.{TooManyPortfolios, NoticeRange, PermilleRange, OutOfMemory, Message as MessageRefused, WrongKind, Nomination, NoSuchCycle, AlreadyClosed, OutOfOrder, WrongPoint, NotClosed, NotNext, OtherFact}

-- a contract
abbrev pub contracted : List Fact → Contract → Outcome
contracted history contract =
    if is_refused contract (capacity_of history).contracts then Refuses TooManyPortfolios else Records (facts.Contracted contract)

-- a notice; none comes to want of memory
abbrev pub unless_fault : Option NoticeFault → Outcome → Outcome
unless_fault None outcome = outcome
unless_fault (Some notices.NoticeRange) outcome = Refuses NoticeRange
unless_fault (Some notices.PermilleRange) outcome = Refuses PermilleRange
unless_fault (Some notices.OutOfMemory) outcome = Refuses OutOfMemory

abbrev pub noticed : Notice → Outcome
noticed notice = unless_fault (notice_refusal notice) (Records (facts.Noticed notice))

-- a nomination, judged by what the facts say
abbrev pub setting_of : List Fact → NomintOf → Setting
setting_of history document = record {
  frame = document.day;
  known = knows document.portfolio document.day (capacity_of history).contracts;
  last_closed = last_closed document.day history;
}

abbrev pub verdict_on : List ℕ → List Fact → NomintOf → Verdict
verdict_on point history document = verdict (record { point = point; documents = documents_of history }) (setting_of history document) document

abbrev pub by_verdict : List Fact → NomintOf → Verdict → Outcome
by_verdict history document verdicts.Recordable = Records (facts.Nominated document)
by_verdict history document verdicts.Repeat = RepeatsNomination (number_of (is_taking document) history)
by_verdict history document (verdicts.Refused fault) = Refuses (Nomination fault)

abbrev pub nominated : List ℕ → List Fact → NomintOf → Outcome
nominated point history document = by_verdict history document (verdict_on point history document)

abbrev pub submitted : List ℕ → List Fact → Result Message MessageFault → Outcome
submitted point history (Err fault) = Refuses (MessageRefused fault)
submitted point history (Ok (Nomint document)) = nominated point history document
submitted point history (Ok message) = Refuses WrongKind

-- a closing: the gas day has the cycle, and neither it nor a later one is closed
abbrev pub unless_later : ℕ → Option ℕ → Outcome → Outcome
unless_later cycle None outcome = outcome
unless_later cycle (Some last) outcome = if nat_lt cycle last then Refuses (OutOfOrder last) else outcome

abbrev pub closed : List Fact → CycleId → Rule → Outcome
closed history id rule =
    if not (nat_lt id.cycle (cycle_count id.day)) then Refuses NoSuchCycle
    else (if is_closed id history then Refuses AlreadyClosed
    else unless_later id.cycle (last_closed id.day history) (Records (facts.Closed id rule)))

-- a meeting that is repeated lets the response out only for part 1, or for all of the order
abbrev pub repeated : ℕ → ℕ → Outcome
repeated part n = if part == 1 then RepeatsMeeting n else RepeatsPart n

-- the peer's message, of a kind that is for the side and for the desk's own point
abbrev pub by_decision : List Fact → CycleId → ℕ → Decision → Outcome
by_decision history id part (decisions.Meet peer) = Records (facts.Met id peer)
by_decision history id part (decisions.Keep kept) = Keeps id kept
by_decision history id part decisions.Again = repeated part (number_of (is_meeting id) history)
by_decision history id part (decisions.Refused refusal) = Refuses refusal

abbrev pub of_point : List ℕ → List ℕ → Outcome → Outcome
of_point point own outcome = if bytes_eq point own then outcome else Refuses WrongPoint

abbrev pub if_addressed : Side → List ℕ → List Fact → List KeptPart → Message → Option (List ℕ × CycleId) → Outcome
if_addressed side point history kept message None = Refuses WrongKind
if_addressed side point history kept message (Some address) =
    of_point address.0 point (by_decision history address.1 (number_in message) (decision side (state_of side history address.1) kept message))

abbrev pub delivered : Side → List ℕ → List Fact → List KeptPart → Result Message MessageFault → Outcome
delivered side point history kept (Err fault) = Refuses (MessageRefused fault)
delivered side point history kept (Ok message) = if_addressed side point history kept message (address_of side message)

-- a cycle's packets again: its closing is saved
abbrev pub resent : List Fact → ℕ → CycleId → Outcome
resent history saved id = if nat_le (number_of (is_closing id) history) saved then Resends id else Refuses NotClosed

-- the mark of the next fact
abbrev pub if_same : ℕ → Fact → Option Fact → Outcome
if_same n fact None = Refuses OtherFact
if_same n fact (Some next) = if same_fact next fact then Saves n else Refuses OtherFact

abbrev pub marked : List Fact → ℕ → ℕ → Fact → Outcome
marked history saved n fact = if nat_eq n (saved + 1) then if_same n fact (slice_get history saved) else Refuses (NotNext (saved + 1))
