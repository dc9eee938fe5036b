-- What a call comes to can follow the facts of a desk.
use Rattle.std.proofs.Common.{arith, ◌≡◌, ◌<◌, ◌≤◌, ◌==◌, ◌+◌, ℕ, List, [], ◌∷◌, All, length, Bool, true, false, cond, not, nat_eq, nat_le, nat_lt, Option, Some, None, Result, Ok, Err, refl, ap, subst}
use Rattle.std.specs.Prelude.{slice_get}
use Rattle.std.specs.List.{list_all}
use Rattle.std.specs.Str.{bytes_eq}
use Rattle.std.proofs.lemmas.Bool.{and_from}
use Rattle.std.proofs.lemmas.Bool.Decides.{nat_tests}
use Rattle.std.proofs.lemmas.List.Elements.{All-head, All-tail}
use Rattle.std.proofs.lemmas.Option.{slice_get_within}
use Rattle.gi_day.specs.Cycles.{cycle_count}
use Rattle.gi_pairs.specs.declared.cycle_id.CycleId.{CycleId}
use Rattle.gi_pairs.specs.declared.side.Side.{Side}
use Rattle.gi_pairs.specs.declared.side.Side.TheVariants.{I, M}
use Rattle.gi_messages.specs.Decoding.{decoded}
use Rattle.gi_messages.specs.Grammar.{Fits, FitsNominationLine, Spells}
use Rattle.gi_messages.specs.declared.message.Message.{Message}
use Rattle.gi_messages.specs.declared.message.Message.TheVariants as messages
use Rattle.gi_messages.specs.declared.message.Nomint.{Nomint}
use Rattle.gi_messages.specs.declared.message_fault.MessageFault.{MessageFault}
use Rattle.gi_messages.specs.declared.nomination_line.NominationLine.{NominationLine}
use Rattle.gi_messages.proofs.MessageLemmas.{decoded_takes}
use Rattle.gi_messages.proofs.WritingLemmas.{fits_from_writable}
use Rattle.gi_nominations.specs.declared.verdict.Verdict.{Verdict}
use Rattle.gi_nominations.specs.declared.verdict.Verdict.TheVariants as verdicts
use Rattle.gi_processing.specs.Recording.{is_refused, notice_refusal}
use Rattle.gi_processing.specs.declared.notice_fault.NoticeFault.{NoticeFault}
use Rattle.gi_processing.specs.declared.notice_fault.NoticeFault.TheVariants as notices
use Rattle.gi_processing.specs.declared.rule.Rule.{Rule}
use Rattle.gi_parts.specs.Gathering.{CanKeep}
use Rattle.gi_parts.specs.Parts.{part_of_order, part_of_response}
use Rattle.gi_desk.specs.Deciding.{by_order, by_response, cycle_of}
use Rattle.gi_desk.specs.History.{capacity_of, is_closed, is_meeting, last_closed, number_of, state_of}
use Rattle.gi_desk.specs.Judging.{by_decision, by_verdict, closed, contracted, delivered, if_same, noticed, submitted, unless_fault, unless_later, verdict_on}
use Rattle.gi_desk.specs.Caches.{CanFollow}
use Rattle.gi_desk.specs.Machine.{DeskState, comes_to, has_priority, is_record, most_facts, outcome, unless_full, would_record}
use Rattle.gi_facts.specs.Same.{same_fact}
use Rattle.gi_desk.specs.declared.call.Call.{Call}
use Rattle.gi_desk.specs.declared.call.Call.TheVariants as calls
use Rattle.gi_desk.specs.declared.decision.Decision.{Decision}
use Rattle.gi_desk.specs.declared.decision.Decision.TheVariants as decisions
use Rattle.gi_facts.specs.declared.fact.Fact.{Fact}
use Rattle.gi_facts.specs.declared.fact.Fact.TheVariants as facts
use Rattle.gi_desk.specs.declared.outcome.Outcome.{Outcome}
use Rattle.gi_desk.specs.declared.outcome.Outcome.TheVariants.{Records, RepeatsNomination, RepeatsMeeting, RepeatsPart, Keeps, Saves, Resends, Stops, Refuses}
use Rattle.gi_desk.specs.declared.refusal.Refusal.TheVariants as refusals
use Rattle.gi_desk.proofs.Decoded.{fits_receivable}
use Rattle.gi_desk.proofs.StateLaws.{number_of-from}
use Rattle.gi_desk.proofs.SureDecisions.{IsSureDecision, sure_order, sure_response}

-- what a call that comes to an outcome by itself can be sure of
abbrev pub IsSure : Side → DeskState → Outcome → Type 0
IsSure side s (Records fact) = would_record side s.point s.facts fact ≡ true
IsSure side s (RepeatsNomination n) = 1 ≤ n
IsSure side s (RepeatsMeeting n) = 1 ≤ n
IsSure side s (RepeatsPart n) = 1 ≤ n
IsSure side s (Keeps id part) = CanKeep id s.kept part
IsSure side s (Saves n) = (n ≡ s.saved + 1) × (n ≤ length s.facts)
IsSure side s (Resends id) = Unit {0}
IsSure side s Stops = Unit {0}
IsSure side s (Refuses refusal) = Unit {0}

-- the outcome saves nothing, keeps no part, and records no fact but this one
abbrev pub IsOf : Fact → Outcome → Type 0
IsOf own (Records fact) = own ≡ fact
IsOf own (RepeatsNomination n) = 1 ≤ n
IsOf own (RepeatsMeeting n) = 1 ≤ n
IsOf own (RepeatsPart n) = ⊥
IsOf own (Keeps id part) = ⊥
IsOf own (Saves n) = ⊥
IsOf own (Resends id) = Unit {0}
IsOf own Stops = Unit {0}
IsOf own (Refuses refusal) = Unit {0}

sure : (side : Side) (s : DeskState) (own : Fact) (o : Outcome) → IsOf own o → (is_record o ≡ true → would_record side s.point s.facts own ≡ true) → IsSure side s o
sure side s own (Records fact) is recorded = subst (λ (f : Fact). would_record side s.point s.facts f ≡ true) is (recorded refl)
sure side s own (RepeatsNomination n) is recorded = is
sure side s own (RepeatsMeeting n) is recorded = is
sure side s own (RepeatsPart n) is recorded = absurd is
sure side s own (Keeps id part) is recorded = absurd is
sure side s own (Saves n) is recorded = absurd is
sure side s own (Resends id) is recorded = tt
sure side s own Stops is recorded = tt
sure side s own (Refuses refusal) is recorded = tt

pub of_test : (own : Fact) (b : Bool) (o p : Outcome) → IsOf own o → IsOf own p → IsOf own (cond b o p)
of_test own true o p first second = first
of_test own false o p first second = second

-- ---- notices and closings

pub of_fault : (own : Fact) (o : Option NoticeFault) → IsOf own (unless_fault o (Records own))
of_fault own None = refl
of_fault own (Some notices.NoticeRange) = tt
of_fault own (Some notices.PermilleRange) = tt
of_fault own (Some notices.OutOfMemory) = tt

of_last : (own : Fact) (cycle : ℕ) (last : Option ℕ) → IsOf own (unless_later cycle last (Records own))
of_last own cycle None = refl
of_last own cycle (Some last) = of_test own (nat_lt cycle last) (Refuses (refusals.OutOfOrder last)) (Records own) tt refl

pub of_closing : (history : List Fact) (id : CycleId) (rule : Rule) → IsOf (facts.Closed id rule) (closed history id rule)
of_closing history id rule =
    let own = facts.Closed id rule in
    let later = unless_later id.cycle (last_closed id.day history) (Records own) in
    let unclosed = cond (is_closed id history) (Refuses refusals.AlreadyClosed) later in
    of_test own (not (nat_lt id.cycle (cycle_count id.day))) (Refuses refusals.NoSuchCycle) unclosed tt
    (of_test own (is_closed id history) (Refuses refusals.AlreadyClosed) later tt (of_last own id.cycle (last_closed id.day history)))

-- ---- nominations

-- lines that can be written have priorities
fit-have : (lines : List NominationLine) → All FitsNominationLine lines → list_all has_priority lines ≡ true
fit-have [] fits = refl
fit-have (line ∷ lines) fits =
    let own = All-head FitsNominationLine line lines fits in
    let from = own.from in
    let to = own.to in
    and_from (has_priority line) (list_all has_priority lines) (grind (arith, nat_tests, from, to)) (fit-have lines (All-tail FitsNominationLine line lines fits))

sure_verdict : (side : Side) (s : DeskState) (document : Nomint) (v : Verdict) → verdict_on s.point s.facts document ≡ v → Fits (messages.Nomint document)
    → IsSure side s (by_verdict s.facts document v)
sure_verdict side s document verdicts.Recordable e fits =
    let from = fits.from in
    let to = fits.to in
    and_from _ _ (and_from _ _ (and_from _ _ (ap (λ (v : Verdict). is_record (by_verdict s.facts document v)) e) (grind (arith, nat_tests))) (grind (arith, nat_tests))) (fit-have document.lines fits.lines)
sure_verdict side s document verdicts.Repeat e fits = number_of-from _ s.facts
sure_verdict side s document (verdicts.Refused fault) e fits = tt

-- what is decoded can be written
fits_decoded : (body : List ℕ) (m : Message) → decoded body ≡ Ok m → Fits m
fits_decoded body m e = let spells : Spells body m = decoded_takes body m e in fits_from_writable m (spells.value, spells.stands)

sure_submitted : (side : Side) (s : DeskState) (body : List ℕ) (r : Result Message MessageFault) → decoded body ≡ r → IsSure side s (submitted s.point s.facts r)
sure_submitted side s body (Err fault) e = tt
sure_submitted side s body (Ok (messages.Nomint document)) e = sure_verdict side s document (verdict_on s.point s.facts document) refl (fits_decoded body (messages.Nomint document) e)
sure_submitted side s body (Ok (messages.Acknow message)) e = tt
sure_submitted side s body (Ok (messages.Nomres message)) e = tt
sure_submitted side s body (Ok (messages.Delord message)) e = tt
sure_submitted side s body (Ok (messages.Delres message)) e = tt

-- ---- the peer's message

sure_repeat : (side : Side) (s : DeskState) (n : ℕ) (b : Bool) → 1 ≤ n → IsSure side s (cond b (RepeatsMeeting n) (RepeatsPart n))
sure_repeat side s n true from = from
sure_repeat side s n false from = from

sure_decision : (side : Side) (s : DeskState) (id : CycleId) (part : ℕ) (d : Decision) → IsSureDecision side s id d → IsSure side s (by_decision s.facts id part d)
sure_decision side s id part (decisions.Meet peer) is = is
sure_decision side s id part (decisions.Keep kept) is = is
sure_decision side s id part decisions.Again is = sure_repeat side s (number_of (is_meeting id) s.facts) (part == 1) (number_of-from (is_meeting id) s.facts)
sure_decision side s id part (decisions.Refused refusal) is = tt

sure_here : (side : Side) (s : DeskState) (b : Bool) (o : Outcome) → IsSure side s o → IsSure side s (cond b o (Refuses refusals.WrongPoint))
sure_here side s true o is = is
sure_here side s false o is = tt

sure_delivered : (side : Side) (s : DeskState) (body : List ℕ) (r : Result Message MessageFault) → decoded body ≡ r → IsSure side s (delivered side s.point s.facts s.kept r)
sure_delivered I s body (Err fault) e = tt
sure_delivered M s body (Err fault) e = tt
sure_delivered M s body (Ok (messages.Delord message)) e =
    let id = cycle_of message.day message.cycle in
    let part = part_of_order message in
    let decided = by_order s.kept part (state_of M s.facts id) in
    sure_here M s (bytes_eq message.point s.point) (by_decision s.facts id message.part decided)
    (sure_decision M s id message.part decided (sure_order M s id part (state_of M s.facts id) refl (fits_receivable (messages.Delord message) (fits_decoded body (messages.Delord message) e))))
sure_delivered I s body (Ok (messages.Delres message)) e =
    let id = cycle_of message.day message.cycle in
    let part = part_of_response message in
    let decided = by_response s.kept part (state_of I s.facts id) in
    sure_here I s (bytes_eq message.point s.point) (by_decision s.facts id message.part decided)
    (sure_decision I s id message.part decided (sure_response I s id part (state_of I s.facts id) refl (fits_receivable (messages.Delres message) (fits_decoded body (messages.Delres message) e))))
sure_delivered I s body (Ok (messages.Delord message)) e = tt
sure_delivered M s body (Ok (messages.Delres message)) e = tt
sure_delivered I s body (Ok (messages.Nomint message)) e = tt
sure_delivered M s body (Ok (messages.Nomint message)) e = tt
sure_delivered I s body (Ok (messages.Acknow message)) e = tt
sure_delivered M s body (Ok (messages.Acknow message)) e = tt
sure_delivered I s body (Ok (messages.Nomres message)) e = tt
sure_delivered M s body (Ok (messages.Nomres message)) e = tt

-- ---- resendings and marks

sure_resent : (side : Side) (s : DeskState) (id : CycleId) (b : Bool) → IsSure side s (cond b (Resends id) (Refuses refusals.NotClosed))
sure_resent side s id true = tt
sure_resent side s id false = tt

sure_same : (side : Side) (s : DeskState) (n : ℕ) (b : Bool) → n ≡ s.saved + 1 → s.saved < length s.facts → IsSure side s (cond b (Saves n) (Refuses refusals.OtherFact))
sure_same side s n true next below = (next, omega arith)
sure_same side s n false next below = tt

sure_if_same : (side : Side) (s : DeskState) (n : ℕ) (fact : Fact) (o : Option Fact) → slice_get s.facts s.saved ≡ o → n ≡ s.saved + 1 → IsSure side s (if_same n fact o)
sure_if_same side s n fact None e next = tt
sure_if_same side s n fact (Some found) e next = sure_same side s n (same_fact found fact) next (slice_get_within s.facts s.saved found e)

sure_mark : (side : Side) (s : DeskState) (n : ℕ) (fact : Fact) (b : Bool) → nat_eq n (s.saved + 1) ≡ b
    → IsSure side s (cond b (if_same n fact (slice_get s.facts s.saved)) (Refuses (refusals.NotNext (s.saved + 1))))
sure_mark side s n fact true e = sure_if_same side s n fact (slice_get s.facts s.saved) refl (grind (arith, nat_tests))
sure_mark side s n fact false e = tt

-- ---- all calls

pub sure_comes : (side : Side) (s : DeskState) (call : Call) → IsSure side s (comes_to side s call)
sure_comes side s (calls.Contract contract) =
    let own = facts.Contracted contract in
    sure side s own (contracted s.facts contract)
    (of_test own (is_refused contract (capacity_of s.facts).contracts) (Refuses refusals.TooManyPortfolios) (Records own) tt refl) (λ e. e)
sure_comes side s (calls.Notice notice) = sure side s (facts.Noticed notice) (noticed notice) (of_fault (facts.Noticed notice) (notice_refusal notice)) (λ e. e)
sure_comes side s (calls.Submit body) = sure_submitted side s body (decoded body) refl
sure_comes side s (calls.Close id rule) = sure side s (facts.Closed id rule) (closed s.facts id rule) (of_closing s.facts id rule) (λ e. e)
sure_comes side s (calls.Deliver body) = sure_delivered side s body (decoded body) refl
sure_comes side s (calls.Resend id) = sure_resent side s id (nat_le (number_of _ s.facts) s.saved)
sure_comes side s (calls.MarkSaved n fact) = sure_mark side s n fact (nat_eq n (s.saved + 1)) refl
sure_comes side s calls.Halt = tt

-- a desk that is not full has room
room : (side : Side) (s : DeskState) (fact : Fact) (b : Bool) → nat_le most_facts (length s.facts) ≡ b → would_record side s.point s.facts fact ≡ true
    → CanFollow side s (cond b (Refuses refusals.Full) (Records fact))
room side s fact true e is = tt
room side s fact false e is = (is, grind (arith, nat_tests))

follows_unless : (side : Side) (s : DeskState) (o : Outcome) → IsSure side s o → CanFollow side s (unless_full s.facts o)
follows_unless side s (Records fact) is = room side s fact (nat_le most_facts (length s.facts)) refl is
follows_unless side s (RepeatsNomination n) is = is
follows_unless side s (RepeatsMeeting n) is = is
follows_unless side s (RepeatsPart n) is = is
follows_unless side s (Keeps id part) is = is
follows_unless side s (Saves n) is = is
follows_unless side s (Resends id) is = tt
follows_unless side s Stops is = tt
follows_unless side s (Refuses refusal) is = tt

follows_test : (side : Side) (s : DeskState) (b : Bool) (o : Outcome) → CanFollow side s o → CanFollow side s (cond b (Refuses refusals.Halted) o)
follows_test side s true o is = tt
follows_test side s false o is = is

-- what a call comes to can follow
pub can_follow : (side : Side) (s : DeskState) (call : Call) → CanFollow side s (outcome side s call)
unfolding outcome
can_follow side s call =
    follows_test side s s.halted (unless_full s.facts (comes_to side s call)) (follows_unless side s (comes_to side s call) (sure_comes side s call))
