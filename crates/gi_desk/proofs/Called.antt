-- What calls come to, by the parts of their definitions.
use Rattle.std.proofs.Common.{◌≡◌, ◌||◌, inl, inr, ℕ, List, Bool, true, false, not, cond, Option, Some, None, Result, Ok, Err, IsTrue, Bor, IfOk, IfErr, refl, sym, ap, ◌∙◌}
use Rattle.std.proofs.lemmas.Bool.{and_from}
use Rattle.std.specs.Option.{option_copied, unwrap_or}
use Rattle.std.specs.Str.{bytes_eq}
use Rattle.gi_pairs.specs.Table.{TableContents}
use Rattle.gi_pairs.specs.declared.cycle_id.CycleId.{CycleId}
use Rattle.gi_pairs.specs.declared.side.Side.{Side}
use Rattle.gi_pairs.specs.declared.side.Side.TheVariants.{I, M}
use Rattle.gi_messages.specs.declared.message.Message.{Message}
use Rattle.gi_messages.specs.declared.message.Message.TheVariants.{Nomint, Acknow, Nomres, Delord, Delres}
use Rattle.gi_cycles.specs.declared.cycle_state.CycleState.{CycleState}
use Rattle.gi_cycles.specs.declared.cycle_state.CycleState.TheVariants.{Collecting}
use Rattle.gi_parts.specs.declared.kept_parts.KeptPart.{KeptPart}
use Rattle.gi_desk.specs.Deciding.{IsDecided, IsUnlessShort, address_of, decision, for_role, may_want_at, number_in}
use Rattle.gi_desk.specs.History.{frozen_cycle, is_closed, met_by, peer_of, state_of}
use Rattle.gi_desk.specs.Judging.{by_decision, delivered, if_addressed}
use Rattle.gi_desk.specs.Caches.{closed_state}
use Rattle.gi_desk.specs.Machine.{DeskState, can_meet, comes_to, learns_with_memory, may_want_to_prepare, out_of, outcome, some_leave, unless_full}
use Rattle.gi_desk.specs.declared.call.Call.{Call}
use Rattle.gi_desk.specs.declared.decision.Decision.{Decision}
use Rattle.gi_desk.specs.declared.decision.Decision.TheVariants.{Refused}
use Rattle.gi_facts.specs.declared.fact.Fact.{Fact}
use Rattle.gi_desk.specs.declared.outcome.Outcome.{Outcome}
use Rattle.gi_desk.specs.declared.outcome.Outcome.TheVariants.{Refuses}
use Rattle.gi_desk.specs.declared.refusal.Refusal.TheVariants.{Halted, OutOfMemory, WrongKind, WrongPoint}

-- ---- how far a cycle is

state_by : (b : Bool) (state : CycleState) (id : CycleId) → unwrap_or (cond b (Some (cond b state (Collecting id))) None) (Collecting id) ≡ cond b state (Collecting id)
state_by true state id = refl
state_by false state id = refl

-- a cycle that is not closed collects
pub found-state : (side : Side) (facts : List Fact) (id : CycleId) (found : Option CycleState) → found ≡ closed_state side facts id → unwrap_or found (Collecting id) ≡ state_of side facts id
unfolding state_of
found-state side facts id found e =
    ap (λ (o : Option CycleState). unwrap_or o (Collecting id)) e ∙ state_by (is_closed id facts) (met_by (frozen_cycle side facts id) (peer_of id facts)) id

-- the state that was found, or the other one, where they are referred to
pub referred-state : (found : Option (Bor CycleState)) (other : Bor CycleState) → (unwrap_or found other).now ≡ unwrap_or (option_copied found) other.now
referred-state None other = refl
referred-state (Some state) other = refl

-- ---- a decision that is no want of memory

-- a test that fails does not pass
untrue : (b : Bool) → b ≡ false → IsTrue b → ⊥
untrue true is true_is = absurd cc
untrue false is true_is = absurd cc

unless_short : (wants short : Bool) (decided got : Decision) → IsUnlessShort wants decided got → (got ≡ Refused OutOfMemory → IsTrue short) → short ≡ false → got ≡ decided
unless_short wants short decided got is here not_short = elim is [ inl e ↦ e | inr e ↦ absurd (untrue short not_short (here e.1)) ]

pub role-decided : (side : Side) (state : CycleState) (kept : List KeptPart) (message : Message) (short : Bool) (got : Decision) → IsDecided side state kept message got
    → (got ≡ Refused OutOfMemory → IsTrue short) → short ≡ false → got ≡ decision side state kept message
role-decided side state kept message short got is here not_short = unless_short (may_want_at state message) short (decision side state kept message) got is here not_short

-- ---- the peer's message

taken : (b : Bool) (o : Outcome) → false ≡ not b → cond b o (Refuses WrongPoint) ≡ o
taken true o e = refl
taken false o e = absurd cc

-- a message of the point, of the kind that is for the side
pub delivered-addressed : (side : Side) (point held own : List ℕ) (history : List Fact) (kept : List KeptPart) (id : CycleId) (message : Message) → Some (point, id) ≡ address_of side message
    → false ≡ not (bytes_eq point held) → held ≡ own
    → by_decision history id (number_in message) (decision side (state_of side history id) kept message) ≡ delivered side own history kept (Ok message)
delivered-addressed side point held own history kept id message addressed same is_own =
    let same_here : false ≡ not (bytes_eq point own) = same ∙ ap (λ (p : List ℕ). not (bytes_eq point p)) is_own in
    sym (taken (bytes_eq point own) _ same_here) ∙ ap (if_addressed side own history kept message) addressed

-- one of another kind
unaddressed : (side : Side) (message : Message) → None ≡ for_role side message → None ≡ address_of side message
unaddressed I (Nomint message) e = refl
unaddressed I (Acknow message) e = refl
unaddressed I (Nomres message) e = refl
unaddressed I (Delord message) e = refl
unaddressed I (Delres message) e = absurd cc
unaddressed M (Nomint message) e = refl
unaddressed M (Acknow message) e = refl
unaddressed M (Nomres message) e = refl
unaddressed M (Delord message) e = absurd cc
unaddressed M (Delres message) e = refl

pub delivered-unaddressed : (side : Side) (own : List ℕ) (history : List Fact) (kept : List KeptPart) (message : Message) → None ≡ for_role side message
    → Refuses WrongKind ≡ delivered side own history kept (Ok message)
delivered-unaddressed side own history kept message other = ap (if_addressed side own history kept message) (unaddressed side message other)

-- what a role receives is the message
pub received-is : (side : Side) (message received : Message) → Some received ≡ for_role side message → received ≡ message
received-is I (Nomint message) received e = absurd cc
received-is I (Acknow message) received e = absurd cc
received-is I (Nomres message) received e = absurd cc
received-is I (Delord message) received e = absurd cc
received-is I (Delres message) received e = cc
received-is M (Nomint message) received e = absurd cc
received-is M (Acknow message) received e = absurd cc
received-is M (Nomres message) received e = absurd cc
received-is M (Delord message) received e = cc
received-is M (Delres message) received e = absurd cc

-- what was decoded, where what comes of it is known
pub delivered-from : {E : Type 0} (r : Result Outcome E) (read other : Outcome) → IfOk r (λ outcome. outcome ≡ read) → read ≡ other → IfOk r (λ outcome. outcome ≡ other)
delivered-from (Ok outcome) read other is e = is ∙ e
delivered-from (Err fault) read other is e = tt

-- ---- which cycle can meet a table

-- one that is not closed cannot
pub unmet-unclosed : (side : Side) (facts : List Fact) (id : CycleId) (peer : TableContents) → None ≡ closed_state side facts id
    → can_meet peer (state_of side facts id) ≡ false
unmet-unclosed side facts id peer e = ap (can_meet peer) (sym (found-state side facts id None e))

-- ---- want of memory

-- a desk that is not halted may want memory wherever it learns with memory
pub short-wants : (side : Side) (s : DeskState) (call : Call) → s.halted ≡ false → IsTrue (learns_with_memory call) → IsTrue (may_want_to_prepare side s call)
unfolding may_want_to_prepare
short-wants side s call running learns =
    let leaves = some_leave (out_of side s (outcome side s call)) in
    and_from (not s.halted) (learns_with_memory call || leaves) (ap not running) (ap (λ (b : Bool). b || leaves) learns)

-- ---- outcomes

pub halted-outcome : (side : Side) (s : DeskState) (call : Call) → s.halted ≡ true → Refuses Halted ≡ outcome side s call
unfolding outcome
halted-outcome side s call halted = ap (λ (b : Bool). cond b (Refuses Halted) (unless_full s.facts (comes_to side s call))) (sym halted)

pub running-outcome : (side : Side) (s : DeskState) (call : Call) → s.halted ≡ false → unless_full s.facts (comes_to side s call) ≡ outcome side s call
unfolding outcome
running-outcome side s call running = ap (λ (b : Bool). cond b (Refuses Halted) (unless_full s.facts (comes_to side s call))) (sym running)

-- what holds holds of a fault too
pub if_failed : {X E : Type 0} {P : Type 0} (r : Result X E) → P → IfErr r (λ fault. P)
if_failed (Ok x) p = tt
if_failed (Err fault) p = p

-- and so does what follows from what holds of one
pub if_failed_by : {X E : Type 0} {P Q : Type 0} (r : Result X E) → (P → Q) → IfErr r (λ fault. P) → IfErr r (λ fault. Q)
if_failed_by (Ok x) follows p = tt
if_failed_by (Err fault) follows p = follows p
