-- What each call does to the facts and to what is saved, and what it lets out.
use Rattle.std.proofs.Common.{arith, ◌≡◌, ◌≤◌, ◌+◌, ◌⊎◌, inl, inr, ⊎_elim, ℕ, List, [], ◌∷◌, ◌++◌, length, take, drop, filter, Contains, Bool, true, false, cond, nat_le, leb-true, length-append, Option, Some, None, refl, sym, ap, ◌∙◌, subst}
use Rattle.std.specs.Prelude.{option_map}
use Rattle.std.proofs.lemmas.List.{append-nil, take-append-drop, take-append-le, take-take}
use Rattle.std.proofs.lemmas.List.Elements.{All-contains, All-contains_itself, All-filter, Contains-append_cases}
use Rattle.gi_pairs.specs.Table.{TableContents}
use Rattle.gi_pairs.specs.declared.cycle_id.CycleId.{CycleId}
use Rattle.gi_pairs.specs.declared.side.Side.{Side}
use Rattle.gi_pairs.proofs.Building.{in_from_contains}
use Rattle.gi_lesser.specs.Lesser.{lesser_of}
use Rattle.gi_messages.specs.declared.message.Message.TheVariants as messages
use Rattle.gi_desk.specs.History.{frozen_table, is_closed, is_closing, is_meeting, number_of, peer_of}
use Rattle.gi_desk.specs.Caches.{CanFollow, changes_cycle}
use Rattle.gi_desk.specs.Laws.{HasOneMoreAtMost}
use Rattle.gi_desk.specs.LetOut.{let_out, packets_of}
use Rattle.gi_desk.specs.Machine.{DeskState, after, answer_of, bad_fact, is_for_peer, next_of, out_of, outcome, reply, saved_out}
use Rattle.gi_desk.specs.Messages.{acknow_of, to_user}
use Rattle.gi_desk.specs.Queries.{confirmed}
use Rattle.gi_desk.specs.declared.reply.Answer.TheVariants as answers
use Rattle.gi_desk.specs.declared.call.Call.{Call}
use Rattle.gi_facts.specs.declared.fact.Fact.{Fact}
use Rattle.gi_facts.specs.declared.fact.Fact.TheVariants as facts
use Rattle.gi_desk.specs.declared.outcome.Outcome.{Outcome}
use Rattle.gi_desk.specs.declared.outcome.Outcome.TheVariants.{Records, RepeatsNomination, RepeatsMeeting, RepeatsPart, Keeps, Saves, Resends, Stops, Refuses}
use Rattle.gi_desk.specs.declared.packet.Packet.{Packet}
use Rattle.gi_desk.specs.declared.refusal.Refusal.{Refusal}
use Rattle.gi_desk.proofs.Confirmed.{met_closed}
use Rattle.gi_desk.proofs.Legality.{legal-front, legal-more}
use Rattle.gi_desk.proofs.Outcomes.{can_follow}
use Rattle.gi_desk.proofs.StateLaws.{frozen_table-more, is_closed-more, number_of-from, peer_of-more}

-- ---- the facts, and what is saved

grown_by : (s : DeskState) (o : Outcome) → HasOneMoreAtMost s.facts (next_of s o).facts
grown_by s (Records fact) = inr (fact, refl)
grown_by s (RepeatsNomination n) = inl refl
grown_by s (RepeatsMeeting n) = inl refl
grown_by s (RepeatsPart n) = inl refl
grown_by s (Keeps id part) = inl refl
grown_by s (Saves n) = inl refl
grown_by s (Resends id) = inl refl
grown_by s Stops = inl refl
grown_by s (Refuses refusal) = inl refl

saved_by : (side : Side) (s : DeskState) (o : Outcome) → CanFollow side s o → (s.saved ≤ (next_of s o).saved) × ((next_of s o).saved ≤ s.saved + 1)
saved_by side s (Records fact) follows = (omega arith, omega arith)
saved_by side s (RepeatsNomination n) follows = (omega arith, omega arith)
saved_by side s (RepeatsMeeting n) follows = (omega arith, omega arith)
saved_by side s (RepeatsPart n) follows = (omega arith, omega arith)
saved_by side s (Keeps id part) follows = (omega arith, omega arith)
saved_by side s (Saves n) follows = let next = follows.0 in (omega (arith, next), omega (arith, next))
saved_by side s (Resends id) follows = (omega arith, omega arith)
saved_by side s Stops follows = (omega arith, omega arith)
saved_by side s (Refuses refusal) follows = (omega arith, omega arith)

pub only-appends : (side : Side) (s : DeskState) (call : Call)
    → HasOneMoreAtMost s.facts (after side s call).facts × (s.saved ≤ (after side s call).saved) × ((after side s call).saved ≤ s.saved + 1)
unfolding after
only-appends side s call =
    let saved = saved_by side s (outcome side s call) (can_follow side s call) in
    (grown_by s (outcome side s call), saved.0, saved.1)

-- ---- refusals

refused_by : (side : Side) (s : DeskState) (o : Outcome) (refusal : Refusal) → answer_of s o ≡ answers.Refused refusal → (next_of s o ≡ s) × (out_of side s o ≡ [])
refused_by side s (Records fact) refusal e = absurd cc
refused_by side s (RepeatsNomination n) refusal e = absurd cc
refused_by side s (RepeatsMeeting n) refusal e = absurd cc
refused_by side s (RepeatsPart n) refusal e = absurd cc
refused_by side s (Keeps id part) refusal e = absurd cc
refused_by side s (Saves n) refusal e = absurd cc
refused_by side s (Resends id) refusal e = absurd cc
refused_by side s Stops refusal e = absurd cc
refused_by side s (Refuses other) refusal e = (refl, refl)

pub refusals-change-nothing : (side : Side) (s : DeskState) (call : Call) (refusal : Refusal) → (reply side s call).answer ≡ answers.Refused refusal
    → (after side s call ≡ s) × ((reply side s call).out ≡ [])
unfolding after reply
refusals-change-nothing side s call refusal e = refused_by side s (outcome side s call) refusal e

-- ---- what is let out

-- the packet is what a fact lets out that is one of the first so many
abbrev IsOfSaved : Side → DeskState → ℕ → Packet → Type 0
IsOfSaved side s saved packet = (n : ℕ) × (1 ≤ n) × (n ≤ saved) × Contains (let_out side s.point s.facts n) packet

in_none : {X : Type 0} (x : X) → Contains [] x → ⊥
in_none x there = in_from_contains x [] there

saved_test : (side : Side) (s : DeskState) (n : ℕ) (packet : Packet) (b : Bool) → nat_le n s.saved ≡ b → 1 ≤ n → Contains (cond b (let_out side s.point s.facts n) []) packet
    → IsOfSaved side s s.saved packet
saved_test side s n packet true e above there = (n, above, leb-true n s.saved e, there)
saved_test side s n packet false e above there = absurd (in_none packet there)

saved_one : (side : Side) (s : DeskState) (n : ℕ) (packet : Packet) → 1 ≤ n → Contains (saved_out side s n) packet → IsOfSaved side s s.saved packet
saved_one side s n packet above there = saved_test side s n packet (nat_le n s.saved) refl above there

-- what a test lets through stands in the list
filtered : {X : Type 0} (test : X → Bool) (xs : List X) (x : X) → Contains (filter test xs) x → Contains xs x
filtered test xs x there = All-contains (Contains xs) (filter test xs) x (All-filter test (Contains xs) xs (All-contains_itself xs)) there

said_by : (side : Side) (s : DeskState) (o : Outcome) (packet : Packet) → CanFollow side s o → Contains (out_of side s o) packet → IsOfSaved side s (next_of s o).saved packet
said_by side s (Records fact) packet follows there = absurd (in_none packet there)
said_by side s (RepeatsNomination n) packet follows there = saved_one side s n packet follows there
said_by side s (RepeatsMeeting n) packet follows there = saved_one side s n packet follows (filtered is_for_peer (saved_out side s n) packet there)
said_by side s (RepeatsPart n) packet follows there = absurd (in_none packet there)
said_by side s (Keeps id part) packet follows there = absurd (in_none packet there)
said_by side s (Saves n) packet follows there = let next = follows.0 in (n, omega (arith, next), omega arith, there)
said_by side s (Resends id) packet follows there =
    let closing = number_of (is_closing id) s.facts in
    let meeting = number_of (is_meeting id) s.facts in
    ⊎_elim (λ of_closing. saved_one side s closing packet (number_of-from (is_closing id) s.facts) of_closing)
    (λ of_meeting. saved_one side s meeting packet (number_of-from (is_meeting id) s.facts) of_meeting)
    (Contains-append_cases (saved_out side s closing) (saved_out side s meeting) packet there)
said_by side s Stops packet follows there = absurd (in_none packet there)
said_by side s (Refuses refusal) packet follows there = absurd (in_none packet there)

pub says-only-what-is-saved : (side : Side) (s : DeskState) (call : Call) (packet : Packet) → Contains (reply side s call).out packet
    → (n : ℕ) × (1 ≤ n) × (n ≤ (after side s call).saved) × Contains (let_out side s.point s.facts n) packet
unfolding after reply
says-only-what-is-saved side s call packet there = said_by side s (outcome side s call) packet (can_follow side s call) there

-- what a nomination lets out is for a portfolio
for_user : (message packet : Packet) → is_for_peer message ≡ false → Contains (message ∷ []) packet → is_for_peer packet ≡ true → ⊥
for_user message packet user there peer = by_place (in_from_contains packet (message ∷ []) there)
  where
    by_place : (message ≡ packet) ⊎ ⊥ → ⊥
    by_place (inl is) = let other : false ≡ true = sym user ∙ ap is_for_peer is ∙ peer in cc
    by_place (inr none) = none

pub orders-only-of-cycles : (side : Side) (point : List ℕ) (history : List Fact) (fact : Fact) (packet : Packet) → Contains (packets_of side point history fact) packet
    → is_for_peer packet ≡ true → changes_cycle fact ≡ true
orders-only-of-cycles side point history (facts.Contracted contract) packet there peer = absurd (in_none packet there)
orders-only-of-cycles side point history (facts.Noticed notice) packet there peer = absurd (in_none packet there)
orders-only-of-cycles side point history (facts.Nominated document) packet there peer =
    absurd (for_user (to_user document.portfolio (messages.Acknow (acknow_of document))) packet refl there peer)
orders-only-of-cycles side point history (facts.Closed id rule) packet there peer = refl
orders-only-of-cycles side point history (facts.Met id table) packet there peer = refl

-- ---- legal facts

legal_by : (side : Side) (s : DeskState) (o : Outcome) → CanFollow side s o → bad_fact side s.point s.facts ≡ None → bad_fact side (next_of s o).point (next_of s o).facts ≡ None
legal_by side s (Records fact) follows legal = legal-more side s.point s.facts fact legal follows.0 follows.1
legal_by side s (RepeatsNomination n) follows legal = legal
legal_by side s (RepeatsMeeting n) follows legal = legal
legal_by side s (RepeatsPart n) follows legal = legal
legal_by side s (Keeps id part) follows legal = legal
legal_by side s (Saves n) follows legal = legal
legal_by side s (Resends id) follows legal = legal
legal_by side s Stops follows legal = legal
legal_by side s (Refuses refusal) follows legal = legal

within_by : (side : Side) (s : DeskState) (o : Outcome) → CanFollow side s o → s.saved ≤ length s.facts → (next_of s o).saved ≤ length (next_of s o).facts
within_by side s (Records fact) follows within = let longer = length-append s.facts (fact ∷ []) in omega (arith, longer, within)
within_by side s (RepeatsNomination n) follows within = within
within_by side s (RepeatsMeeting n) follows within = within
within_by side s (RepeatsPart n) follows within = within
within_by side s (Keeps id part) follows within = within
within_by side s (Saves n) follows within = follows.1
within_by side s (Resends id) follows within = within
within_by side s Stops follows within = within
within_by side s (Refuses refusal) follows within = within

pub stays-legal : (side : Side) (s : DeskState) (call : Call)
    → (bad_fact side s.point s.facts ≡ None → bad_fact side (after side s call).point (after side s call).facts ≡ None)
    × (s.saved ≤ length s.facts → (after side s call).saved ≤ length (after side s call).facts)
unfolding after
stays-legal side s call =
    let o = outcome side s call in
    (legal_by side s o (can_follow side s call), within_by side s o (can_follow side s call))

-- ---- what is confirmed

abbrev IsMore : List Fact → List Fact → Type 0
IsMore old new = (more : List Fact) × (new ≡ old ++ more)

is_more : (old new : List Fact) → HasOneMoreAtMost old new → IsMore old new
is_more old new (inl same) = ([], same ∙ sym (append-nil old))
is_more old new (inr (fact, longer)) = (fact ∷ [], longer)

-- more of the first facts begin with fewer of them, also where further facts come after
front-longer : (facts : List Fact) (m n : ℕ) → m ≤ n → IsMore (take m facts) (take n facts)
front-longer facts m n below =
    let rest = drop m (take n facts) in
    (rest, sym (take-append-drop m (take n facts)) ∙ ap (λ (front : List Fact). front ++ rest) (take-take m n facts below))

front-more : (facts more : List Fact) (m n : ℕ) → m ≤ n → m ≤ length facts → IsMore (take m facts) (take n (facts ++ more))
front-more facts more m n below within =
    subst (λ (front : List Fact). IsMore front (take n (facts ++ more))) (take-append-le m facts more within) (front-longer (facts ++ more) m n below)

told_by : (own : TableContents) (o : Option TableContents) (table : TableContents) → option_map (lesser_of own) o ≡ Some table
    → (peer : TableContents) × (o ≡ Some peer) × (Some (lesser_of own peer) ≡ Some table)
told_by own None table e = absurd cc
told_by own (Some peer) table e = (peer, refl, e)

-- of legal facts a cycle that some of the first ones met is closed
front_closed : (side : Side) (point : List ℕ) (facts : List Fact) (n : ℕ) (id : CycleId) (peer : TableContents) → bad_fact side point facts ≡ None
    → peer_of id (take n facts) ≡ Some peer → is_closed id facts ≡ true
front_closed side point facts n id peer legal met =
    subst (λ (all : List Fact). is_closed id all ≡ true) (take-append-drop n facts)
    (is_closed-more id (take n facts) (drop n facts) (met_closed side point (take n facts) id peer (legal-front side point facts n legal) met))

front_met : (old new : List Fact) (id : CycleId) (peer : TableContents) → IsMore old new → peer_of id old ≡ Some peer → peer_of id new ≡ Some peer
front_met old new id peer (more, longer) met = ap (peer_of id) longer ∙ peer_of-more id old more peer met

confirmed_more : (side : Side) (s next : DeskState) (id : CycleId) (table : TableContents) → bad_fact side s.point s.facts ≡ None → s.saved ≤ length s.facts
    → IsMore s.facts next.facts → s.saved ≤ next.saved → confirmed side s id ≡ Some table → confirmed side next id ≡ Some table
unfolding confirmed
confirmed_more side s next id table legal within (more, longer) below told =
    let peer = told_by (frozen_table side s.facts id) (peer_of id (take s.saved s.facts)) table told in
    let frozen = frozen_table-more side s.facts more id (front_closed side s.point s.facts s.saved id peer.0 legal peer.1) in
    let met = front_met (take s.saved s.facts) (take next.saved (s.facts ++ more)) id peer.0 (front-more s.facts more s.saved next.saved below within) peer.1 in
    ap (λ (facts : List Fact). option_map (lesser_of (frozen_table side facts id)) (peer_of id (take next.saved facts))) longer
    ∙ (λ t. option_map (lesser_of (frozen t)) (met t)) ∙ peer.2

pub confirms-for-good : (side : Side) (s : DeskState) (call : Call) (id : CycleId) (table : TableContents) → bad_fact side s.point s.facts ≡ None → s.saved ≤ length s.facts
    → confirmed side s id ≡ Some table → confirmed side (after side s call) id ≡ Some table
confirms-for-good side s call id table legal within told =
    let grown = only-appends side s call in
    confirmed_more side s (after side s call) id table legal within (is_more s.facts (after side s call).facts grown.0) grown.1 told

-- ---- a restart with the saved facts

-- the first facts tell the frozen quantities of a cycle that fewer of them close
frozen_front : (side : Side) (facts : List Fact) (m n : ℕ) (id : CycleId) → m ≤ n → is_closed id (take m facts) ≡ true
    → frozen_table side (take n facts) id ≡ frozen_table side facts id
frozen_front side facts m n id below closed =
    let longer = front-longer facts m n below in
    ap (λ (all : List Fact). frozen_table side all id) longer.1 ∙ frozen_table-more side (take m facts) longer.0 id closed
    ∙ sym (frozen_table-more side (take m facts) (drop m facts) id closed) ∙ ap (λ (all : List Fact). frozen_table side all id) (take-append-drop m facts)

-- what is confirmed stays so where the saved facts are among the first ones that are kept
pub confirms-through-restarts : (side : Side) (s : DeskState) (n : ℕ) (id : CycleId) (table : TableContents) → bad_fact side s.point s.facts ≡ None → s.saved ≤ n
    → confirmed side s id ≡ Some table → confirmed side (record { point = s.point; facts = take n s.facts; saved = n; halted = false; kept = [] }) id ≡ Some table
unfolding confirmed
confirms-through-restarts side s n id table legal below told =
    let peer = told_by (frozen_table side s.facts id) (peer_of id (take s.saved s.facts)) table told in
    let closed = met_closed side s.point (take s.saved s.facts) id peer.0 (legal-front side s.point s.facts s.saved legal) peer.1 in
    let frozen = frozen_front side s.facts s.saved n id below closed in
    let met = ap (peer_of id) (take-take n n s.facts (omega arith)) ∙ front_met (take s.saved s.facts) (take n s.facts) id peer.0 (front-longer s.facts s.saved n below) peer.1 in
    (λ t. option_map (lesser_of (frozen t)) (met t)) ∙ peer.2
