-- What is delivered to a side reads as the other side's order, or response, of a cycle that this one closed, or met, and
-- saved.
use Rattle.std.proofs.Common.{arith, ◌≡◌, ◌<◌, ◌≤◌, ◌+◌, ◌-◌, ◌⊎◌, inl, inr, ℕ, zero, suc, List, [], ◌∷◌, length, length-take, take, get_or, get_or-take, filter, map, slice_get, All, Contains, Bool, true, Option, Some, None, Ok, refl, sym, ap, ◌∙◌, subst}
use Rattle.std.specs.Int.{IsInRange}
use Rattle.std.specs.List.{range_with_len}
use Rattle.std.proofs.lemmas.List.Elements.{All-head, All-tail}
use Rattle.std.proofs.lemmas.List.FromFn.{get_or-range_with_len, length-range_with_len}
use Rattle.gi_pairs.specs.Code.{IsCode}
use Rattle.gi_pairs.specs.Table.{TableContents}
use Rattle.gi_pairs.specs.declared.cycle_id.CycleId.{CycleId}
use Rattle.gi_pairs.specs.declared.side.Side.{Side}
use Rattle.gi_pairs.specs.declared.side.Side.TheVariants.{I, M}
use Rattle.gi_pairs.proofs.Building.{contains_from_in, in_from_contains}
use Rattle.gi_pairs.proofs.Members.{from_map, in_filter}
use Rattle.gi_messages.specs.Decoding.{decoded}
use Rattle.gi_messages.specs.Writing.{text_of}
use Rattle.gi_messages.specs.declared.message.Message.{Message}
use Rattle.gi_messages.specs.declared.message.Message.TheVariants as messages
use Rattle.gi_cycles.specs.States.{FrozenCycle, MatchedCycle, matched_of}
use Rattle.gi_cycles.specs.declared.cycle_state.CycleState.TheVariants.{Matched}
use Rattle.gi_parts.specs.Splitting.{parts_of_whole}
use Rattle.gi_desk.specs.History.{frozen_cycle, is_closed, met_by, peer_of, state_of}
use Rattle.gi_desk.specs.LetOut.{IsFact, let_out, let_out_on_closing, sent}
use Rattle.gi_desk.specs.Machine.{DeskState, bad_fact, is_for_peer}
use Rattle.gi_desk.specs.Messages.{on_met, order_of, order_part, orders_of, response_of, response_part, to_peer}
use Rattle.gi_desk.specs.Writable.{FitsDesk, FitsFrozen, FitsMatched, FitsState}
use Rattle.gi_facts.specs.declared.fact.Fact.{Fact}
use Rattle.gi_facts.specs.declared.fact.Fact.TheVariants.{Contracted, Noticed, Nominated, Closed, Met}
use Rattle.gi_desk.specs.declared.packet.Packet.{Packet}
use Rattle.gi_desk.proofs.Fitting.{state-fits}
use Rattle.gi_desk.proofs.Legality.{legal-front}
use Rattle.gi_desk.proofs.LettingOut.{closing_for_peer, fact_closes, fact_meets, meeting_for_peer, other_for_peer}
use Rattle.gi_desk.proofs.ReadableLaws.{order-fits, read_back, response-fits}
use Rattle.gi_desk.proofs.StateLaws.{state-closed}
use Rattle.gi_world.specs.Agreement.{FitsWorld, IsLegal, IsOrdered, IsResponded, IsSent, IsSound, saved_facts}
use Rattle.gi_world.specs.World.{WorldState, delivery, packet_at}
use Rattle.gi_processing.specs.declared.rule.Rule.{Rule}

-- ---- lists

-- what a test keeps of a list holds what passes
kept : {X : Type 0} (test : X → Bool) (xs : List X) (x : X) → Contains xs x → test x ≡ true → Contains (filter test xs) x
kept test xs x there is = contains_from_in x (filter test xs) (in_filter test x xs (in_from_contains x xs there) is)

the_one : (x y : Packet) → Contains (x ∷ []) y → x ≡ y
the_one x y there = by_place (in_from_contains y (x ∷ []) there)
  where
    by_place : (x ≡ y) ⊎ ⊥ → x ≡ y
    by_place (inl is) = is
    by_place (inr none) = absurd none

-- what holds of all packets holds of the one of a number
holds_at : (P : Packet → Type 0) (packets : List Packet) (i : ℕ) (packet : Packet) → All P packets → slice_get packets i ≡ Some packet → P packet
holds_at P [] i packet all e = absurd cc
holds_at P (first ∷ packets) zero packet all e = let same : first ≡ packet = cc in subst P same (All-head P first packets all)
holds_at P (first ∷ packets) (suc i) packet all e = holds_at P packets i packet (All-tail P first packets all) e

holds_of : (P : Packet → Type 0) (packets : List Packet) (n : ℕ) (packet : Packet) → All P packets → packet_at packets n ≡ Some packet → P packet
holds_of P packets zero packet all e = absurd cc
holds_of P packets (suc i) packet all e = holds_at P packets i packet all e

-- ---- the fact of a number

some_at : (facts : List Fact) (i : ℕ) → i < length facts → (fact : Fact) × (fact ≡ get_or facts i fact)
some_at [] i below = absurd (omega (arith, below))
some_at (fact ∷ facts) zero below = (fact, refl)
some_at (fact ∷ facts) (suc i) below = some_at facts i (omega (arith, below))

pub some_fact : (facts : List Fact) (n : ℕ) → 1 ≤ n → n ≤ length facts → (fact : Fact) × IsFact facts n fact
some_fact facts n from to = let found = some_at facts (n - 1) (omega (arith, from, to)) in (found.0, (from, to, found.1))

-- one of the first facts is so among them
pub saved_fact : (facts : List Fact) (saved n : ℕ) (fact : Fact) → IsFact facts n fact → n ≤ saved → IsFact (take saved facts) n fact
saved_fact facts saved n fact is below =
    let from = is.0 in
    let to = is.1 in
    (from, grind (length-take, arith, to, below), is.2 ∙ sym (get_or-take saved facts (n - 1) fact (omega (arith, from, below))))

-- ---- what is written is read

pub order_reads : {side : Side} (point : List ℕ) (cycle : FrozenCycle) (number : ℕ) → IsCode point → FitsFrozen side cycle → IsInRange 1 (parts_of_whole (order_of cycle)) number
    → let message = messages.Delord (order_part point cycle number) in decoded (text_of message) ≡ Ok message
order_reads point cycle number code fits within = read_back (messages.Delord (order_part point cycle number)) (order-fits point cycle number code fits within) tt

pub response_reads : {side : Side} (point : List ℕ) (cycle : MatchedCycle) (number : ℕ) → IsCode point → FitsMatched side cycle → IsInRange 1 (parts_of_whole (response_of cycle)) number
    → let message = messages.Delres (response_part point cycle number) in decoded (text_of message) ≡ Ok message
response_reads point cycle number code fits within = read_back (messages.Delres (response_part point cycle number)) (response-fits point cycle number code fits within) tt

-- ---- the state of a closed cycle can be written

pub closed_fits : (side : Side) (point : List ℕ) (facts : List Fact) (id : CycleId) → FitsDesk side point facts → is_closed id facts ≡ true
    → FitsState side (met_by (frozen_cycle side facts id) (peer_of id facts))
closed_fits side point facts id fits closed = subst (FitsState side) (state-closed side facts id closed) (state-fits side facts id fits.states closed)

pub frozen_fits : (side : Side) (cycle : FrozenCycle) (met : Option TableContents) → FitsState side (met_by cycle met) → FitsFrozen side cycle
frozen_fits side cycle None fits = fits
frozen_fits side cycle (Some peer) fits = record { id = fits.id; own = fits.own; few_of_each = fits.few_of_each }

-- ---- what a closing and a meeting let out to the peer

pub ordered_by : (point : List ℕ) (cycle : FrozenCycle) (met : Option TableContents) → let_out_on_closing I point (met_by cycle met) ≡ sent (orders_of point cycle)
ordered_by point cycle None = refl
ordered_by point cycle (Some peer) = refl

pub unanswered_by : (point : List ℕ) (cycle : FrozenCycle) (met : Option TableContents) → let_out_on_closing M point (met_by cycle met) ≡ []
unanswered_by point cycle None = refl
unanswered_by point cycle (Some peer) = refl

-- at the initiating side a closing lets out its order
closing_orders : (point : List ℕ) (facts : List Fact) (n : ℕ) (id : CycleId) (rule : Rule) → IsFact facts n (Closed id rule)
    → filter is_for_peer (let_out I point facts n) ≡ sent (orders_of point (frozen_cycle I facts id))
closing_orders point facts n id rule is =
    sym (closing_for_peer I point facts n id rule is)
    ∙ ap (let_out_on_closing I point) (state-closed I facts id (fact_closes facts n id rule is))
    ∙ ordered_by point (frozen_cycle I facts id) (peer_of id facts)

-- at the matching one nothing
closing_is_silent : (point : List ℕ) (facts : List Fact) (n : ℕ) (id : CycleId) (rule : Rule) → IsFact facts n (Closed id rule) → filter is_for_peer (let_out M point facts n) ≡ []
closing_is_silent point facts n id rule is =
    sym (closing_for_peer M point facts n id rule is)
    ∙ ap (let_out_on_closing M point) (state-closed M facts id (fact_closes facts n id rule is))
    ∙ unanswered_by point (frozen_cycle M facts id) (peer_of id facts)

-- a meeting lets out what the role writes of it
meeting_writes : (side : Side) (point : List ℕ) (facts : List Fact) (n : ℕ) (id : CycleId) (peer : TableContents) → bad_fact side point facts ≡ None → IsFact facts n (Met id peer)
    → filter is_for_peer (let_out side point facts n) ≡ sent (on_met side point (matched_of (frozen_cycle side facts id) peer))
meeting_writes side point facts n id peer legal is =
    let met = fact_meets side point facts n id peer legal is in
    let cycle = matched_of (frozen_cycle side facts id) peer in
    let matched : state_of side facts id ≡ Matched cycle = state-closed side facts id met.0 ∙ ap (met_by (frozen_cycle side facts id)) met.1 in
    sym (meeting_for_peer side point facts n id peer cycle legal is (sym matched))

pub none_there : (packets : List Packet) (packet : Packet) → packets ≡ [] → Contains packets packet → ⊥
none_there packets packet none there = in_from_contains packet [] (subst (λ (out : List Packet). Contains out packet) none there)

-- what stands among the messages of all parts of so many is one of these
pub part_there : (packets : List Packet) (packet : Packet) (message : ℕ → Message) (parts : ℕ) → packets ≡ sent (map message (range_with_len 1 parts)) → Contains packets packet
    → (number : ℕ) × IsInRange 1 parts number × (to_peer (message number) ≡ packet)
part_there packets packet message parts is there =
    let numbers = range_with_len 1 parts in
    let among = from_map to_peer packet (map message numbers) (in_from_contains packet (map to_peer (map message numbers)) (subst (λ (out : List Packet). Contains out packet) is there)) in
    let which = from_map message among.0 numbers among.1 in
    let (k, below, at) = contains_from_in which.0 numbers which.1 in
    let few : k < parts = omega (arith, below, length-range_with_len 1 parts) in
    let place : 1 + k ≡ which.0 = sym (get_or-range_with_len 1 parts k which.0 few) ∙ at in
    (which.0, (omega (arith, place), omega (arith, place, few)), ap to_peer which.2 ∙ among.2)

pub one_there : (packets : List Packet) (one packet : Packet) → packets ≡ one ∷ [] → Contains packets packet → one ≡ packet
one_there packets one packet is there = the_one one packet (subst (λ (out : List Packet). Contains out packet) is there)

abbrev ToPeer : Side → DeskState → ℕ → List Packet
ToPeer side s n = filter is_for_peer (let_out side s.point s.facts n)

-- ---- orders

order_of_fact : (w : WorldState) (n : ℕ) (fact : Fact) (packet : Packet) → let s = w.initiating.desk in IsLegal I s → FitsDesk I s.point s.facts → n ≤ s.saved → IsFact s.facts n fact
    → Contains (ToPeer I s n) packet → IsOrdered w packet
order_of_fact w n (Contracted contract) packet legal fits below is there =
    let s = w.initiating.desk in absurd (none_there (ToPeer I s n) packet (sym (other_for_peer I s.point s.facts n (Contracted contract) is (λ id rule e. cc) (λ id peer e. cc))) there)
order_of_fact w n (Noticed notice) packet legal fits below is there =
    let s = w.initiating.desk in absurd (none_there (ToPeer I s n) packet (sym (other_for_peer I s.point s.facts n (Noticed notice) is (λ id rule e. cc) (λ id peer e. cc))) there)
order_of_fact w n (Nominated document) packet legal fits below is there =
    let s = w.initiating.desk in absurd (none_there (ToPeer I s n) packet (sym (other_for_peer I s.point s.facts n (Nominated document) is (λ id rule e. cc) (λ id peer e. cc))) there)
order_of_fact w n (Met id peer) packet legal fits below is there =
    let s = w.initiating.desk in absurd (none_there (ToPeer I s n) packet (meeting_writes I s.point s.facts n id peer legal.legal is) there)
order_of_fact w n (Closed id rule) packet legal fits below is there =
    let s = w.initiating.desk in
    let cycle = frozen_cycle I s.facts id in
    let parts = parts_of_whole (order_of cycle) in
    let (number, within, same) = part_there (ToPeer I s n) packet (λ number. messages.Delord (order_part s.point cycle number)) parts (closing_orders s.point s.facts n id rule is) there in
    let frozen = frozen_fits I cycle (peer_of id s.facts) (closed_fits I s.point s.facts id fits (fact_closes s.facts n id rule is)) in
    record {
      id = id;
      number = number;
      closed = fact_closes (saved_facts s) n id rule (saved_fact s.facts s.saved n (Closed id rule) is below);
      within = within;
      reads = subst (λ (p : Packet). decoded p.body ≡ Ok (messages.Delord (order_part s.point cycle number))) same (order_reads s.point cycle number fits.point frozen within);
    }

-- ---- responses

response_of_fact : (w : WorldState) (n : ℕ) (fact : Fact) (packet : Packet) → let s = w.matching.desk in IsLegal M s → FitsDesk M s.point s.facts → n ≤ s.saved → IsFact s.facts n fact
    → Contains (ToPeer M s n) packet → IsResponded w packet
response_of_fact w n (Contracted contract) packet legal fits below is there =
    let s = w.matching.desk in absurd (none_there (ToPeer M s n) packet (sym (other_for_peer M s.point s.facts n (Contracted contract) is (λ id rule e. cc) (λ id peer e. cc))) there)
response_of_fact w n (Noticed notice) packet legal fits below is there =
    let s = w.matching.desk in absurd (none_there (ToPeer M s n) packet (sym (other_for_peer M s.point s.facts n (Noticed notice) is (λ id rule e. cc) (λ id peer e. cc))) there)
response_of_fact w n (Nominated document) packet legal fits below is there =
    let s = w.matching.desk in absurd (none_there (ToPeer M s n) packet (sym (other_for_peer M s.point s.facts n (Nominated document) is (λ id rule e. cc) (λ id peer e. cc))) there)
response_of_fact w n (Closed id rule) packet legal fits below is there =
    let s = w.matching.desk in absurd (none_there (ToPeer M s n) packet (closing_is_silent s.point s.facts n id rule is) there)
response_of_fact w n (Met id peer) packet legal fits below is there =
    let s = w.matching.desk in
    let cycle = matched_of (frozen_cycle M s.facts id) peer in
    let parts = parts_of_whole (response_of cycle) in
    let (number, within, same) = part_there (ToPeer M s n) packet (λ number. messages.Delres (response_part s.point cycle number)) parts (meeting_writes M s.point s.facts n id peer legal.legal is) there in
    let all = fact_meets M s.point s.facts n id peer legal.legal is in
    let matched = subst (λ (met : Option TableContents). FitsState M (met_by (frozen_cycle M s.facts id) met)) all.1 (closed_fits M s.point s.facts id fits all.0) in
    let saved =
    fact_meets M s.point (saved_facts s) n id peer (legal-front M s.point s.facts s.saved legal.legal) (saved_fact s.facts s.saved n (Met id peer) is below) in
    record {
      id = id;
      number = number;
      peer = peer;
      met = saved.1;
      closed = saved.0;
      within = within;
      reads = subst (λ (p : Packet). decoded p.body ≡ Ok (messages.Delres (response_part s.point cycle number))) same (response_reads s.point cycle number fits.point matched within);
    }

-- ---- deliveries

pub sent-order : (w : WorldState) (packet : Packet) → let s = w.initiating.desk in IsLegal I s → FitsDesk I s.point s.facts → IsSent I s packet → IsOrdered w packet
sent-order w packet legal fits is =
    let s = w.initiating.desk in
    let to = is.to in
    let within = legal.within in
    let fact = some_fact s.facts is.n is.from (omega (arith, to, within)) in
    order_of_fact w is.n fact.0 packet legal fits to fact.1 (kept is_for_peer (let_out I s.point s.facts is.n) packet is.let_out_by is.passes)

pub sent-response : (w : WorldState) (packet : Packet) → let s = w.matching.desk in IsLegal M s → FitsDesk M s.point s.facts → IsSent M s packet → IsResponded w packet
sent-response w packet legal fits is =
    let s = w.matching.desk in
    let to = is.to in
    let within = legal.within in
    let fact = some_fact s.facts is.n is.from (omega (arith, to, within)) in
    response_of_fact w is.n fact.0 packet legal fits to fact.1 (kept is_for_peer (let_out M s.point s.facts is.n) packet is.let_out_by is.passes)

pub delivered-order : (w : WorldState) (n : ℕ) (packet : Packet) → IsSound w → FitsWorld w → delivery w M n ≡ Some packet → IsOrdered w packet
delivered-order w n packet sound fits e = sent-order w packet (sound.legal I) (fits I) (holds_of (IsSent I w.initiating.desk) w.initiating.sent n packet (sound.sent I) e)

pub delivered-response : (w : WorldState) (n : ℕ) (packet : Packet) → IsSound w → FitsWorld w → delivery w I n ≡ Some packet → IsResponded w packet
delivered-response w n packet sound fits e = sent-response w packet (sound.legal M) (fits M) (holds_of (IsSent M w.matching.desk) w.matching.sent n packet (sound.sent M) e)
