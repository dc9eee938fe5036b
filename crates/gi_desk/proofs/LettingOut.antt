-- What is let out, and to whom.
use Rattle.std.proofs.Common.{arith, nat_lt, ltb-false, ◌≡◌, ◌<◌, ◌≤◌, ◌+◌, ◌-◌, ℕ, suc, List, [], ◌∷◌, ◌++◌, length, take, drop, get_or, filter, map, Bool, true, false, not, cond, ◌||◌, Option, Some, None, refl, sym, ap, ◌∙◌, subst}
use Rattle.std.specs.Prelude.{is_some, slice_get}
use Rattle.std.specs.List.{insert, list_any, position_or_len}
use Rattle.std.specs.Option.{unwrap_or}
use Rattle.std.specs.Ordering.{is_le, is_lt}
use Rattle.std.specs.Str.{bytes_eq}
use Rattle.std.specs.declared.cmp.Ordering.{Ordering}
use Rattle.std.specs.declared.cmp.Ordering.TheVariants.{Less, Equal, Greater}
use Rattle.std.proofs.Math.ListN.{drop_of_length-le}
use Rattle.std.proofs.lemmas.List.{append-nil, drop_more, get_or-take, length-take, take-append-drop}
use Rattle.std.proofs.lemmas.List.Elements.{filter-append}
use Rattle.std.proofs.lemmas.List.Folds.{list_any-append}
use Rattle.std.proofs.lemmas.List.Sums.{passes_at_first, prefix_len-le-length}
use Rattle.std.proofs.lemmas.Map.Text.{is_eq-slice_cmp}
use Rattle.std.proofs.lemmas.Option.{slice_get_read}
use Rattle.std.proofs.lemmas.Slice.Eq.{bytes_eq-Decides}
use Rattle.gi_pairs.specs.Key.{code_cmp}
use Rattle.gi_pairs.specs.Table.{TableContents}
use Rattle.gi_pairs.specs.declared.cycle_id.CycleId.{CycleId}
use Rattle.gi_pairs.specs.declared.side.Side.{Side}
use Rattle.gi_messages.specs.declared.message.Message.{Message}
use Rattle.gi_messages.specs.declared.message.Message.TheVariants as messages
use Rattle.gi_messages.specs.declared.message.Nomint.{Nomint}
use Rattle.gi_cycles.specs.States.{FrozenCycle, MatchedCycle, matched_of}
use Rattle.gi_cycles.specs.declared.cycle_state.CycleState.TheVariants.{Matched}
use Rattle.gi_desk.specs.History.{frozen_cycle, frozen_table, is_closed, is_closing, is_meeting, met_by, number_of, peer_of, state_of}
use Rattle.gi_desk.specs.LetOut.{IsFact, if_fact, let_out, let_out_on_closing, packets_of, sent}
use Rattle.gi_desk.specs.Machine.{DeskState, bad_fact, is_for_peer, saved_out}
use Rattle.gi_desk.specs.Messages.{acknow_of, on_closed, on_met, portfolios_in, to_peer, to_user, told_of, told_packets, with_code}
use Rattle.gi_facts.specs.Same.{same_cycle}
use Rattle.gi_facts.specs.declared.fact.Fact.{Fact}
use Rattle.gi_facts.specs.declared.fact.Fact.TheVariants.{Contracted, Noticed, Nominated, Closed, Met}
use Rattle.gi_facts.proofs.SameLemmas.{same_cycle-self}
use Rattle.gi_desk.specs.declared.packet.Packet.{Packet}
use Rattle.gi_desk.proofs.CycleLaws.{peer_of-last, recorded-meeting}
use Rattle.gi_desk.proofs.HistoryLaws.{one_more}
use Rattle.gi_desk.proofs.Legality.{legal-at}
use Rattle.gi_desk.proofs.StateLaws.{frozen_table-more, is_closed-more, peer_of-more, state-closed}
use Rattle.gi_processing.specs.declared.rule.Rule.{Rule}

-- ---- the place of a code among others

-- the code is not above the other one
abbrev pub is_not_above : List ℕ → List ℕ → Bool
is_not_above code other = is_le (code_cmp code other)

-- it goes before the first code that it is not above, unless it is that one
stopped_by : (code other : List ℕ) (others : List (List ℕ)) (order : Ordering) → code_cmp code other ≡ order → is_le order ≡ true
    → with_code code (other ∷ others) ≡ cond (bytes_eq code other) (other ∷ others) (code ∷ other ∷ others)
stopped_by code other others Less e stops = rw (sym (is_eq-slice_cmp code other), e) refl
stopped_by code other others Equal e stops = rw (sym (is_eq-slice_cmp code other), e) refl
stopped_by code other others Greater e stops = absurd cc

passed_by : (code other : List ℕ) (others : List (List ℕ)) (order : Ordering) → code_cmp code other ≡ order → is_le order ≡ false
    → with_code code (other ∷ others) ≡ other ∷ with_code code others
passed_by code other others Less e passes = absurd cc
passed_by code other others Equal e passes = absurd cc
passed_by code other others Greater e passes = rw (sym (is_eq-slice_cmp code other), e) refl

abbrev place_of : List ℕ → List (List ℕ) → ℕ
place_of code codes = position_or_len (is_not_above code) codes

-- what goes into the codes from a place on
abbrev IsParted : List ℕ → List (List ℕ) → ℕ → Type 0
IsParted code codes place = with_code code codes ≡ take place codes ++ with_code code (drop place codes)

after_one : (n : ℕ) → suc n ≡ 1 + n
after_one n = omega arith

parted_by : (code other : List ℕ) (others : List (List ℕ)) (b : Bool) → is_not_above code other ≡ b → IsParted code others (place_of code others)
    → IsParted code (other ∷ others) (place_of code (other ∷ others))
parted_by code other others true e rest =
    subst (λ (b : Bool). IsParted code (other ∷ others) (cond (not b) (1 + place_of code others) 0)) (sym e) refl
parted_by code other others false e rest =
    subst (λ (b : Bool). IsParted code (other ∷ others) (cond (not b) (1 + place_of code others) 0)) (sym e)
    (subst (IsParted code (other ∷ others)) (after_one (place_of code others)) (passed_by code other others (code_cmp code other) refl e ∙ ap (λ codes. other ∷ codes) rest))

parted : (code : List ℕ) (codes : List (List ℕ)) → IsParted code codes (place_of code codes)
parted code [] = refl
parted code (other ∷ others) = parted_by code other others (is_not_above code other) refl (parted code others)

parted_at : (code : List ℕ) (codes : List (List ℕ)) (place : ℕ) (other : List ℕ) → place ≡ place_of code codes → place < length codes → other ≡ get_or codes place other
    → with_code code codes ≡ take place codes ++ cond (bytes_eq code other) (other ∷ drop (place + 1) codes) (code ∷ other ∷ drop (place + 1) codes)
parted_at code codes place other is below found =
    let at : get_or codes (place_of code codes) other ≡ other = ap (λ n. get_or codes n other) (sym is) ∙ sym found in
    let stops : is_not_above code other ≡ true =
    subst (λ (x : List ℕ). is_not_above code x ≡ true) at (passes_at_first (is_not_above code) codes other (subst (λ (n : ℕ). n < length codes) is below)) in
    subst (IsParted code codes) (sym is) (parted code codes)
    ∙ ap (λ rest. take place codes ++ with_code code rest) (drop_more codes place other below ∙ ap (λ x. x ∷ drop (place + 1) codes) (sym found))
    ∙ ap (λ rest. take place codes ++ rest) (stopped_by code other (drop (place + 1) codes) (code_cmp code other) refl stops)

-- it stands there
pub with_code-there : (code : List ℕ) (codes : List (List ℕ)) (place : ℕ) (other : List ℕ) → place ≡ position_or_len (is_not_above code) codes → place < length codes
    → other ≡ get_or codes place other → bytes_eq code other ≡ true → with_code code codes ≡ codes
with_code-there code codes place other is below found same =
    parted_at code codes place other is below found
    ∙ ap (λ b. take place codes ++ cond b (other ∷ drop (place + 1) codes) (code ∷ other ∷ drop (place + 1) codes)) same
    ∙ ap (λ x. take place codes ++ x ∷ drop (place + 1) codes) found
    ∙ ap (λ rest. take place codes ++ rest) (sym (drop_more codes place other below))
    ∙ take-append-drop place codes

-- it stands before others alone
pub with_code-before : (code : List ℕ) (codes : List (List ℕ)) (place : ℕ) (other : List ℕ) → place ≡ position_or_len (is_not_above code) codes → place < length codes
    → other ≡ get_or codes place other → bytes_eq code other ≡ false → with_code code codes ≡ insert codes place code
with_code-before code codes place other is below found differs =
    parted_at code codes place other is below found
    ∙ ap (λ b. take place codes ++ cond b (other ∷ drop (place + 1) codes) (code ∷ other ∷ drop (place + 1) codes)) differs
    ∙ ap (λ x. take place codes ++ code ∷ x ∷ drop (place + 1) codes) found
    ∙ ap (λ rest. take place codes ++ code ∷ rest) (sym (drop_more codes place other below))

-- or after all of them
pub with_code-last : (code : List ℕ) (codes : List (List ℕ)) (place : ℕ) → place ≡ position_or_len (is_not_above code) codes → length codes ≤ place
    → with_code code codes ≡ insert codes place code
with_code-last code codes place is above =
    subst (λ (n : ℕ). with_code code codes ≡ take n codes ++ with_code code (drop n codes)) (sym is) (parted code codes)
    ∙ ap (λ rest. take place codes ++ with_code code rest) (drop_of_length-le codes above)
    ∙ ap (λ rest. take place codes ++ code ∷ rest) (sym (drop_of_length-le codes above))

-- ---- a code that stands among others already

there : (code other : List ℕ) (others : List (List ℕ)) → bytes_eq code other ≡ true → with_code code (other ∷ others) ≡ other ∷ others
there code other others same = rw same refl

before : (code other : List ℕ) (others : List (List ℕ)) → bytes_eq code other ≡ false → is_lt (code_cmp code other) ≡ true → with_code code (other ∷ others) ≡ code ∷ other ∷ others
before code other others differs less = rw (differs, less) refl

after : (code other : List ℕ) (others : List (List ℕ)) → bytes_eq code other ≡ false → is_lt (code_cmp code other) ≡ false → with_code code (other ∷ others) ≡ other ∷ with_code code others
after code other others differs above = rw (differs, above) refl

twice_by : (code other : List ℕ) (others : List (List ℕ)) (same less : Bool) → bytes_eq code other ≡ same → is_lt (code_cmp code other) ≡ less
    → with_code code (with_code code others) ≡ with_code code others → with_code code (with_code code (other ∷ others)) ≡ with_code code (other ∷ others)
twice_by code other others true less e f rest = ap (with_code code) (there code other others e)
twice_by code other others false true e f rest =
    ap (with_code code) (before code other others e f) ∙ there code code (other ∷ others) ((bytes_eq-Decides code code).1 refl) ∙ sym (before code other others e f)
twice_by code other others false false e f rest =
    ap (with_code code) (after code other others e f) ∙ after code other (with_code code others) e f ∙ ap (λ codes. other ∷ codes) rest ∙ sym (after code other others e f)

pub with_code_twice : (code : List ℕ) (codes : List (List ℕ)) → with_code code (with_code code codes) ≡ with_code code codes
with_code_twice code [] = there code code [] ((bytes_eq-Decides code code).1 refl)
with_code_twice code (other ∷ others) = twice_by code other others (bytes_eq code other) (is_lt (code_cmp code other)) refl refl (with_code_twice code others)

pub found_place : (code : List ℕ) (codes : List (List ℕ)) (found : Option ℕ) (len place : ℕ)
    → found ≡ cond (nat_lt (position_or_len (is_not_above code) codes) (length codes)) (Some (position_or_len (is_not_above code) codes)) None
    → len ≡ length codes → place ≡ unwrap_or found len → place ≡ position_or_len (is_not_above code) codes
found_place code codes found len place found_is len_is place_is =
    place_is ∙ (λ t. unwrap_or (found_is t) (len_is t)) ∙ by_test (nat_lt (position_or_len (is_not_above code) codes) (length codes)) refl
  where
    by_test : (b : Bool) → nat_lt (position_or_len (is_not_above code) codes) (length codes) ≡ b → unwrap_or (cond b (Some (position_or_len (is_not_above code) codes)) None) (length codes) ≡ position_or_len (is_not_above code) codes
    by_test true e = refl
    by_test false e =
        let above = ltb-false (position_or_len (is_not_above code) codes) (length codes) e in
        let within = prefix_len-le-length (λ other. not (is_not_above code other)) codes in
        omega (arith, above, within)

-- ---- where a fact stands

front : (facts : List Fact) (n : ℕ) (fact : Fact) → IsFact facts n fact → take n facts ≡ take (n - 1) facts ++ fact ∷ []
front facts n fact is =
    let from = is.0 in
    let to = is.1 in
    let next : n ≡ (n - 1) + 1 = omega (arith, from) in
    ap (λ (m : ℕ). take m facts) next ∙ one_more facts (n - 1) fact (omega (arith, from, to)) is.2

-- what it lets out is said by the facts up to it
pub let_out-is : (side : Side) (point : List ℕ) (facts : List Fact) (n : ℕ) (fact : Fact) → IsFact facts n fact → let_out side point facts n ≡ packets_of side point (take n facts) fact
unfolding let_out
let_out-is side point facts n fact is =
    let from = is.0 in
    let to = is.1 in
    let below : n - 1 < n = omega (arith, from) in
    let found : slice_get (take n facts) (n - 1) ≡ Some fact =
    slice_get_read (take n facts) n (n - 1) fact (grind (length-take, arith, to)) below (is.2 ∙ sym (get_or-take n facts (n - 1) fact below)) in
    ap (if_fact side point (take n facts)) found

-- ---- a closing

closed_front : (facts : List Fact) (n : ℕ) (id : CycleId) (rule : Rule) → IsFact facts n (Closed id rule) → is_closed id (take n facts) ≡ true
unfolding is_closed
closed_front facts n id rule is =
    ap (list_any (is_closing id)) (front facts n (Closed id rule) is)
    ∙ list_any-append (is_closing id) (take (n - 1) facts) (Closed id rule ∷ [])
    ∙ closes (list_any (is_closing id) (take (n - 1) facts)) (same_cycle id id) (same_cycle-self id)
  where
    closes : (b c : Bool) → c ≡ true → (b || (c || false)) ≡ true
    closes true c e = refl
    closes false c e = rw e refl

whole : (facts : List Fact) (n : ℕ) → take n facts ++ drop n facts ≡ facts
whole facts n = take-append-drop n facts

-- it stays closed, with the same table
closed_whole : (facts : List Fact) (n : ℕ) (id : CycleId) → is_closed id (take n facts) ≡ true → is_closed id facts ≡ true
closed_whole facts n id closed = subst (λ (all : List Fact). is_closed id all ≡ true) (whole facts n) (is_closed-more id (take n facts) (drop n facts) closed)

frozen_whole : (side : Side) (facts : List Fact) (n : ℕ) (id : CycleId) → is_closed id (take n facts) ≡ true → frozen_cycle side (take n facts) id ≡ frozen_cycle side facts id
frozen_whole side facts n id closed =
    let same : frozen_table side (take n facts) id ≡ frozen_table side facts id =
    sym (frozen_table-more side (take n facts) (drop n facts) id closed) ∙ ap (λ (all : List Fact). frozen_table side all id) (whole facts n) in
    λ t. record { id = id; own = same t }

pub fact_closes : (facts : List Fact) (n : ℕ) (id : CycleId) (rule : Rule) → IsFact facts n (Closed id rule) → is_closed id facts ≡ true
fact_closes facts n id rule is = closed_whole facts n id (closed_front facts n id rule is)

met_closing : (side : Side) (point : List ℕ) (cycle : FrozenCycle) (peer : Option TableContents) → sent (on_closed side point cycle) ≡ let_out_on_closing side point (met_by cycle peer)
met_closing side point cycle None = refl
met_closing side point cycle (Some peer) = refl

pub closing_lets_out : (side : Side) (point : List ℕ) (facts : List Fact) (n : ℕ) (id : CycleId) (rule : Rule) → IsFact facts n (Closed id rule)
    → let_out_on_closing side point (state_of side facts id) ≡ let_out side point facts n
closing_lets_out side point facts n id rule is =
    let closed = closed_front facts n id rule is in
    sym (
    let_out-is side point facts n (Closed id rule) is
    ∙ ap (λ (cycle : FrozenCycle). sent (on_closed side point cycle)) (frozen_whole side facts n id closed)
    ∙ met_closing side point (frozen_cycle side facts id) (peer_of id facts)
    ∙ ap (let_out_on_closing side point) (sym (state-closed side facts id (closed_whole facts n id closed)))
    )

-- all of it is for the peer
sent_for_peer : (messages : List Message) → filter is_for_peer (sent messages) ≡ sent messages
sent_for_peer [] = refl
sent_for_peer (message ∷ messages) = ap (λ (packets : List Packet). to_peer message ∷ packets) (sent_for_peer messages)

pub closing_for_peer : (side : Side) (point : List ℕ) (facts : List Fact) (n : ℕ) (id : CycleId) (rule : Rule) → IsFact facts n (Closed id rule)
    → let_out_on_closing side point (state_of side facts id) ≡ filter is_for_peer (let_out side point facts n)
closing_for_peer side point facts n id rule is =
    let out = let_out-is side point facts n (Closed id rule) is in
    sym (ap (filter is_for_peer) out ∙ sent_for_peer (on_closed side point (frozen_cycle side (take n facts) id)) ∙ sym out ∙ sym (closing_lets_out side point facts n id rule is))

-- ---- a meeting

met_front : (side : Side) (point : List ℕ) (facts : List Fact) (n : ℕ) (id : CycleId) (peer : TableContents) → bad_fact side point facts ≡ None → IsFact facts n (Met id peer)
    → (is_closed id (take n facts) ≡ true) × (peer_of id (take n facts) ≡ Some peer)
met_front side point facts n id peer legal is =
    let from = is.0 in
    let to = is.1 in
    let before = recorded-meeting side point (take (n - 1) facts) id peer (legal-at side point facts (n - 1) (Met id peer) legal (omega (arith, from, to)) is.2) in
    let same = sym (front facts n (Met id peer) is) in (
      subst (λ (some : List Fact). is_closed id some ≡ true) same (is_closed-more id (take (n - 1) facts) (Met id peer ∷ []) before.closed),
      subst (λ (some : List Fact). peer_of id some ≡ Some peer) same (peer_of-last (take (n - 1) facts) id peer before.unmet),
    )

pub fact_meets : (side : Side) (point : List ℕ) (facts : List Fact) (n : ℕ) (id : CycleId) (peer : TableContents) → bad_fact side point facts ≡ None → IsFact facts n (Met id peer)
    → (is_closed id facts ≡ true) × (peer_of id facts ≡ Some peer)
fact_meets side point facts n id peer legal is =
    let met = met_front side point facts n id peer legal is in (
      closed_whole facts n id met.0,
      subst (λ (all : List Fact). peer_of id all ≡ Some peer) (whole facts n) (peer_of-more id (take n facts) (drop n facts) peer met.1),
    )

-- a closed cycle that met a table is matched
matched_by : (cycle : FrozenCycle) (found : Option TableContents) → is_some found ≡ true → (peer : TableContents) × (met_by cycle found ≡ Matched (matched_of cycle peer))
matched_by cycle None some = absurd cc
matched_by cycle (Some peer) some = (peer, refl)

pub is_matched : (side : Side) (facts : List Fact) (id : CycleId) → is_closed id facts ≡ true → is_some (peer_of id facts) ≡ true
    → (cycle : MatchedCycle) × (state_of side facts id ≡ Matched cycle)
is_matched side facts id closed met =
    let own = frozen_cycle side facts id in
    let matched = matched_by own (peer_of id facts) met in (matched_of own matched.0, state-closed side facts id closed ∙ matched.1)

matched_is : (a b : MatchedCycle) → Matched a ≡ Matched b → a ≡ b
matched_is a b e = cc

-- so it is that of all facts
pub met_cycle : (side : Side) (point : List ℕ) (facts : List Fact) (n : ℕ) (id : CycleId) (peer : TableContents) (cycle : MatchedCycle) → bad_fact side point facts ≡ None
    → IsFact facts n (Met id peer) → Matched cycle ≡ state_of side facts id → cycle ≡ matched_of (frozen_cycle side (take n facts) id) peer
met_cycle side point facts n id peer cycle legal is found =
    let met = fact_meets side point facts n id peer legal is in
    let closed = (met_front side point facts n id peer legal is).0 in
    matched_is cycle (matched_of (frozen_cycle side (take n facts) id) peer) (
    found ∙ state-closed side facts id met.0
    ∙ ap (met_by (frozen_cycle side facts id)) met.1
    ∙ ap (λ (own : FrozenCycle). Matched (matched_of own peer)) (sym (frozen_whole side facts n id closed))
    )

pub meeting_lets_out : (side : Side) (point : List ℕ) (facts : List Fact) (n : ℕ) (id : CycleId) (peer : TableContents) (cycle : MatchedCycle) → bad_fact side point facts ≡ None
    → IsFact facts n (Met id peer) → Matched cycle ≡ state_of side facts id
    → sent (on_met side point cycle) ++ told_packets side point cycle ≡ let_out side point facts n
meeting_lets_out side point facts n id peer cycle legal is found =
    ap (λ (met : MatchedCycle). sent (on_met side point met) ++ told_packets side point met) (met_cycle side point facts n id peer cycle legal is found)
    ∙ sym (let_out-is side point facts n (Met id peer) is)

-- what is told is not for the peer
told_for_none : (side : Side) (point : List ℕ) (cycle : MatchedCycle) (portfolios : List (List ℕ))
    → filter is_for_peer (map (λ portfolio. to_user portfolio (messages.Nomres (told_of side point cycle portfolio))) portfolios) ≡ []
told_for_none side point cycle [] = refl
told_for_none side point cycle (portfolio ∷ portfolios) = told_for_none side point cycle portfolios

told_for_peer : (side : Side) (point : List ℕ) (cycle : MatchedCycle) → filter is_for_peer (told_packets side point cycle) ≡ []
unfolding told_packets
told_for_peer side point cycle = told_for_none side point cycle (portfolios_in side cycle.confirmed.rows)

pub meeting_for_peer : (side : Side) (point : List ℕ) (facts : List Fact) (n : ℕ) (id : CycleId) (peer : TableContents) (cycle : MatchedCycle) → bad_fact side point facts ≡ None
    → IsFact facts n (Met id peer) → Matched cycle ≡ state_of side facts id → sent (on_met side point cycle) ≡ filter is_for_peer (let_out side point facts n)
meeting_for_peer side point facts n id peer cycle legal is found =
    let out = meeting_lets_out side point facts n id peer cycle legal is found in
    sym (
    ap (filter is_for_peer) (sym out)
    ∙ filter-append is_for_peer (sent (on_met side point cycle)) (told_packets side point cycle)
    ∙ (λ t. sent_for_peer (on_met side point cycle) t ++ told_for_peer side point cycle t)
    ∙ append-nil (sent (on_met side point cycle))
    )

-- ---- other facts

pub taking_lets_out : (side : Side) (point : List ℕ) (facts : List Fact) (n : ℕ) (document : Nomint) → IsFact facts n (Nominated document)
    → to_user document.portfolio (messages.Acknow (acknow_of document)) ∷ [] ≡ let_out side point facts n
taking_lets_out side point facts n document is = sym (let_out-is side point facts n (Nominated document) is)

-- what neither closes nor meets a cycle lets out nothing to the peer
none_for_peer : (side : Side) (point : List ℕ) (facts : List Fact) (fact : Fact) → ((id : CycleId) (rule : Rule) → fact ≡ Closed id rule → ⊥)
    → ((id : CycleId) (peer : TableContents) → fact ≡ Met id peer → ⊥) → [] ≡ filter is_for_peer (packets_of side point facts fact)
none_for_peer side point facts (Contracted contract) closed met = refl
none_for_peer side point facts (Noticed notice) closed met = refl
none_for_peer side point facts (Nominated document) closed met = refl
none_for_peer side point facts (Closed id rule) closed met = absurd (closed id rule refl)
none_for_peer side point facts (Met id peer) closed met = absurd (met id peer refl)

pub other_for_peer : (side : Side) (point : List ℕ) (facts : List Fact) (n : ℕ) (fact : Fact) → IsFact facts n fact → ((id : CycleId) (rule : Rule) → fact ≡ Closed id rule → ⊥)
    → ((id : CycleId) (peer : TableContents) → fact ≡ Met id peer → ⊥) → [] ≡ filter is_for_peer (let_out side point facts n)
other_for_peer side point facts n fact is closed met =
    none_for_peer side point (take n facts) fact closed met ∙ sym (ap (filter is_for_peer) (let_out-is side point facts n fact is))

-- and where it takes no nomination either, nothing at all
none_out : (side : Side) (point : List ℕ) (facts : List Fact) (fact : Fact) → ((document : Nomint) → fact ≡ Nominated document → ⊥) → ((id : CycleId) (rule : Rule) → fact ≡ Closed id rule → ⊥)
    → ((id : CycleId) (peer : TableContents) → fact ≡ Met id peer → ⊥) → [] ≡ packets_of side point facts fact
none_out side point facts (Contracted contract) taken closed met = refl
none_out side point facts (Noticed notice) taken closed met = refl
none_out side point facts (Nominated document) taken closed met = absurd (taken document refl)
none_out side point facts (Closed id rule) taken closed met = absurd (closed id rule refl)
none_out side point facts (Met id peer) taken closed met = absurd (met id peer refl)

pub other_lets_out : (side : Side) (point : List ℕ) (facts : List Fact) (n : ℕ) (fact : Fact) → IsFact facts n fact → ((document : Nomint) → fact ≡ Nominated document → ⊥)
    → ((id : CycleId) (rule : Rule) → fact ≡ Closed id rule → ⊥) → ((id : CycleId) (peer : TableContents) → fact ≡ Met id peer → ⊥) → [] ≡ let_out side point facts n
other_lets_out side point facts n fact is taken closed met =
    none_out side point (take n facts) fact taken closed met ∙ sym (let_out-is side point facts n fact is)

-- what the closing and the meeting of a cycle let out, one after the other
pub both_out : (side : Side) (s : DeskState) (id : CycleId) (closing meeting : ℕ) (first second packets : List Packet) → closing ≡ number_of (is_closing id) s.facts
    → meeting ≡ number_of (is_meeting id) s.facts → first ≡ saved_out side s closing → second ≡ saved_out side s meeting → packets ≡ first ++ second
    → packets ≡ saved_out side s (number_of (is_closing id) s.facts) ++ saved_out side s (number_of (is_meeting id) s.facts)
both_out side s id closing meeting first second packets closes meets first_is second_is joined =
    joined ∙ (λ t. first_is t ++ second_is t) ∙ (λ t. saved_out side s (closes t) ++ saved_out side s (meets t))
