-- What a desk tells from its saved facts: of a cycle that met, and all that they let out.
use Rattle.std.proofs.Common.{arith, ◌≡◌, ◌≤◌, ◌+◌, ◌-◌, ℕ, zero, suc, List, [], ◌++◌, Bool, true, false, cond, nat_lt, Option, Some, None, option_and_then, refl, sym, ap, ◌∙◌}
use Rattle.std.specs.Prelude.{max, option_map}
use Rattle.std.specs.List.{flat_map, range_with_len}
use Rattle.std.proofs.Math.Nat.{max_comm}
use Rattle.std.proofs.lemmas.Bool.Decides.{nat_tests}
use Rattle.std.proofs.lemmas.List.{append-nil, append_assoc}
use Rattle.gi_pairs.specs.Table.{TableContents}
use Rattle.gi_pairs.specs.declared.cycle_id.CycleId.{CycleId}
use Rattle.gi_pairs.specs.declared.side.Side.{Side}
use Rattle.gi_cycles.specs.States.{FrozenCycle, matched_of}
use Rattle.gi_cycles.specs.declared.cycle_state.CycleState.{CycleState}
use Rattle.gi_cycles.specs.declared.cycle_state.CycleState.TheVariants.{Collecting, Frozen}
use Rattle.gi_desk.specs.History.{frozen_cycle, is_closed, is_meeting, met_by, number_of, peer_of, state_of}
use Rattle.gi_desk.specs.Caches.{closed_state}
use Rattle.gi_desk.specs.LetOut.{let_out}
use Rattle.gi_desk.specs.Machine.{DeskState, bad_fact}
use Rattle.gi_desk.specs.Queries.{matched_in, met_saved, outgoing}
use Rattle.gi_facts.specs.declared.fact.Fact.{Fact}
use Rattle.gi_desk.specs.declared.packet.Packet.{Packet}
use Rattle.gi_desk.proofs.Confirmed.{met_matched, peer_of-beyond, peer_of-within}

-- ---- a cycle that a saved fact met

pub none_met : (side : Side) (s : DeskState) (id : CycleId) → true ≡ nat_lt s.saved (number_of (is_meeting id) s.facts) → met_saved side s id ≡ None
unfolding met_saved
none_met side s id later = ap (option_map (matched_of (frozen_cycle side s.facts id))) (peer_of-beyond id s.facts s.saved (grind (arith, nat_tests)))

none_by : (b : Bool) (cycle : FrozenCycle) → option_and_then matched_in (cond b (Some (cond b (Frozen cycle) (Collecting cycle.id))) None) ≡ None
none_by true cycle = refl
none_by false cycle = refl

matched_by : (side : Side) (point : List ℕ) (facts : List Fact) (id : CycleId) (o : Option TableContents) → bad_fact side point facts ≡ None → peer_of id facts ≡ o
    → option_and_then matched_in (closed_state side facts id) ≡ option_map (matched_of (frozen_cycle side facts id)) o
unfolding state_of
matched_by side point facts id (Some peer) legal met = ap (option_and_then matched_in) (met_matched side point facts id peer legal met)
matched_by side point facts id None legal met =
    ap (λ (o : Option TableContents). option_and_then matched_in (cond (is_closed id facts) (Some (cond (is_closed id facts) (met_by (frozen_cycle side facts id) o) (Collecting id))) None)) met
    ∙ none_by (is_closed id facts) (frozen_cycle side facts id)

-- where the meeting is saved, the state of the cycle is that one
pub found_met : (side : Side) (s : DeskState) (id : CycleId) (o : Option CycleState) → bad_fact side s.point s.facts ≡ None
    → false ≡ nat_lt s.saved (number_of (is_meeting id) s.facts) → o ≡ closed_state side s.facts id → option_and_then matched_in o ≡ met_saved side s id
unfolding met_saved
found_met side s id o legal earlier e =
    ap (option_and_then matched_in) e ∙ matched_by side s.point s.facts id (peer_of id s.facts) legal refl
    ∙ ap (option_map (matched_of (frozen_cycle side s.facts id))) (sym (peer_of-within id s.facts s.saved (grind (arith, nat_tests))))

-- ---- all that is let out

-- what numbers from one on let out, the last of them apart
last_apart : (f : ℕ → List Packet) (from count : ℕ) → flat_map f (range_with_len from (suc count)) ≡ flat_map f (range_with_len from count) ++ f (from + count)
last_apart f from zero = append-nil (f from) ∙ ap f (omega arith)
last_apart f from (suc count) =
    let next : (from + 1) + count ≡ from + suc count = omega arith in
    ap (λ later. f from ++ later) (last_apart f (from + 1) count ∙ ap (λ n. flat_map f (range_with_len (from + 1) count) ++ f n) next)
    ∙ sym (append_assoc (f from) (flat_map f (range_with_len (from + 1) count)) (f (from + suc count)))

abbrev pub let_out_between : Side → DeskState → ℕ → ℕ → List Packet
let_out_between side s from end = flat_map (let_out side s.point s.facts) (range_with_len from (end - from))

-- where they start, none before them, and then one after the other
pub start_of : (first n : ℕ) → n ≡ max first 1 → n ≡ max 1 first
start_of first n starts = starts ∙ max_comm first 1

pub none_between : (side : Side) (s : DeskState) (first n : ℕ) → n ≡ max first 1 → [] ≡ let_out_between side s (max 1 first) n
none_between side s first n starts =
    let same = start_of first n starts in
    let empty : 0 ≡ n - max 1 first = omega (arith, same) in
    ap (λ count. flat_map (let_out side s.point s.facts) (range_with_len (max 1 first) count)) empty

pub one_between : (side : Side) (s : DeskState) (from n : ℕ) (before later packets : List Packet) → from ≤ n → before ≡ let_out_between side s from n
    → later ≡ let_out side s.point s.facts n → packets ≡ before ++ later → packets ≡ let_out_between side s from (n + 1)
one_between side s from n before later packets above before_is later_is joined =
    let f = let_out side s.point s.facts in
    let here : n ≡ from + (n - from) = omega (arith, above) in
    let longer : suc (n - from) ≡ (n + 1) - from = omega (arith, above) in
    joined ∙ (λ t. before_is t ++ later_is t)
    ∙ ap (λ m. let_out_between side s from n ++ f m) here ∙ sym (last_apart f from (n - from)) ∙ ap (λ count. flat_map f (range_with_len from count)) longer

pub all_between : (side : Side) (s : DeskState) (first n : ℕ) → n - max 1 first ≡ s.saved + 1 - max 1 first → let_out_between side s (max 1 first) n ≡ outgoing side s first
unfolding outgoing
all_between side s first n ends = ap (λ count. flat_map (let_out side s.point s.facts) (range_with_len (max 1 first) count)) ends
