-- What an instruction makes of a simulation.
use Rattle.std.proofs.Common.{◌≡◌, ◌≤◌, ℕ, Bool, true, false, List, length, length-append, arith, [], ◌∷◌, refl, sym, ap, ◌∙◌, nat_lt, subst, Result, Ok, Err}
use Rattle.std.specs.Result.{OnErr}
use Rattle.gi_carrier.specs.Limits.{most_waiting}
use Rattle.gi_desk.specs.Machine.{is_for_peer}
use Rattle.gi_desk.specs.declared.packet.Packet.{Packet}
use Rattle.gi_simulation.specs.Simulation.{LinkState, with_message, with_packet, with_packets}

-- one packet after the other
pub one_packet : (link next : LinkState) (all later packets : List Packet) (packet : Packet) (start : LinkState) → all ≡ packet ∷ later → next ≡ with_packet link packet
    → with_packets link all ≡ with_packets start packets → with_packets next later ≡ with_packets start packets
one_packet link next all later packets packet start front is was =
    (λ t. with_packets (is t) later) ∙ ap (with_packets link) (sym front) ∙ was

pub no_packet : (link : LinkState) (all packets : List Packet) (start : LinkState) → all ≡ [] → with_packets link all ≡ with_packets start packets → link ≡ with_packets start packets
no_packet link all packets start none was = ap (with_packets link) (sym none) ∙ was

pub nothing_left : {X : Type 0} (xs : List X) → length xs ≡ 0 → xs ≡ []
nothing_left [] e = refl
nothing_left (x ∷ xs) e = absurd (omega arith)

-- ---- how many wait

abbrev waiting_at : LinkState → ℕ
waiting_at link = length link.carrier.waiting

with_one_more : (link : LinkState) (message : List ℕ) (room : Bool) → nat_lt (waiting_at link) most_waiting ≡ room → waiting_at link ≤ waiting_at (with_message link message)
with_one_more link message true room =
    let more = length-append link.carrier.waiting (message ∷ []) in rw room (omega (arith, more))
with_one_more link message false full = rw full (omega arith)

with_any : (link : LinkState) (packet : Packet) (for_peer : Bool) → is_for_peer packet ≡ for_peer → waiting_at link ≤ waiting_at (with_packet link packet)
with_any link packet true is = rw is (with_one_more link packet.body (nat_lt (waiting_at link) most_waiting) refl)
with_any link packet false is = rw is (omega arith)

-- after a packet no fewer wait
pub waits_more : (link next : LinkState) (packet : Packet) → next ≡ with_packet link packet → length link.carrier.waiting ≤ length next.carrier.waiting
waits_more link next packet is =
    subst (λ (after : LinkState). waiting_at link ≤ waiting_at after) (sym is) (with_any link packet (is_for_peer packet) refl)

-- what is so is so where a call failed
pub failed_too : {T E : Type 0} (r : Result T E) (P : Type 0) → P → OnErr r P
failed_too (Ok x) P is = tt
failed_too (Err e) P is = is
