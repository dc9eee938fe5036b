-- What the trace tells of packets, one after the other.
use Rattle.std.proofs.Common.{◌≡◌, ◌<◌, ◌+◌, ℕ, List, [], ◌∷◌, ◌++◌, append_assoc, append-nil, get_or, length, take, refl, sym, ap, ◌∙◌}
use Rattle.gi_desk.proofs.HistoryLaws.{one_more}
use Rattle.gi_desk.specs.declared.packet.Packet.{Packet}
use Rattle.gi_pairs.specs.declared.side.Side.{Side}
use Rattle.gi_simulation.specs.Simulation.{LinkState, with_packet, with_packets}
use Rattle.gi_simulation.specs.Trace.{packet_line, packet_lines}

pub with_packets-push : (link : LinkState) (packets : List Packet) (packet : Packet) → with_packets link (packets ++ packet ∷ []) ≡ with_packet (with_packets link packets) packet
with_packets-push link [] packet = refl
with_packets-push link (first ∷ packets) packet = with_packets-push (with_packet link first) packets packet

pub packet_lines-push : (peer : Side) (link : LinkState) (packets : List Packet) (packet : Packet)
    → packet_lines peer link (packets ++ packet ∷ []) ≡ packet_lines peer link packets ++ packet_line peer (length (with_packets link packets).carrier.waiting) packet
packet_lines-push peer link [] packet = append-nil (packet_line peer (length link.carrier.waiting) packet)
packet_lines-push peer link (first ∷ packets) packet =
    let line = packet_line peer (length link.carrier.waiting) first in
    let next = with_packet link first in
    ap (λ (text : List ℕ). line ++ text) (packet_lines-push peer next packets packet)
    ∙ sym (append_assoc line (packet_lines peer next packets) (packet_line peer (length (with_packets next packets).carrier.waiting) packet))

-- a line for one more packet, and how many wait then
pub lines_more : (peer : Side) (link : LinkState) (all : List Packet) (i : ℕ) (packet : Packet) (waiting next : ℕ) (old line new : List ℕ)
    → i < length all → packet ≡ get_or all i packet
    → (old ≡ packet_lines peer link (take i all)) × (waiting ≡ length (with_packets link (take i all)).carrier.waiting)
    → line ≡ packet_line peer waiting packet → new ≡ old ++ line → length (with_packet (with_packets link (take i all)) packet).carrier.waiting ≡ next
    → (new ≡ packet_lines peer link (take (i + 1) all)) × (next ≡ length (with_packets link (take (i + 1) all)).carrier.waiting)
lines_more peer link all i packet waiting next old line new below is was told joined on_way =
    let made = take i all in
    let more : take (i + 1) all ≡ made ++ packet ∷ [] = one_more all i packet below is in
    let here : line ≡ packet_line peer (length (with_packets link made).carrier.waiting) packet = told ∙ ap (λ (n : ℕ). packet_line peer n packet) was.1 in (
      joined ∙ (λ t. was.0 t ++ here t) ∙ sym (packet_lines-push peer link made packet) ∙ ap (packet_lines peer link) (sym more),
      sym on_way ∙ ap (λ (l : LinkState). length l.carrier.waiting) (sym (with_packets-push link made packet))
          ∙ ap (λ (xs : List Packet). length (with_packets link xs).carrier.waiting) (sym more),
    )
