use Rattle.std.proofs.Common.{List, ℕ, ◌++◌, ap, string_bytes, sym, take, ◌∙◌}
use Rattle.gi_simulation.specs.Simulation.{with_packets}
use Rattle.gi_simulation.proofs.TraceLaws.{lines_more}
use Rattle.gi_simulation.proofs.link.Link.packet_lines.Goals as goal

pub loop-packet-preserved : goal.loop-packet-preserved
loop-packet-preserved c =
    let at = c.loop-packet in
    let link = c.args.self.now in
    let all = c.args.packets.now in
    lines_more c.args.peer link all at.packet-index c.packet-item.result at.waiting c.waiting_after-waiting.result (string_bytes at.text) (string_bytes c.in_ok-line.line)
    (string_bytes c.push_str.new.self) c.loop-packet-test.true c.packet-item.is at.invariant c.in_ok-line.ensures
    (c.in_ok-push_str.ensures.bytes ∙ ap (λ (line : List ℕ). string_bytes at.text ++ line) c.as_str.ensures.value)
    (c.waiting_after-waiting.ensures (with_packets link (take at.packet-index all)) (sym at.invariant.1))
