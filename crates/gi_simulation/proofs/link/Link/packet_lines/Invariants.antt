use Rattle.std.proofs.Common.{◌≡◌, length, string_bytes, take}
use Rattle.gi_simulation.specs.Simulation.{with_packets}
use Rattle.gi_simulation.specs.Trace.{packet_lines}
use Rattle.gi_simulation.proofs.link.Link.packet_lines.Given as goal

abbrev pub invariant-loop-packet : goal.invariant-loop-packet
invariant-loop-packet l =
    let made = take l.packet-index l.packets in
    (string_bytes l.text ≡ packet_lines l.peer l.self made) × (l.waiting ≡ length (with_packets l.self made).carrier.waiting)
