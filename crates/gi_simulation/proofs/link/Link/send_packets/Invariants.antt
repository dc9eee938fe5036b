use Rattle.std.proofs.Common.{◌≡◌, ◌≤◌, length, filter}
use Rattle.std.specs.Vec.Iter.{into_iter_items, into_iter_len}
use Rattle.gi_desk.specs.Machine.{is_for_peer}
use Rattle.gi_simulation.specs.OnItsWay.{WaitedOrCame}
use Rattle.gi_simulation.specs.Simulation.{with_packets}
use Rattle.gi_simulation.proofs.OnItsWay.{Bodies}
use Rattle.gi_simulation.proofs.SoundSimulation.{Came}
use Rattle.gi_simulation.proofs.link.Link.send_packets.Given as goal

abbrev pub invariant-loop-packet : goal.invariant-loop-packet
invariant-loop-packet l = (with_packets l.self (into_iter_items l.packet-iterator) ≡ with_packets l.fn.self l.fn.packets.items)
    × (into_iter_len l.packet-iterator ≡ length (into_iter_items l.packet-iterator))
    × WaitedOrCame l.fn.self l.fn.packets.items l.self
    × Bodies (Came l.fn.self l.fn.packets.items) (filter is_for_peer (into_iter_items l.packet-iterator))
    × (length l.fn.self.carrier.waiting ≤ length l.self.carrier.waiting)
