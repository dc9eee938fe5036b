use Rattle.gi_carrier.specs.Limits.{most_waiting}
use Rattle.std.proofs.Common.{◌≡◌, ◌<◌, List, [], ◌∷◌, filter, length, arith, rules, ap, subst, sym, ◌∙◌}
use Rattle.std.specs.Vec.Iter.{into_iter_items}
use Rattle.gi_desk.specs.Machine.{is_for_peer}
use Rattle.gi_desk.specs.declared.packet.Packet.{Packet}
use Rattle.gi_simulation.specs.OnItsWay.{WaitedOrCame}
use Rattle.gi_simulation.proofs.OnItsWay.{Bodies}
use Rattle.gi_simulation.proofs.SimulationLaws.{no_packet, failed_too, nothing_left, one_packet, waits_more}
use Rattle.gi_simulation.proofs.SoundSimulation.{Came, came_first, came_next}
use Rattle.gi_simulation.proofs.link.Link.send_packets.Goals as goal

pub loop-packet-init : goal.loop-packet-init
loop-packet-init c =
    let packets = c.args.packets.items in
    let came = came_first c.args.self.now packets in
    let same : into_iter_items c.into_iter-packet-iterator.result ≡ packets = search rules in
    (search rules, search rules, came.0, subst (λ (left : List Packet). Bodies (Came c.args.self.now packets) (filter is_for_peer left)) (sym same) came.1, omega arith)

pub loop-packet-preserved : goal.loop-packet-preserved
loop-packet-preserved c =
    let at = c.loop-packet in
    let x = c.in-Some.packet in
    let next = c.send_packet.new.self in
    let steps : into_iter_items at.packet-iterator ≡ x ∷ into_iter_items c.next.new.self = c.in-Some.ensures.steps.0 in
    let came = came_next c.args.self.now at.self next c.args.packets.items _ _ x steps c.in_ok-send_packet.ensures.sent at.invariant.2 at.invariant.3 in (
      one_packet at.self next _ _ c.args.packets.items x c.args.self.now steps c.in_ok-send_packet.ensures.sent at.invariant.0,
      let was = at.invariant.1 in
          let gone = c.in-Some.ensures.steps.1 in
          let short = ap length steps in
          omega arith,
      came.0,
      came.1,
      let before = at.invariant.4 in
          let more = waits_more at.self next x c.in_ok-send_packet.ensures.sent in
          omega (arith, before, more),
    )

pub returns-clause-sent : goal.returns-clause-sent
returns-clause-sent c =
    let at = c.loop-packet in
    let none = c.in-None.ensures.steps in
    let empty : into_iter_items at.packet-iterator ≡ [] = nothing_left _ (sym at.invariant.1 ∙ none.0) in
    no_packet at.self _ c.args.packets.items c.args.self.now empty at.invariant.0

pub returns-in_err-send_packet-clause-came : goal.returns-in_err-send_packet-clause-came
returns-in_err-send_packet-clause-came c =
    subst (WaitedOrCame c.args.self.now c.args.packets.items) (sym c.in_err-send_packet.ensures.unchanged) c.loop-packet.invariant.2

pub returns-in_err-send_packet-clause-room : goal.returns-in_err-send_packet-clause-room
returns-in_err-send_packet-clause-room c =
    let before = c.loop-packet.invariant.4 in
    let room = c.in_err-send_packet.ensures.room in
    let was : length c.args.self.now.carrier.waiting < most_waiting = omega (arith, before, room) in
    failed_too c.from_residual.result _ was
