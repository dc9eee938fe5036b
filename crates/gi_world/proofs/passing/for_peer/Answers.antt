use Rattle.std.proofs.Common.{sym, ◌∙◌, rules}
use Rattle.gi_desk.specs.Machine.{is_for_peer}
use Rattle.gi_world.proofs.MemoryWanted.{some_passed}
use Rattle.gi_world.proofs.passing.for_peer.Goals as goal

pub returns-in_err-copy-clause-short : goal.returns-in_err-copy-clause-short
returns-in_err-copy-clause-short c =
    let some = some_passed is_for_peer c.args.packets.now c.loop-packet.packet-index c.packet-item.result c.loop-packet-test.true c.packet-item.is (sym c.is_for_peer.ensures ∙ c.if-is_for_peer.true) in
    search (rules, some)

pub returns-in_err-push-clause-short : goal.returns-in_err-push-clause-short
returns-in_err-push-clause-short c =
    let some = some_passed is_for_peer c.args.packets.now c.loop-packet.packet-index c.packet-item.result c.loop-packet-test.true c.packet-item.is (sym c.is_for_peer.ensures ∙ c.if-is_for_peer.true) in
    search (rules, some)
