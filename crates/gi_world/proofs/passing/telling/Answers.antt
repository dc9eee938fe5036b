use Rattle.std.proofs.Common.{sym, ◌∙◌, rules}
use Rattle.gi_world.specs.World.{tells}
use Rattle.gi_world.proofs.MemoryWanted.{some_passed}
use Rattle.gi_world.proofs.passing.telling.Goals as goal

pub returns-in_err-copy-clause-short : goal.returns-in_err-copy-clause-short
returns-in_err-copy-clause-short c =
    let some = some_passed tells c.args.packets.now c.loop-packet.packet-index c.packet-item.result c.loop-packet-test.true c.packet-item.is (sym c.tells.ensures ∙ c.if-tells.true) in
    search (rules, some)

pub returns-in_err-push-clause-short : goal.returns-in_err-push-clause-short
returns-in_err-push-clause-short c =
    let some = some_passed tells c.args.packets.now c.loop-packet.packet-index c.packet-item.result c.loop-packet-test.true c.packet-item.is (sym c.tells.ensures ∙ c.if-tells.true) in
    search (rules, some)
