use Rattle.std.proofs.Common.{[], ◌∷◌, ◌++◌, ◌∙◌, sym, arith}
use Rattle.std.proofs.lemmas.List.{take_all, take_more}
use Rattle.gi_office.proofs.copying.packets_copy.Goals as goal

pub loop-packet-preserved : goal.loop-packet-preserved
loop-packet-preserved c =
    let at = c.loop-packet in
    let same = c.in-Ok.ensures ∙ c.packet-item.is in
    c.push_reserved.ensures.items ∙ (λ i. at.invariant i ++ same i ∷ []) ∙ sym (take_more c.args.packets.now at.packet-index c.packet-item.result c.loop-packet-test.true)

pub returns : goal.returns
returns c = c.loop-packet.invariant ∙ take_all c.loop-packet.packet-index c.args.packets.now (omega (arith, c.loop-packet-test.false))
