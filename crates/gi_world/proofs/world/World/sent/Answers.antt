use Rattle.std.proofs.Common.{All, List, subst, sym}
use Rattle.gi_desk.specs.declared.packet.Packet.{Packet}
use Rattle.gi_world.specs.Agreement.{Carries}
use Rattle.gi_world.specs.World.{WorldState}
use Rattle.gi_world.proofs.Soundness.{all-carry}
use Rattle.gi_world.proofs.world.World.sent.Goals as goal

pub returns-clause-carries : goal.returns-clause-carries
returns-clause-carries c =
    let w = c.self.inside.stations in
    let carry = all-carry w c.self.invariant c.reveal_invariant.ensures c.args.side in
    subst (λ (world : WorldState). All (Carries c.args.side world) c.sent.result.now) c.self.view_is
    (subst (λ (packets : List Packet). All (Carries c.args.side w) packets) (sym c.sent.ensures) carry)
