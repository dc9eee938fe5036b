use Rattle.std.proofs.Common.{All, List, subst, sym}
use Rattle.gi_desk.specs.declared.packet.Packet.{Packet}
use Rattle.gi_world.specs.Histories.{held}
use Rattle.gi_world.specs.Telling.{TellsTheLower}
use Rattle.gi_world.specs.World.{WorldState}
use Rattle.gi_world.proofs.OneQuantity.{all-tell}
use Rattle.gi_world.proofs.world.World.told.Goals as goal

pub returns-clause-lower : goal.returns-clause-lower
returns-clause-lower c =
    let w = c.self.inside.stations in
    let side = c.args.side in
    let tell = all-tell w c.self.invariant c.reveal_invariant.ensures side in
    subst (λ (world : WorldState). All (TellsTheLower (held world) side) c.told.result.now) c.self.view_is
    (subst (λ (packets : List Packet). All (TellsTheLower (held w) side) packets) (sym c.told.ensures) tell)
