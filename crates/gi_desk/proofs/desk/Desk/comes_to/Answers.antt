use Rattle.std.proofs.Common.{arith}
use Rattle.gi_desk.proofs.Legality.{legal-few}
use Rattle.gi_desk.proofs.desk.Desk.comes_to.Goals as goal

pub marked-requires : goal.marked-requires
marked-requires g c =
    let few = legal-few _ _ _ c.self.invariant.keeps.stages.legal in
    let within = c.self.invariant.within in
    omega (arith, few, within)
