use Rattle.std.proofs.Common.{arith}
use Rattle.gi_desk.proofs.Legality.{legal-few}
use Rattle.gi_desk.proofs.desk.Desk.len.Goals as goal

pub overflow_cast-result : goal.overflow_cast-result
overflow_cast-result g c = omega (arith, legal-few g.R.Role.SIDE c.self.inside.point c.self.inside.facts.items c.self.invariant.keeps.stages.legal)
