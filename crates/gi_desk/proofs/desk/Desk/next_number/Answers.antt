use Rattle.std.proofs.Common.{arith}
use Rattle.gi_desk.proofs.Legality.{legal-few}
use Rattle.gi_desk.proofs.desk.Desk.next_number.Goals as goal

pub overflow_add-result : goal.overflow_add-result
overflow_add-result g c =
    let few = legal-few g.R.Role.SIDE c.args.self.now.point c.args.self.now.facts c.reveal_invariant.ensures.legal in
    grind (arith, few)
