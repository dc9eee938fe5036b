use Rattle.std.proofs.Common.{ap}
use Rattle.gi_desk.specs.Machine.{DeskState}
use Rattle.gi_desk.proofs.Called.{delivered-addressed, delivered-from}
use Rattle.gi_desk.proofs.desk.Desk.addressed.Goals as goal

pub returns : goal.returns
returns g c =
    let side = g.R.Role.SIDE in
    let own = c.args.self.now.point in
    let facts = c.args.self.now.facts in
    let is_own = ap (λ (s : DeskState). s.point) c.self.view_is in
    delivered-from c.decided.result _ _ c.decided.ensures (delivered-addressed side _ _ own facts c.args.self.now.kept _ (g.R.Role.as_message c.args.received) c.address-point.ensures c.if-ne.ensures is_own)
