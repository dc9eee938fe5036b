use Rattle.std.proofs.Common.{sym}
use Rattle.gi_desk.proofs.Confirmed.{collects}
use Rattle.gi_desk.proofs.desk.Desk.state.Goals as goal

pub returns-in-None : goal.returns-in-None
returns-in-None g c = sym (collects g.R.Role.SIDE c.args.self.now.facts c.args.id (sym c.in-None.ensures))
