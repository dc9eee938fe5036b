use Rattle.gi_live.proofs.Goings.{asked_further}
use Rattle.gi_live.proofs.living.between.Goals as goal

pub returns-in-Ok-answered-clause-further : goal.returns-in-Ok-answered-clause-further
returns-in-Ok-answered-clause-further g c =
    asked_further g.R.Role.SIDE c.args.desk c.in-Ok.desk c.args.taken c.in-Asked.line c.args.end _ _ c.in-Ok-answered.desk c.in-Asked.is c.in-Ok.ensures.desk.0 c.in-Ok.ensures.desk.1
    c.in-Ok-answered.ensures.answers c.in-Ok-answered.ensures.paused
