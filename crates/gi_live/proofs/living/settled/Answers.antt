use Rattle.std.proofs.Common.{subst}
use Rattle.gi_office.specs.Settling.{Settles}
use Rattle.gi_live.proofs.Lives.{one_life}
use Rattle.gi_live.proofs.living.settled.Goals as goal

pub returns-in-Ok-settle-clause-life : goal.returns-in-Ok-settle-clause-life
returns-in-Ok-settle-clause-life g c =
    let end = c.settle.ensures in
    let handed = c.in-Ok.seats.items in
    one_life g.R.Role.SIDE end.held c.args.office.seats handed c.args.seat c.in-Ok-settle.settled c.into_desk.result end.kept
    (subst (λ result. Settles c.args.office.seats end.held handed result) c.in-Ok-settle.is end.settles) c.requires c.in-Ok.ensures.items c.into_desk.ensures.desk
