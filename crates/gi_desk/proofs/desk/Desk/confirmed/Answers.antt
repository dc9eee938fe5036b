use Rattle.std.proofs.Common.{Some, None, ap, ◌∙◌}
use Rattle.std.specs.Option.{option_copied}
use Rattle.gi_desk.proofs.Confirmed.{confirmed-met}
use Rattle.gi_desk.proofs.desk.Desk.confirmed.Goals as goal

pub returns-in_err-met_saved : goal.returns-in_err-met_saved
returns-in_err-met_saved g c =
    ap option_copied c.from_residual.ensures ∙ confirmed-met g.R.Role.SIDE c.args.self.now c.args.id None c.in_err-met_saved.ensures

pub returns : goal.returns
returns g c = ap Some c.confirmed.ensures.kept ∙ confirmed-met g.R.Role.SIDE c.args.self.now c.args.id (Some c.in_ok-met_saved.field-0.now) c.in_ok-met_saved.ensures
