use Rattle.std.proofs.Common.{None, Some, ap, ◌∙◌}
use Rattle.std.specs.Option.{option_copied}
use Rattle.gi_desk.proofs.Confirmed.{frozen-read}
use Rattle.gi_desk.proofs.desk.Desk.frozen.Goals as goal

pub returns-in_err-find : goal.returns-in_err-find
returns-in_err-find g c = ap option_copied c.from_residual.ensures ∙ frozen-read g.R.Role.SIDE c.args.self.now.facts c.args.id None c.in_err-find.ensures

pub returns : goal.returns
returns g c = c.own_in.ensures ∙ frozen-read g.R.Role.SIDE c.args.self.now.facts c.args.id (Some c.in_ok-find.field-0.now) c.in_ok-find.ensures
