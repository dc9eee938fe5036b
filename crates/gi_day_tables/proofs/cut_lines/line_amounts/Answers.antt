use Rattle.std.proofs.Common.{◌∙◌}
use Rattle.std.proofs.lemmas.Result.{IfOk-weaker}
use Rattle.gi_day_tables.proofs.TextLemmas.{line_amounts_is}
use Rattle.gi_day_tables.proofs.cut_lines.line_amounts.Goals as goal

pub returns : goal.returns
returns c =
    IfOk-weaker c.format.result _ _
    (λ text is. is ∙ line_amounts_is c.args.hour _ _ _ c.in_ok-planned.ensures c.in_ok-in_force.ensures c.in_ok-cut.ensures) c.format.ensures.ok
