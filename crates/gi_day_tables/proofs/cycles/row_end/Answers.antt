use Rattle.std.proofs.Common.{◌∙◌}
use Rattle.std.proofs.lemmas.Result.{IfOk-weaker}
use Rattle.gi_day_tables.proofs.TextLemmas.{row_end_is}
use Rattle.gi_day_tables.proofs.cycles.row_end.Goals as goal

pub returns : goal.returns
returns c =
    IfOk-weaker c.format.result _ _
    (λ text is. is ∙ row_end_is c.args.mark.now _ _ c.in_ok-closed.ensures c.in_ok-met.ensures) c.format.ensures.ok
