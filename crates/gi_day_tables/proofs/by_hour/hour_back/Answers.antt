use Rattle.std.proofs.Common.{◌∙◌, ap}
use Rattle.std.proofs.lemmas.Result.{IfOk-weaker}
use Rattle.gi_day_tables.proofs.TextLemmas.{hour_back_is}
use Rattle.gi_day_tables.specs.Cells.{hour_cells}
use Rattle.gi_day_tables.proofs.by_hour.hour_back.Goals as goal

pub returns : goal.returns
returns c =
    IfOk-weaker c.format.result _ _
    (λ text is. is ∙ hour_back_is c.args.hour _ _ _ (c.in_ok-im.ensures ∙ ap hour_cells c.flow.ensures) (c.in_ok-mi.ensures ∙ ap hour_cells c.flow-2.ensures) c.in_ok-net.ensures) c.format.ensures.ok
