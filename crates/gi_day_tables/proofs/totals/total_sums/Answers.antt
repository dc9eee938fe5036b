use Rattle.std.proofs.Common.{◌∙◌}
use Rattle.std.proofs.lemmas.Result.{IfOk-weaker}
use Rattle.gi_day_tables.proofs.TextLemmas.{total_sums_is}
use Rattle.gi_day_tables.proofs.totals.total_sums.Goals as goal

pub returns : goal.returns
returns c =
    IfOk-weaker c.format.result _ _
    (λ text is. is ∙ total_sums_is c.args.hours.now _ _ _ c.in_ok-processed.ensures c.in_ok-peers.ensures c.in_ok-in_force.ensures) c.format.ensures.ok
