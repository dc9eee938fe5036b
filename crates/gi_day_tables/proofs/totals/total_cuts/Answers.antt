use Rattle.std.proofs.Common.{◌∙◌}
use Rattle.std.proofs.lemmas.Result.{IfOk-weaker}
use Rattle.gi_day_tables.proofs.TextLemmas.{total_cuts_is}
use Rattle.gi_day_tables.proofs.totals.total_cuts.Goals as goal

pub returns : goal.returns
returns c =
    IfOk-weaker c.format.result _ _
    (λ text is. is ∙ total_cuts_is c.args.hours.now _ _ _ c.in_ok-cut.ensures c.in_ok-own.ensures c.in_ok-peer.ensures) c.format.ensures.ok
