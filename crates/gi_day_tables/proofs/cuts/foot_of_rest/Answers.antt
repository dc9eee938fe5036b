use Rattle.std.proofs.Common.{◌∙◌, ap}
use Rattle.std.proofs.lemmas.Result.{IfOk-weaker}
use Rattle.gi_day_tables.proofs.TextLemmas.{foot_of_rest_is}
use Rattle.gi_picture.specs.Numbers.{grouped}
use Rattle.gi_day_tables.proofs.cuts.foot_of_rest.Goals as goal

pub returns : goal.returns
returns c =
    IfOk-weaker c.format.result _ _
    (λ text is. is ∙ foot_of_rest_is c.args.rest.now _ (c.in_ok-sum.ensures ∙ ap grouped c.rest_sum.ensures)) c.format.ensures.ok
