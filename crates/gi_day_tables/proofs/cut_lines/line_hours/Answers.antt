use Rattle.std.proofs.Common.{◌∙◌, ap}
use Rattle.std.proofs.lemmas.Result.{IfOk-weaker}
use Rattle.gi_day_tables.specs.Spans.{local_span, span}
use Rattle.gi_day_tables.proofs.TextLemmas.{line_hours_is}
use Rattle.gi_day_tables.proofs.cut_lines.line_hours.Goals as goal

pub returns : goal.returns
returns c =
    IfOk-weaker c.format.result _ _
    (λ text is. is ∙ line_hours_is c.args.count c.args.run _ _ (c.in_ok-hours.ensures ∙ ap (span c.args.run.first.number) c.behind.ensures) (c.in_ok-local.ensures ∙ (λ t. local_span c.args.count (c.before-2.ensures t) (c.behind-2.ensures t)))) c.format.ensures.ok
