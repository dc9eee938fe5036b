use Rattle.std.proofs.Common.{ap, ◌∙◌, ◌-◌}
use Rattle.std.specs.Option.{option_copied}
use Rattle.gi_processing.specs.Processing.{lines_of}
use Rattle.gi_processing.specs.Reduction.{in_direction}
use Rattle.gi_explanations.specs.Basis.{nominated_line}
use Rattle.gi_explanations.specs.Numbers.{counterparty}
use Rattle.gi_explanations.specs.Reduction.{amounts_of}
use Rattle.gi_explanations.proofs.ReductionLemmas.{amounts-are, amounts-none, available-is}
use Rattle.gi_explanations.proofs.reduction.amounts_for.Goals as goal

pub returns-in-Some-clause-value : goal.returns-in-Some-clause-value
returns-in-Some-clause-value g c =
    amounts-are g.R.Role.SIDE c.args.desk.now.facts c.args.question.now c.amounts_of.result c.rule-rule.result (option_copied c.line-line.result) c.available-available.result c.as_slice-lines.result.now
    (c.amounts_of.ensures.value
    ∙ (λ t. amounts_of c.rule-rule.result (option_copied c.line-line.result) c.available-available.result (counterparty (c.SIDE-in-Some.ensures t) c.args.question.now) (c.args.question.now.hour - 1) (in_direction c.args.question.now.direction c.as_slice-lines.result.now)))
    c.rule-rule.ensures
    (c.line-line.ensures ∙ (λ t. nominated_line (c.SIDE.ensures t) c.args.question.now (c.in-Some.ensures.value t)))
    (available-is g.R.Role.SIDE c.args.desk.now.facts c.args.question.now c.contract.result c.notice.result c.available-available.result
    c.available-available.ensures c.contract.ensures c.notice.ensures)
    (c.as_slice-lines.ensures ∙ ap lines_of c.in-Some.ensures.value)

pub returns-in-None-clause-value : goal.returns-in-None-clause-value
returns-in-None-clause-value g c =
    amounts-none g.R.Role.SIDE c.args.desk.now.facts c.args.question.now c.available-available.result
    (available-is g.R.Role.SIDE c.args.desk.now.facts c.args.question.now c.contract.result c.notice.result c.available-available.result
    c.available-available.ensures c.contract.ensures c.notice.ensures)
    c.in-None.ensures.value
