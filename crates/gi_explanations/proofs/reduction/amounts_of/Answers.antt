use Rattle.std.proofs.Common.{◌-◌, ap, ◌∙◌}
use Rattle.gi_pairs.specs.Pair.{code_at}
use Rattle.gi_pairs.specs.declared.side.Side.{Side}
use Rattle.std.specs.Option.{option_copied}
use Rattle.gi_explanations.proofs.SumLemmas.{before-within, up_to-within}
use Rattle.gi_explanations.proofs.ReductionLemmas.{amounts-made, within-made}
use Rattle.gi_explanations.proofs.reduction.amounts_of.Goals as goal

pub returns-clause-value : goal.returns-clause-value
returns-clause-value c =
    amounts-made c.args.side c.args.question.now c.args.rule (option_copied c.args.line) c.args.available c.args.lines.now c.at-code.result c.sharing-group.result c.nominated_before-nominated_before.result c.saturating_sub.result
    c.sum-before.result c.sum-up_to.result c.sum-all.result
    (c.at-code.ensures ∙ ap (λ (side : Side). code_at side c.args.question.now.pair) c.other.ensures) c.sharing-group.ensures c.nominated_before-nominated_before.ensures c.saturating_sub.ensures
    c.sum-before.ensures c.sum-up_to.ensures c.sum-all.ensures

pub returns-clause-before : goal.returns-clause-before
returns-clause-before c =
    within-made c.sum-before.result c.sum-all.result _ _ c.sum-before.ensures c.sum-all.ensures (before-within c.at-code.result (c.args.question.now.hour - 1) _)

pub returns-clause-up_to : goal.returns-clause-up_to
returns-clause-up_to c =
    within-made c.sum-up_to.result c.sum-all.result _ _ c.sum-up_to.ensures c.sum-all.ensures (up_to-within c.at-code.result (c.args.question.now.hour - 1) _)
