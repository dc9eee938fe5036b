use Rattle.std.proofs.Common.{sym, ◌∙◌}
use Rattle.gi_explanations.specs.Basis.{nominated_line}
use Rattle.gi_explanations.proofs.ReductionLemmas.{processed-found, processed-none, processed-outside}
use Rattle.gi_explanations.proofs.reduction.processed.Goals as goal

pub returns-then-not-is_covered : goal.returns-then-not-is_covered
returns-then-not-is_covered g c = processed-outside g.R.Role.SIDE c.args.desk.now.facts c.args.question.now (sym c.if-not-is_covered.ensures)

pub returns-in-Some : goal.returns-in-Some
returns-in-Some g c =
    processed-found g.R.Role.SIDE c.args.desk.now.facts c.args.question.now c.amounts_for.result c.quantity-nominated.result c.reduced.result c.in-Some.line.now
    (sym c.if-not-is_covered.ensures) (c.in-Some.ensures ∙ (λ t. nominated_line (c.SIDE.ensures t) c.args.question.now (c.nomination.ensures.value t)))
    c.amounts_for.ensures.value c.quantity-nominated.ensures.value c.reduced.ensures

pub returns-in-None : goal.returns-in-None
returns-in-None g c =
    processed-none g.R.Role.SIDE c.args.desk.now.facts c.args.question.now
    (sym c.if-not-is_covered.ensures) (c.in-None.ensures ∙ (λ t. nominated_line (c.SIDE.ensures t) c.args.question.now (c.nomination.ensures.value t)))
