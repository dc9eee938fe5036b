use Rattle.std.proofs.Common.{◌≡◌, ◌++◌, ◌∙◌, ap, string_bytes}
use Rattle.std.proofs.lemmas.Result.{IfOk-weaker}
use Rattle.gi_explanations.specs.Basis.{asked_rule, nominated_line, standing_contract, standing_nomination, standing_notice}
use Rattle.gi_explanations.specs.Reduction.{amounts, available_line, available_quantity, is_covered, priority_line, processed_line, processed_quantity, reduction_lines, sums_line}
use Rattle.gi_explanations.proofs.reduction.reduction_lines.Goals as goal

pub returns : goal.returns
unfolding reduction_lines
returns g c =
    let side = g.R.Role.SIDE in
    let facts = c.args.desk.now.facts in
    let q = c.args.question.now in
    let amounts_is = c.amounts_for-amounts.ensures.value in
    let line_is = c.line-line.ensures ∙ (λ t. nominated_line (c.SIDE.ensures t) q (c.nomination.ensures.value t)) in
    let available_is : string_bytes c.in_ok-available.available ≡ available_line (standing_contract side facts q) (standing_notice facts q) (available_quantity side facts q) =
    c.in_ok-available.ensures ∙ (λ t. available_line (c.contract-contract.ensures t) (c.notice-notice.ensures t) (amounts_is t).available) in
    let priority_is : string_bytes c.in_ok-priority.priority ≡ priority_line (asked_rule facts q) (nominated_line side q (standing_nomination side facts q)) (amounts side facts q) =
    c.in_ok-priority.ensures ∙ (λ t. priority_line (c.rule-rule.ensures t) (line_is t) (amounts_is t)) in
    let sums_is = c.in_ok-sums.ensures ∙ ap sums_line amounts_is in
    let processed_is : string_bytes c.in_ok-processed.processed
    ≡ processed_line (is_covered q) (nominated_line side q (standing_nomination side facts q)) (amounts side facts q) (processed_quantity side facts q) =
    c.in_ok-processed.ensures ∙ (λ t. processed_line (c.is_covered-covered.ensures t) (line_is t) (amounts_is t) (c.processed-quantity.ensures t)) in
    IfOk-weaker c.format.result _ _ (λ text e.
    let is : string_bytes text ≡ string_bytes c.in_ok-available.available ++ (string_bytes c.in_ok-priority.priority ++ (string_bytes c.in_ok-sums.sums ++ string_bytes c.in_ok-processed.processed)) = e in
    is ∙ (λ t. available_is t ++ (priority_is t ++ (sums_is t ++ processed_is t)))) c.format.ensures.ok
