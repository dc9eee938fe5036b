use Rattle.std.proofs.Common.{◌≡◌, ◌++◌, ◌∙◌, ap, string_bytes}
use Rattle.std.proofs.lemmas.Result.{IfOk-weaker}
use Rattle.gi_explanations.specs.Basis.{asked_rule, basis_lines, contract_line, nominated_line, nomination_line, notice_line, standing_nomination}
use Rattle.gi_explanations.proofs.basis.basis_lines.Goals as goal

pub returns : goal.returns
unfolding basis_lines
returns g c =
    let side = g.R.Role.SIDE in
    let q = c.args.question.now in
    let n = c.args.numbers.now in
    let document = standing_nomination side c.args.desk.now.facts q in
    let document_is = c.nomination-document.ensures.value in
    let line_is = c.line-line.ensures ∙ (λ t. nominated_line (c.SIDE.ensures t) q (document_is t)) in
    let nomination_is : string_bytes c.in_ok-nomination.nomination ≡ nomination_line (asked_rule c.args.desk.now.facts q) n.nomination q.hour document (nominated_line side q document) =
    c.in_ok-nomination.ensures ∙ (λ t. nomination_line (c.rule-rule.ensures t) n.nomination q.hour (document_is t) (line_is t)) in
    let contract_is = c.in_ok-contract.ensures ∙ ap (contract_line n.contract) c.contract.ensures in
    let notice_is = c.in_ok-notice.ensures ∙ ap (notice_line n.notice) c.notice.ensures in
    IfOk-weaker c.format.result _ _ (λ text e.
    let is : string_bytes text ≡ string_bytes c.in_ok-nomination.nomination ++ (string_bytes c.in_ok-contract.contract ++ string_bytes c.in_ok-notice.notice) = e in
    is ∙ (λ t. nomination_is t ++ (contract_is t ++ notice_is t))) c.format.ensures.ok
