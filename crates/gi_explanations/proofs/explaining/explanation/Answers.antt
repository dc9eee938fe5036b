use Rattle.std.proofs.Common.{◌≡◌, ◌++◌, ◌∙◌, ap, string_bytes}
use Rattle.std.proofs.lemmas.Result.{IfOk-weaker}
use Rattle.gi_pairs.specs.declared.side.Side.{Side}
use Rattle.gi_explanations.specs.Basis.{asked_line, basis_lines}
use Rattle.gi_explanations.specs.Explanation.{explanation}
use Rattle.gi_explanations.specs.Outcome.{outcome_lines}
use Rattle.gi_explanations.proofs.explaining.explanation.Goals as goal

pub returns : goal.returns
unfolding explanation
returns g c =
    let side = g.R.Role.SIDE in
    let s = c.args.desk.now in
    let q = c.args.question.now in
    let asked_is = c.in_ok-asked.ensures ∙ ap (λ (at : Side). asked_line at q) c.SIDE.ensures in
    let basis_is = c.in_ok-basis.ensures ∙ ap (basis_lines side s.facts q) c.of-numbers.ensures in
    let outcome_is = c.in_ok-outcome.ensures ∙ ap (outcome_lines side s q) c.of-numbers.ensures in
    IfOk-weaker c.format.result _ _ (λ text e.
    let is : string_bytes text ≡ string_bytes c.in_ok-asked.asked ++ (string_bytes c.in_ok-basis.basis ++ (string_bytes c.in_ok-reduction.reduction ++ string_bytes c.in_ok-outcome.outcome)) = e in
    is ∙ (λ t. asked_is t ++ (basis_is t ++ (c.in_ok-reduction.ensures t ++ outcome_is t)))) c.format.ensures.ok
