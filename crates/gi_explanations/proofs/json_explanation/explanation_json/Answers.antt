use Rattle.std.proofs.Common.{◌≡◌, ◌∙◌, ◌∷◌, ◌++◌, List, [], ℕ, ap, append-nil, sym}
use Rattle.std.proofs.lemmas.Result.{IfOk-weaker}
use Rattle.gi_pairs.specs.declared.side.Side.{Side}
use Rattle.gi_exports.specs.Json.{line_of}
use Rattle.gi_explanations.specs.Json.{basis_objects, explanation_objects, object_lines, outcome_objects, reduction_objects}
use Rattle.gi_explanations.specs.JsonLines.{asked_data}
use Rattle.gi_explanations.specs.declared.numbers.Numbers.{Numbers}
use Rattle.gi_explanations.proofs.JsonLemmas.{objects_more}
use Rattle.gi_explanations.proofs.json_explanation.explanation_json.Goals as goal

pub returns : goal.returns
unfolding explanation_objects
returns g c =
    let side = g.R.Role.SIDE in
    let s = c.args.desk.now in
    let q = c.args.question.now in
    let n = c.of-numbers.result in
    let asked : c.in_ok-asked.asked.items ≡ object_lines (asked_data side q ∷ []) =
    c.in_ok-asked.ensures ∙ ap (λ (x : Side). c.new.result.items ++ line_of (asked_data x q)) c.SIDE.ensures
    ∙ ap (λ (l : List ℕ). l ++ line_of (asked_data side q)) c.new.ensures.items ∙ sym (append-nil (line_of (asked_data side q))) in
    IfOk-weaker c.with_outcome.result _ _ (λ bytes is.
    let late = objects_more c.in_ok-based.based.items c.in_ok-reduced.reduced.items bytes.items (reduction_objects side s.facts q) (outcome_objects side s q n) c.in_ok-reduced.ensures is in
    let later = objects_more c.in_ok-asked.asked.items c.in_ok-based.based.items bytes.items (basis_objects side s.facts q n) (reduction_objects side s.facts q ++ outcome_objects side s q n) c.in_ok-based.ensures late in
    objects_more [] c.in_ok-asked.asked.items bytes.items (asked_data side q ∷ []) (basis_objects side s.facts q n ++ (reduction_objects side s.facts q ++ outcome_objects side s q n)) asked later
    ∙ ap (λ (m : Numbers). object_lines (asked_data side q ∷ (basis_objects side s.facts q m ++ (reduction_objects side s.facts q ++ outcome_objects side s q m)))) c.of-numbers.ensures)
    c.with_outcome.ensures
