use Rattle.std.proofs.Common.{◌≡◌, ◌++◌, ◌∙◌, ap, is_some, string_bytes, unwrap_or}
use Rattle.std.specs.Prelude.{option_map}
use Rattle.std.proofs.lemmas.Result.{IfOk-weaker}
use Rattle.gi_processing.specs.declared.rule.Rule.{Rule}
use Rattle.gi_explanations.specs.Outcome.{confirmed_line, confirmed_quantity, frozen_line, lower_line, outcome_lines, peer_line, peer_quantity, read_at}
use Rattle.gi_explanations.specs.Reduction.{processed_quantity}
use Rattle.gi_explanations.proofs.outcome.outcome_lines.Goals as goal

pub returns : goal.returns
unfolding outcome_lines
returns g c =
    let side = g.R.Role.SIDE in
    let s = c.args.desk.now in
    let q = c.args.question.now in
    let n = c.args.numbers.now in
    let peer_is = c.read-peer.ensures ∙ ap (option_map (read_at q)) c.met.ensures in
    let confirmed_is = c.read-confirmed.ensures ∙ ap (option_map (read_at q)) c.confirmed.ensures in
    let met_is : string_bytes c.in_ok-met.met ≡ peer_line (unwrap_or n.meeting 0) (peer_quantity s.facts q) =
    c.in_ok-met.ensures ∙ (λ t. peer_line (c.unwrap_or.ensures t) (peer_is t)) in
    let frozen_is = c.in_ok-frozen.ensures ∙ ap (λ (rule : Rule). frozen_line rule n.closing) c.rule.ensures in
    let lower_is : string_bytes c.in_ok-lower.lower ≡ lower_line (processed_quantity side s.facts q) (peer_quantity s.facts q) =
    c.in_ok-lower.ensures ∙ (λ t. lower_line (c.processed.ensures t) (peer_is t)) in
    let some_is = c.is_some.ensures ∙ ap is_some peer_is in
    let shown_is : string_bytes c.in_ok-confirmed.confirmed ≡ confirmed_line (is_some (peer_quantity s.facts q)) (confirmed_quantity side s q) =
    c.in_ok-confirmed.ensures ∙ (λ t. confirmed_line (some_is t) (confirmed_is t)) in
    IfOk-weaker c.format.result _ _ (λ text e.
    let is : string_bytes text ≡ string_bytes c.in_ok-frozen.frozen ++ (string_bytes c.in_ok-met.met ++ (string_bytes c.in_ok-lower.lower
    ++ (string_bytes c.in_ok-confirmed.confirmed ++ string_bytes c.in_ok-told.told))) = e in
    is ∙ (λ t. frozen_is t ++ (met_is t ++ (lower_is t ++ (shown_is t ++ c.in_ok-told.ensures t))))) c.format.ensures.ok
