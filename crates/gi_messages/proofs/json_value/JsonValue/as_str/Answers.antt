use Rattle.std.proofs.Common.{◌≡◌, ap, ◌∙◌}
use Rattle.serde_json.specs.Find.{as_str}
use Rattle.gi_messages.specs.Tokens.{value_at}
use Rattle.gi_messages.proofs.TokenLemmas.{text_seen}
use Rattle.gi_messages.proofs.json_value.JsonValue.as_str.Goals as goal

pub returns : goal.returns
returns c =
    let ts = c.self.inside.element in
    let b = c.self.invariant in
    let seen : ts ≡ c.args.self.now = c.self.view_is in
    text_seen _ ts (value_at ts) b (c.as_str.ensures b.json b.begins) ∙ ap (λ t. as_str (value_at t)) seen
