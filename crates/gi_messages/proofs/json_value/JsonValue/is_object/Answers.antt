use Rattle.std.proofs.Common.{◌≡◌, is_some, ap, ◌∙◌}
use Rattle.serde_json.specs.Find.{as_object}
use Rattle.gi_messages.specs.Tokens.{value_at}
use Rattle.gi_messages.proofs.TokenLemmas.{object_seen}
use Rattle.gi_messages.proofs.json_value.JsonValue.is_object.Goals as goal

pub returns : goal.returns
returns c =
    let ts = c.self.inside.element in
    let b = c.self.invariant in
    let seen : ts ≡ c.args.self.now = c.self.view_is in
    c.is_some.ensures ∙ object_seen c.members.result ts (value_at ts) b (c.members.ensures b.json b.begins) ∙ ap (λ t. is_some (as_object (value_at t))) seen
