use Rattle.std.proofs.Common.{◌≡◌, Some, None, ap, ◌∙◌}
use Rattle.serde_json.specs.Find.{as_array}
use Rattle.gi_messages.specs.Tokens.{value_at}
use Rattle.gi_messages.proofs.TokenLemmas.{elements_opened, holds_opened, seen_opened}
use Rattle.gi_messages.proofs.json_value.JsonValue.elements.Goals as goal

pub invariant_of-result : goal.invariant_of-result
invariant_of-result c =
    let ts = c.self.inside.element in
    let b = c.self.invariant in
    let r = c.in-Some.items in
    holds_opened r (as_array (value_at ts)) (elements_opened (Some r) ts (value_at ts) b (c.in-Some.ensures b.json b.begins))

pub returns-in-Some : goal.returns-in-Some
returns-in-Some c =
    let ts = c.self.inside.element in
    let b = c.self.invariant in
    let r = Some c.in-Some.items in
    let seen : ts ≡ c.args.self.now = c.self.view_is in
    seen_opened r (as_array (value_at ts)) (elements_opened r ts (value_at ts) b (c.in-Some.ensures b.json b.begins)) ∙ ap (λ t. as_array (value_at t)) seen

pub returns-in-None : goal.returns-in-None
returns-in-None c =
    let ts = c.self.inside.element in
    let b = c.self.invariant in
    let seen : ts ≡ c.args.self.now = c.self.view_is in
    seen_opened None (as_array (value_at ts)) (elements_opened None ts (value_at ts) b (c.in-None.ensures b.json b.begins)) ∙ ap (λ t. as_array (value_at t)) seen
