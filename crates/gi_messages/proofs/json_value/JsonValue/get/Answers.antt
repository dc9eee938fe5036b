use Rattle.std.proofs.Common.{◌≡◌, Some, None, ap, ◌∙◌}
use Rattle.serde_json.specs.Find.{get}
use Rattle.gi_messages.specs.Tokens.{value_at}
use Rattle.gi_messages.proofs.TokenLemmas.{get_found, seen_found, begins_found}
use Rattle.gi_messages.proofs.json_value.JsonValue.get.Goals as goal

pub invariant_of-result : goal.invariant_of-result
invariant_of-result c =
    let ts = c.self.inside.element in
    let b = c.self.invariant in
    let r = c.in-Some.element in
    begins_found r (get c.args.key.now (value_at ts)) (get_found c.args.key.now (Some r) ts (value_at ts) b (c.in-Some.ensures b.json b.begins))

pub returns-in-Some : goal.returns-in-Some
returns-in-Some c =
    let ts = c.self.inside.element in
    let b = c.self.invariant in
    let r = Some c.in-Some.element in
    let seen : ts ≡ c.args.self.now = c.self.view_is in
    seen_found r (get c.args.key.now (value_at ts)) (get_found c.args.key.now r ts (value_at ts) b (c.in-Some.ensures b.json b.begins)) ∙ ap (λ t. get c.args.key.now (value_at t)) seen

pub returns-in-None : goal.returns-in-None
returns-in-None c =
    let ts = c.self.inside.element in
    let b = c.self.invariant in
    let seen : ts ≡ c.args.self.now = c.self.view_is in
    seen_found None (get c.args.key.now (value_at ts)) (get_found c.args.key.now None ts (value_at ts) b (c.in-None.ensures b.json b.begins)) ∙ ap (λ t. get c.args.key.now (value_at t)) seen
