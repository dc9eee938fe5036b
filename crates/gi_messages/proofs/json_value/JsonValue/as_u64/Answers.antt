use Rattle.std.proofs.Common.{◌≡◌, Some, None, option_map, option_and_then, sym, ap, ◌∙◌}
use Rattle.serde_json.specs.Find.{as_number, as_u64}
use Rattle.gi_messages.specs.Tokens.{value_at}
use Rattle.gi_messages.proofs.TokenLemmas.{whole_seen}
use Rattle.gi_messages.proofs.json_value.JsonValue.as_u64.Goals as goal

pub returns-in_err-as_number : goal.returns-in_err-as_number
returns-in_err-as_number c =
    let ts = c.self.inside.element in
    let b = c.self.invariant in
    let seen : ts ≡ c.args.self.now = c.self.view_is in
    let none = ap (option_map (λ s. s.now)) c.in_err-as_number.was in
    c.from_residual.ensures ∙ whole_seen None ts (value_at ts) b (sym none ∙ c.as_number.ensures b.json b.begins) ∙ ap (λ t. option_and_then as_u64 (as_number (value_at t))) seen

pub returns : goal.returns
returns c =
    let ts = c.self.inside.element in
    let b = c.self.invariant in
    let seen : ts ≡ c.args.self.now = c.self.view_is in
    let some = ap (option_map (λ s. s.now)) c.in_ok-as_number.was in
    c.whole_number.ensures ∙ whole_seen (Some c.in_ok-as_number.field-0.now) ts (value_at ts) b (sym some ∙ c.as_number.ensures b.json b.begins) ∙ ap (λ t. option_and_then as_u64 (as_number (value_at t))) seen
