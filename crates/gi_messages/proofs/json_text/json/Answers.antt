use Rattle.std.proofs.Common.{◌≡◌, map, Some, None, Err, sym, ap, ◌∙◌, subst}
use Rattle.json.specs.Lex.{tokens}
use Rattle.json.specs.Tape.{node_token}
use Rattle.serde_json.specs.Read.{max_depth, read}
use Rattle.gi_messages.specs.Tokens.{value_at, is_sound, Begins}
use Rattle.gi_messages.proofs.JsonLemmas.{json_of-text, json_of-refused}
use Rattle.gi_messages.proofs.TextLemmas.{read_sound, read_unsound, read_invalid, value_read, begins_read}
use Rattle.gi_messages.proofs.json_text.json.Goals as goal

pub returns-in_default-clause-value : goal.returns-in_default-clause-value
returns-in_default-clause-value c = sym (json_of-refused c.args.bytes.now (λ utf8. absurd (c.in_default.ensures.cases.0 utf8)))

pub returns-in-Err-Invalid-clause-value : goal.returns-in-Err-Invalid-clause-value
returns-in-Err-Invalid-clause-value c =
    let text = c.in-Ok.text.now in
    let none = read_invalid text (c.in-Err-Invalid.ensures.invalid (ap (λ e. Err e) c.in-Err-Invalid.field-0-is)) in
    sym (json_of-refused c.args.bytes.now (λ utf8. subst (λ t. read t ≡ None) c.in-Ok.ensures.cases.0 none))

pub returns-then-not-is_sound-clause-value : goal.returns-then-not-is_sound-clause-value
returns-then-not-is_sound-clause-value c =
    let text = c.in-Ok.text.now in
    let seen : map node_token c.nodes.result.now ≡ tokens text = c.nodes.ensures.tokens ∙ c.in-Ok-parse.ensures.ok.0 in
    let none = read_unsound text (ap (λ ts. is_sound ts max_depth) (sym seen) ∙ sym c.if-not-is_sound.ensures) in
    sym (json_of-refused c.args.bytes.now (λ utf8. subst (λ t. read t ≡ None) c.in-Ok.ensures.cases.0 none))

pub invariant_of-result : goal.invariant_of-result
invariant_of-result c =
    let text = c.in-Ok.text.now in
    let seen : map node_token c.nodes.result.now ≡ tokens text = c.nodes.ensures.tokens ∙ c.in-Ok-parse.ensures.ok.0 in
    let whole = read_sound text c.in-Ok-parse.ensures.ok.1 (ap (λ ts. is_sound ts max_depth) (sym seen) ∙ sym c.if-not-is_sound.ensures) in
    subst (λ ts. Begins ts (value_at ts)) (sym c.in-Ok-parse.ensures.ok.0) (begins_read text whole)

pub returns-clause-value : goal.returns-clause-value
returns-clause-value c =
    let text = c.in-Ok.text.now in
    let seen : map node_token c.nodes.result.now ≡ tokens text = c.nodes.ensures.tokens ∙ c.in-Ok-parse.ensures.ok.0 in
    let whole = read_sound text c.in-Ok-parse.ensures.ok.1 (ap (λ ts. is_sound ts max_depth) (sym seen) ∙ sym c.if-not-is_sound.ensures) in
    let text_is = subst (λ t. read t ≡ Some (value_at c.in-Ok-parse.tape)) c.in-Ok.ensures.cases.0 (value_read text whole ∙ ap (λ ts. Some (value_at ts)) (sym c.in-Ok-parse.ensures.ok.0)) in
    sym (json_of-text c.args.bytes.now (value_at c.in-Ok-parse.tape) c.in-Ok.ensures.cases.1 text_is)
