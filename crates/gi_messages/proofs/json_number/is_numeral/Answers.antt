use Rattle.std.proofs.Common.{◌≡◌, drop, is_some, true, false, sym, ap, ◌∙◌, arith, take_all, length-drop}
use Rattle.fast_float.specs.Text.{scan}
use Rattle.serde_json.specs.Read.{number_from}
use Rattle.gi_messages.proofs.NumberLemmas.{with_minus, without_minus}
use Rattle.gi_messages.proofs.json_number.is_numeral.Goals as goal

pub returns-then-begins_with : goal.returns-then-begins_with
returns-then-begins_with c =
    let s = c.args.bytes.now in
    let parts : c.scan.result ≡ scan (drop 1 s) = c.scan.ensures.parts ∙ ap scan (take_all _ (drop 1 s) (omega (arith, length-drop 1 s))) in
    c.is_negative.ensures ∙ ap (λ p. is_some (number_from true p)) parts ∙ ap is_some (sym (with_minus s (sym c.if-begins_with.ensures.value)))

pub returns-else-begins_with : goal.returns-else-begins_with
returns-else-begins_with c =
    c.is_unsigned.ensures ∙ ap (λ p. is_some (number_from false p)) c.scan-else-begins_with.ensures.parts ∙ ap is_some (sym (without_minus c.args.bytes.now (sym c.if-begins_with.ensures.value)))
