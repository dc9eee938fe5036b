use Rattle.std.proofs.Common.{option_and_then, false, sym, ap, ◌∙◌}
use Rattle.serde_json.specs.Find.{as_u64}
use Rattle.serde_json.specs.Read.{number_from}
use Rattle.gi_messages.proofs.NumberLemmas.{never_whole, without_minus}
use Rattle.gi_messages.proofs.json_number.whole_of_numeral.Goals as goal

pub returns-then-begins_with : goal.returns-then-begins_with
returns-then-begins_with c = sym (never_whole c.args.bytes.now (sym c.if-begins_with.ensures.value))

pub returns : goal.returns
returns c =
    c.unsigned.ensures ∙ ap (λ p. option_and_then as_u64 (number_from false p)) c.scan.ensures.parts
    ∙ ap (option_and_then as_u64) (sym (without_minus c.args.bytes.now (sym c.if-begins_with.ensures.value)))
