use Rattle.std.proofs.Common.{refl}
use Rattle.std.proofs.lemmas.Result.{IfOk-weaker}
use Rattle.gi_messages.proofs.WrittenTokens.{after}
use Rattle.gi_exports.proofs.ObjectLemmas.{last, object_more}
use Rattle.gi_explanations.specs.JsonLines.{nominated_data}
use Rattle.gi_explanations.proofs.json_lines.with_nominated.Goals as goal

pub returns : goal.returns
unfolding nominated_data
returns c =
    let members = after c.in_ok-put_number_or_null.ensures (after c.in_ok-put_word.ensures (after c.in_ok-put_number_or_null-2.ensures (after c.in_ok-put_number_or_null-3.ensures (after c.in_ok-put_number_or_null-4.ensures (last c.put_number_or_null-4.new.out))))) in
    IfOk-weaker c.object_ended.result _ _ (λ bytes is. object_more (nominated_data c.args.fact c.args.priority c.args.quantity c.args.version) c.args.text.items bytes.items _ c.in_ok-out.ensures members refl is) c.object_ended.ensures
