use Rattle.std.proofs.Common.{refl}
use Rattle.std.proofs.lemmas.Result.{IfOk-weaker}
use Rattle.gi_messages.proofs.WrittenTokens.{after}
use Rattle.gi_exports.proofs.ObjectLemmas.{last, object_more}
use Rattle.gi_explanations.specs.JsonLines.{reduced_data}
use Rattle.gi_explanations.proofs.json_lines.with_reduced.Goals as goal

pub returns : goal.returns
unfolding reduced_data
returns c =
    let members = after c.in_ok-put_number_or_null.ensures (after c.in_ok-put_number_or_null-2.ensures (after c.in_ok-put_number_or_null-3.ensures (after c.in_ok-put_word.ensures (after c.in_ok-put_whole.ensures (after c.in_ok-put_word-2.ensures (after c.in_ok-put_number_or_null-4.ensures (last c.put_number_or_null-4.new.out))))))) in
    IfOk-weaker c.object_ended.result _ _ (λ bytes is. object_more (reduced_data c.args.all c.args.before c.args.left c.args.quantity c.args.reason.now c.args.up_to) c.args.text.items bytes.items _ c.in_ok-out.ensures members refl is) c.object_ended.ensures
