use Rattle.std.proofs.Common.{refl}
use Rattle.std.proofs.lemmas.Result.{IfOk-weaker}
use Rattle.gi_messages.proofs.WrittenTokens.{after}
use Rattle.gi_exports.proofs.ObjectLemmas.{last, object_more}
use Rattle.gi_explanations.specs.JsonLines.{state_data}
use Rattle.gi_explanations.proofs.json_lines.with_state.Goals as goal

pub returns : goal.returns
unfolding state_data
returns c =
    let members = after c.in_ok-put_word.ensures (after c.in_ok-put_number_or_null.ensures (after c.in_ok-put_word-2.ensures (last c.put_word-2.new.out))) in
    IfOk-weaker c.object_ended.result _ _ (λ bytes is. object_more (state_data c.args.quantity c.args.state.now) c.args.text.items bytes.items _ c.in_ok-out.ensures members refl is) c.object_ended.ensures
