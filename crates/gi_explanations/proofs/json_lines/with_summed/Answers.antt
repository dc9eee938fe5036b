use Rattle.std.proofs.Common.{refl}
use Rattle.std.proofs.lemmas.Result.{IfOk-weaker}
use Rattle.gi_messages.proofs.WrittenTokens.{after}
use Rattle.gi_exports.proofs.ObjectLemmas.{last, object_more}
use Rattle.gi_explanations.specs.JsonLines.{summed_data}
use Rattle.gi_explanations.proofs.json_lines.with_summed.Goals as goal

pub returns : goal.returns
unfolding summed_data
returns c =
    let members = after c.in_ok-put_whole.ensures (after c.in_ok-put_whole-2.ensures (after c.in_ok-put_word.ensures (after c.in_ok-put_whole-3.ensures (last c.put_whole-3.new.out)))) in
    IfOk-weaker c.object_ended.result _ _ (λ bytes is. object_more (summed_data c.args.before c.args.up_to c.args.all) c.args.text.items bytes.items _ c.in_ok-out.ensures members refl is) c.object_ended.ensures
