use Rattle.std.proofs.Common.{refl}
use Rattle.std.proofs.lemmas.Result.{IfOk-weaker}
use Rattle.gi_messages.proofs.WrittenTokens.{after}
use Rattle.gi_exports.proofs.ObjectLemmas.{last, object_more}
use Rattle.gi_audit.specs.JsonLines.{agreed_data}
use Rattle.gi_audit.proofs.json_lines.with_agreed.Goals as goal

pub returns : goal.returns
unfolding agreed_data
returns c =
    let members =
    after (rw c.from.ensures at c.in_ok-put_number.ensures)
    (after c.in_ok-put_day.ensures
    (after c.in_ok-put_word.ensures
    (after c.in_ok-put_whole.ensures
    (after c.in_ok-put_word-2.ensures
    (after c.in_ok-put_whole-2.ensures
    (last c.put_whole-2.new.out)))))) in
    IfOk-weaker c.object_ended.result _ _ (λ bytes is. object_more (agreed_data c.args.id.now c.args.im c.args.mi) c.args.text.items bytes.items _ c.in_ok-out.ensures members refl is) c.object_ended.ensures
