use Rattle.std.proofs.Common.{refl}
use Rattle.std.proofs.lemmas.Result.{IfOk-weaker}
use Rattle.gi_messages.proofs.WrittenTokens.{after}
use Rattle.gi_exports.proofs.ObjectLemmas.{last, object_more}
use Rattle.gi_explanations.specs.JsonLines.{asked_data}
use Rattle.gi_explanations.proofs.json_lines.with_asked.Goals as goal

pub returns : goal.returns
unfolding asked_data
returns c =
    let members =
    after (rw c.from.ensures at c.in_ok-put_number.ensures)
    (after c.in_ok-put_day.ensures
    (after c.in_ok-put_direction.ensures
    (after (rw c.from-2.ensures at c.in_ok-put_whole.ensures)
    (after c.in_ok-put_code.ensures
    (after c.in_ok-put_word.ensures
    (after c.in_ok-put_code-2.ensures
    (after (rw (c.as_str.ensures.value, c.in_ok-side.ensures.ok) at c.in_ok-put_word-2.ensures)
    (last c.put_word-2.new.out)))))))) in
    IfOk-weaker c.object_ended.result _ _ (λ bytes is. object_more (asked_data c.args.side c.args.question.now) c.args.text.items bytes.items _ c.in_ok-out.ensures members refl is) c.object_ended.ensures
