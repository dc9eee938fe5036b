use Rattle.std.proofs.Common.{refl}
use Rattle.std.proofs.lemmas.Result.{IfOk-weaker}
use Rattle.gi_messages.proofs.WrittenTokens.{after}
use Rattle.gi_exports.proofs.ObjectLemmas.{last, object_more}
use Rattle.gi_audit.specs.JsonLines.{differs_data}
use Rattle.gi_audit.proofs.json_lines.with_difference.Goals as goal

pub returns : goal.returns
unfolding differs_data
returns c =
    let members =
    after (rw c.against_word.ensures at c.in_ok-put_word.ensures)
    (after (rw c.closing_of.ensures at c.in_ok-put_number_or_null.ensures)
    (after (rw c.from.ensures at c.in_ok-put_number.ensures)
    (after c.in_ok-put_day.ensures
    (after c.in_ok-put_word-2.ensures
    (after c.in_ok-put_word-3.ensures
    (after (rw c.from-2.ensures at c.in_ok-put_whole.ensures)
    (after c.in_ok-put_place.ensures
    (after (rw (c.as_str.ensures.value, c.in_ok-side.ensures.ok) at c.in_ok-put_word-4.ensures)
    (last c.put_word-4.new.out))))))))) in
    IfOk-weaker c.object_ended.result _ _ (λ bytes is. object_more (differs_data c.args.id.now c.args.difference c.args.place) c.args.text.items bytes.items _ c.in_ok-out.ensures members refl is) c.object_ended.ensures
