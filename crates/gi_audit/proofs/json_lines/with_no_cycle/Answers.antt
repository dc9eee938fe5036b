use Rattle.std.proofs.Common.{refl}
use Rattle.std.proofs.lemmas.Result.{IfOk-weaker}
use Rattle.gi_messages.proofs.WrittenTokens.{after}
use Rattle.gi_exports.proofs.ObjectLemmas.{last, object_more}
use Rattle.gi_audit.specs.JsonLines.{no_cycle_data}
use Rattle.gi_audit.proofs.json_lines.with_no_cycle.Goals as goal

pub returns : goal.returns
unfolding no_cycle_data
returns c =
    let members =
    after c.in_ok-put_null.ensures
    (after c.in_ok-put_null-2.ensures
    (after c.in_ok-put_word.ensures
    (after c.in_ok-put_word-2.ensures
    (last c.put_word-2.new.out)))) in
    IfOk-weaker c.object_ended.result _ _ (λ bytes is. object_more (no_cycle_data c.args.verdict.now) c.args.text.items bytes.items _ c.in_ok-out.ensures members refl is) c.object_ended.ensures
