use Rattle.std.proofs.Common.{refl}
use Rattle.std.proofs.lemmas.Result.{IfOk-weaker}
use Rattle.gi_messages.proofs.WrittenTokens.{after}
use Rattle.gi_exports.proofs.ObjectLemmas.{last, object_more}
use Rattle.gi_explanations.specs.JsonLines.{told_data}
use Rattle.gi_explanations.proofs.json_lines.with_told.Goals as goal

pub returns : goal.returns
unfolding told_data
returns c =
    let members = after c.in_ok-put_word.ensures (after c.in_ok-put_portfolio.ensures (last c.put_portfolio.new.out)) in
    IfOk-weaker c.object_ended.result _ _ (λ bytes is. object_more (told_data c.args.portfolio.now) c.args.text.items bytes.items _ c.in_ok-out.ensures members refl is) c.object_ended.ensures
