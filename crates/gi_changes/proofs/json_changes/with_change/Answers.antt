use Rattle.std.proofs.lemmas.Result.{IfOk-weaker}
use Rattle.gi_exports.proofs.LineLemmas.{line_more}
use Rattle.gi_changes.specs.Forms.{change_data}
use Rattle.gi_changes.proofs.json_changes.with_change.Goals as goal

pub returns : goal.returns
returns c = IfOk-weaker c.ended.result _ _ (λ bytes is. line_more (change_data c.args.line.now) c.args.text.items bytes.items c.new-out.ensures.before c.new-out.ensures.tokens c.in_ok-put_change.ensures is) c.ended.ensures
