use Rattle.std.proofs.lemmas.Result.{IfOk-weaker}
use Rattle.gi_exports.specs.Json.{cycle_data}
use Rattle.gi_exports.proofs.LineLemmas.{line_more}
use Rattle.gi_exports.proofs.json_reports.with_cycle.Goals as goal

pub returns : goal.returns
returns c = IfOk-weaker c.ended.result _ _ (λ bytes is. line_more (cycle_data c.args.entry.now) c.args.text.items bytes.items c.new-out.ensures.before c.new-out.ensures.tokens c.in_ok-put_cycle.ensures is) c.ended.ensures
