use Rattle.std.proofs.lemmas.Result.{IfOk-weaker}
use Rattle.gi_schedule.specs.Json.{line_data}
use Rattle.gi_exports.proofs.LineLemmas.{line_more}
use Rattle.gi_schedule.proofs.json_report.with_line.Goals as goal

pub returns : goal.returns
returns c = IfOk-weaker c.ended.result _ _ (λ bytes is. line_more (line_data c.args.line.now) c.args.text.items bytes.items c.new-out.ensures.before c.new-out.ensures.tokens c.in_ok-put_line.ensures is) c.ended.ensures
