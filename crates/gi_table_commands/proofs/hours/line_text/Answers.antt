use Rattle.std.proofs.Common.{◌≡◌, ◌∙◌, string_bytes}
use Rattle.std.proofs.lemmas.Result.{IfOk-weaker}
use Rattle.gi_table_commands.specs.Hours.{cycle_line}
use Rattle.gi_table_commands.proofs.hours.line_text.Goals as goal

pub returns : goal.returns
returns c =
    IfOk-weaker c.format.result _ _ (λ line e.
    let is : string_bytes line ≡ cycle_line c.from.result c.args.date c.args.hour c.args.minute c.from-2.result = e in
    is ∙ (λ t. cycle_line (c.from.ensures t) c.args.date c.args.hour c.args.minute (c.from-2.ensures t)))
    c.format.ensures.ok
