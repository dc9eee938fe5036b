use Rattle.std.proofs.Common.{◌≡◌, ◌∙◌, string_bytes}
use Rattle.std.proofs.lemmas.Result.{IfOk-weaker}
use Rattle.gi_reports.proofs.ConfirmedLemmas.{line_of, same_line}
use Rattle.gi_reports.proofs.confirmed.confirmed_line.Goals as goal

pub returns : goal.returns
returns c =
    IfOk-weaker c.format.result _ _ (λ line e.
    let id = c.args.id.now in
    let is : string_bytes line ≡ line_of id.day c.from.result (string_bytes c.in_ok-row.row) c.args.hour c.value.result = e in
    is ∙ same_line id c.args.row.now c.args.hour c.from.result c.value.result c.args.quantity (string_bytes c.in_ok-row.row) c.from.ensures c.in_ok-row.ensures c.value.ensures.value)
    c.format.ensures.ok
