use Rattle.std.proofs.Common.{◌≡◌, ◌∙◌, string_bytes, rules, w64}
use mir.Val.{of_z, to_z}
use Rattle.std.proofs.lemmas.Int.{to_z-of_z}
use Rattle.std.proofs.lemmas.Result.{IfOk-weaker}
use Rattle.gi_schedule.proofs.LineLemmas.{line_of_parts, same_line}
use Rattle.gi_schedule.proofs.text_report.line_text.Goals as goal

pub returns : goal.returns
returns c =
    IfOk-weaker c.format.result _ _ (λ text e.
    let line = c.args.line.now in
    let front = string_bytes c.in_ok-front.front in
    let pair = string_bytes c.in_ok-pair.pair in
    let is : string_bytes text ≡ line_of_parts front pair line.hour (to_z w64 (of_z w64 line.quantity)) = e in
    is ∙ same_line line front pair (to_z w64 (of_z w64 line.quantity)) c.in_ok-front.ensures c.in_ok-pair.ensures (to_z-of_z w64 line.quantity (search rules)))
    c.format.ensures.ok
