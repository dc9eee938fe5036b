use Rattle.std.proofs.Common.{◌≡◌, ◌∙◌, string_bytes, rules, w64}
use mir.Val.{of_z, to_z}
use Rattle.std.proofs.lemmas.Int.{to_z-of_z}
use Rattle.std.proofs.lemmas.Result.{IfOk-weaker}
use Rattle.gi_changes.proofs.ChangeLemmas.{same_text, text_of_parts}
use Rattle.gi_changes.proofs.text_changes.change_text.Goals as goal

pub returns : goal.returns
returns c =
    IfOk-weaker c.format.result _ _ (λ text e.
    let line = c.args.line.now in
    let place = string_bytes c.in_ok-place.place in
    let is : string_bytes text ≡ text_of_parts place line.before line.after (to_z w64 (of_z w64 line.change)) = e in
    is ∙ same_text line place (to_z w64 (of_z w64 line.change)) c.in_ok-place.ensures (to_z-of_z w64 line.change (search rules)))
    c.format.ensures.ok
