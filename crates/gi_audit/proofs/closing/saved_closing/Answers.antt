use Rattle.std.proofs.Common.{◌≤◌, ◌<◌, ◌∙◌, arith, length, sym}
use Rattle.gi_audit.proofs.Closings.{late, none_saved, saved}
use Rattle.gi_audit.proofs.closing.saved_closing.Goals as goal

pub returns-in_err-closing : goal.returns-in_err-closing
returns-in_err-closing g c = c.from_residual.ensures ∙ none_saved c.args.desk.now c.args.id.now (sym c.in_err-closing.was ∙ c.closing.ensures)

pub returns-then-closing-saved : goal.returns-then-closing-saved
returns-then-closing-saved g c =
    let s = c.args.desk.now in
    let after : s.saved < c.in_ok-closing.closing = omega (arith, c.saved.ensures.value, c.if-closing-saved.true) in
    late s c.args.id.now c.in_ok-closing.closing (sym c.in_ok-closing.was ∙ c.closing.ensures) after

pub returns : goal.returns
returns g c =
    let s = c.args.desk.now in
    let within : s.saved ≤ length s.facts = omega (arith, c.saved.ensures.value, c.saved.ensures.within) in
    let before : c.in_ok-closing.closing ≤ s.saved = omega (arith, c.saved.ensures.value, c.if-closing-saved.false) in
    saved s c.args.id.now c.in_ok-closing.closing within (sym c.in_ok-closing.was ∙ c.closing.ensures) before
