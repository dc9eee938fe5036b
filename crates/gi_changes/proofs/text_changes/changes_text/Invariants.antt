use Rattle.std.proofs.Common.{◌≡◌, string_bytes, take}
use Rattle.gi_changes.specs.Forms.{changes_text as text_of_lines}
use Rattle.gi_changes.proofs.text_changes.changes_text.Given as goal

abbrev pub invariant-loop-line : goal.invariant-loop-line
invariant-loop-line l = string_bytes l.text ≡ text_of_lines (take l.line-index l.lines)
