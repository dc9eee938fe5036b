use Rattle.std.proofs.Common.{◌≡◌, string_bytes, take}
use Rattle.gi_schedule.specs.Text.{lines_text as text_of_lines}
use Rattle.gi_schedule.proofs.text_report.lines_text.Given as goal

abbrev pub invariant-loop-line : goal.invariant-loop-line
invariant-loop-line l = string_bytes l.text ≡ text_of_lines (take l.line-index l.lines)
