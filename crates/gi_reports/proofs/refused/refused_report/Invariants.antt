use Rattle.std.proofs.Common.{◌≡◌, string_bytes, take}
use Rattle.gi_reports.specs.Refused.{refused_lines}
use Rattle.gi_reports.proofs.refused.refused_report.Given as goal

abbrev pub invariant-loop-code : goal.invariant-loop-code
invariant-loop-code l = string_bytes l.text ≡ refused_lines (take l.code-index l.code-items)
