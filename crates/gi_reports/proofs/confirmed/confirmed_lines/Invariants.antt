use Rattle.std.proofs.Common.{◌≡◌, string_bytes, take}
use Rattle.gi_reports.specs.Confirmed.{confirmed_lines as lines_of}
use Rattle.gi_reports.proofs.confirmed.confirmed_lines.Given as goal

abbrev pub invariant-loop-id : goal.invariant-loop-id
invariant-loop-id g l = string_bytes l.text ≡ lines_of g.R.Role.SIDE l.desk (take l.id-index l.ids)
