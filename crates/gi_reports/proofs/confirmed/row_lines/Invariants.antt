use Rattle.std.proofs.Common.{◌≡◌, string_bytes, take}
use Rattle.std.specs.List.{enumerate_from, flat_map}
use Rattle.gi_reports.specs.Confirmed.{confirmed_line}
use Rattle.gi_reports.proofs.confirmed.row_lines.Given as goal

abbrev pub invariant-loop-place : goal.invariant-loop-place
invariant-loop-place l = string_bytes l.text ≡ flat_map (λ counted. confirmed_line l.id l.row counted.0 counted.1) (enumerate_from l.first (take l.place l.row.hours))
