use Rattle.std.proofs.Common.{◌≡◌, string_bytes, take}
use Rattle.std.specs.List.{flat_map}
use Rattle.gi_reports.specs.Confirmed.{row_lines}
use Rattle.gi_reports.proofs.confirmed.table_lines.Given as goal

abbrev pub invariant-loop-row : goal.invariant-loop-row
invariant-loop-row l = string_bytes l.text ≡ flat_map (row_lines l.id l.table.first) (take l.row-index l.table.rows)
