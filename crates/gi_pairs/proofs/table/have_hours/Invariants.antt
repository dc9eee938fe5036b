use Rattle.std.proofs.Common.{◌≡◌, ◌==◌, All, length, take, true}
use Rattle.std.specs.List.{list_all}
use Rattle.gi_pairs.specs.Row.{IsRow}
use Rattle.gi_pairs.proofs.table.have_hours.Given as goal

abbrev pub invariant-loop-row : goal.invariant-loop-row
invariant-loop-row l = record {
  lengths : list_all (λ row. length row.hours == l.hours) (take l.row-index l.rows) ≡ true;
  known : All IsRow (take l.row-index l.rows);
}
