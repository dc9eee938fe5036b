use Rattle.std.proofs.Common.{◌≡◌, take}
use Rattle.std.specs.List.{sum_by}
use Rattle.gi_audit.specs.Finding.{row_total}
use Rattle.gi_audit.proofs.total.total.Given as goal

abbrev pub invariant-loop-row : goal.invariant-loop-row
invariant-loop-row l = l.total ≡ sum_by (row_total l.direction) (take l.row-index l.row-items)
