use Rattle.gi_lesser.proofs.RowCounts.{adds-no_rows}
use Rattle.gi_lesser.proofs.laws.adds_no_rows.Goals as goal

pub returns : goal.returns
returns c = adds-no_rows
