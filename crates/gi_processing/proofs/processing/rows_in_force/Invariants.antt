use Rattle.std.proofs.Common.{take}
use Rattle.std.specs.List.{flat_map}
use Rattle.std.specs.List.Sorted.{IsPermutation}
use Rattle.gi_processing.specs.Processing.{portfolio_rows}
use Rattle.gi_processing.proofs.processing.rows_in_force.Given as goal

abbrev pub invariant-loop-portfolio : goal.invariant-loop-portfolio
invariant-loop-portfolio l = IsPermutation (flat_map (portfolio_rows l.contracts l.span l.book.documents) (take l.portfolio-index l.portfolio-items)) l.rows.items
