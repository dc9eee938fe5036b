use Rattle.std.proofs.Common.{arith}
use Rattle.std.specs.List.Sorted.{IsPermutation}
use Rattle.std.proofs.lemmas.List.Sorted.{length_permutation}
use Rattle.std.proofs.lemmas.Result.{IfOk-at_ok}
use Rattle.gi_pairs.specs.Table.{TableContents}
use Rattle.gi_processing.proofs.processing.table_of.Goals as goal

pub returns-clause-few : goal.returns-clause-few
returns-clause-few c =
    let rows = c.in_ok-rows.rows.items in
    let moved = IfOk-at_ok (λ (table : TableContents). IsPermutation rows table.rows) c.unwrap.ensures c.build.ensures.rows in
    omega (arith, length_permutation rows c.unwrap.result.rows moved, c.in_ok-rows.ensures.few)
