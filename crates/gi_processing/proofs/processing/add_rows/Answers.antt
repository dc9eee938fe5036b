use Rattle.std.proofs.lemmas.Result.{on_ok_weaker}
use Rattle.gi_processing.specs.Processing.{processed_row}
use Rattle.gi_processing.proofs.RowLaws.{rows_of_both}
use Rattle.gi_processing.proofs.processing.add_rows.Goals as goal

pub returns : goal.returns
returns c =
    on_ok_weaker c.add_direction-2.result
    (rows_of_both (processed_row c.args.contracts.now c.args.span.now c.args.portfolio c.args.lines.now) c.args.lines.now c.args.rows.now.items c.add_direction.new.rows.items c.add_direction-2.new.rows.items
    c.in_ok-add_direction.ensures) c.add_direction-2.ensures
