use Rattle.std.proofs.lemmas.Result.{IfOk-weaker}
use Rattle.gi_exports.proofs.SheetLemmas.{record_more, records_all}
use Rattle.gi_changes.specs.Forms.{change_fields, change_header}
use Rattle.gi_changes.proofs.csv_changes.changes_csv.Goals as goal

pub loop-line-preserved : goal.loop-line-preserved
loop-line-preserved c =
    record_more change_header change_fields c.args.lines.now c.loop-line.line-index c.line-item.result c.loop-line-test.true c.line-item.is c.loop-line.invariant
    c.in_ok-put_change.ensures

pub returns : goal.returns
returns c =
    IfOk-weaker c.finished.result _ _ (λ bytes is.
    is _ (records_all change_header change_fields c.args.lines.now c.loop-line.line-index c.loop-line-test.false c.loop-line.invariant))
    c.finished.ensures
