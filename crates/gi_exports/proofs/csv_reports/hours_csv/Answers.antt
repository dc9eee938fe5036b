use Rattle.std.proofs.lemmas.Result.{IfOk-weaker}
use Rattle.gi_exports.specs.Csv.{confirmed_header, hour_fields}
use Rattle.gi_exports.proofs.SheetLemmas.{record_more, records_all}
use Rattle.gi_exports.proofs.csv_reports.hours_csv.Goals as goal

pub loop-entry-preserved : goal.loop-entry-preserved
loop-entry-preserved c =
    record_more confirmed_header hour_fields c.args.hours.now c.loop-entry.entry-index c.entry-item.result c.loop-entry-test.true c.entry-item.is c.loop-entry.invariant
    c.in_ok-put_hour.ensures

pub returns : goal.returns
returns c =
    IfOk-weaker c.finished.result _ _ (λ bytes is.
    is _ (records_all confirmed_header hour_fields c.args.hours.now c.loop-entry.entry-index c.loop-entry-test.false c.loop-entry.invariant))
    c.finished.ensures
