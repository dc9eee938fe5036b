use Rattle.std.proofs.lemmas.Result.{IfOk-weaker}
use Rattle.gi_exports.specs.Csv.{open_header, cycle_fields}
use Rattle.gi_exports.proofs.SheetLemmas.{record_more, records_all}
use Rattle.gi_exports.proofs.csv_reports.cycles_csv.Goals as goal

pub loop-entry-preserved : goal.loop-entry-preserved
loop-entry-preserved c =
    record_more open_header cycle_fields c.args.cycles.now c.loop-entry.entry-index c.entry-item.result c.loop-entry-test.true c.entry-item.is c.loop-entry.invariant
    c.in_ok-put_cycle.ensures

pub returns : goal.returns
returns c =
    IfOk-weaker c.finished.result _ _ (λ bytes is.
    is _ (records_all open_header cycle_fields c.args.cycles.now c.loop-entry.entry-index c.loop-entry-test.false c.loop-entry.invariant))
    c.finished.ensures
