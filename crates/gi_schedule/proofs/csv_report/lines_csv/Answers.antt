use Rattle.std.proofs.lemmas.Result.{IfOk-weaker}
use Rattle.gi_schedule.specs.Csv.{line_fields, schedule_header}
use Rattle.gi_exports.proofs.SheetLemmas.{record_more, records_all}
use Rattle.gi_schedule.proofs.csv_report.lines_csv.Goals as goal

pub loop-line-preserved : goal.loop-line-preserved
loop-line-preserved c =
    record_more schedule_header line_fields c.args.lines.now c.loop-line.line-index c.line-item.result c.loop-line-test.true c.line-item.is c.loop-line.invariant
    c.in_ok-put_line.ensures

pub returns : goal.returns
returns c =
    IfOk-weaker c.finished.result _ _ (λ bytes is.
    is _ (records_all schedule_header line_fields c.args.lines.now c.loop-line.line-index c.loop-line-test.false c.loop-line.invariant))
    c.finished.ensures
