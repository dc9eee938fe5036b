use Rattle.std.proofs.Common.{take}
use Rattle.gi_exports.specs.Csv.{csv_text}
use Rattle.gi_schedule.specs.Csv.{line_fields, schedule_header}
use Rattle.gi_exports.specs.Sheet.{HasWritten}
use Rattle.gi_schedule.proofs.csv_report.lines_csv.Given as goal

abbrev pub invariant-loop-line : goal.invariant-loop-line
invariant-loop-line l = HasWritten l.out (csv_text schedule_header line_fields (take l.line-index l.lines))
