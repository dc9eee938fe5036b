use Rattle.std.proofs.Common.{take}
use Rattle.gi_exports.specs.Csv.{csv_text, confirmed_header, hour_fields}
use Rattle.gi_exports.specs.Sheet.{HasWritten}
use Rattle.gi_exports.proofs.csv_reports.hours_csv.Given as goal

abbrev pub invariant-loop-entry : goal.invariant-loop-entry
invariant-loop-entry l = HasWritten l.out (csv_text confirmed_header hour_fields (take l.entry-index l.hours))
