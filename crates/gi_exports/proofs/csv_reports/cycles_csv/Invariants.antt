use Rattle.std.proofs.Common.{take}
use Rattle.gi_exports.specs.Csv.{csv_text, open_header, cycle_fields}
use Rattle.gi_exports.specs.Sheet.{HasWritten}
use Rattle.gi_exports.proofs.csv_reports.cycles_csv.Given as goal

abbrev pub invariant-loop-entry : goal.invariant-loop-entry
invariant-loop-entry l = HasWritten l.out (csv_text open_header cycle_fields (take l.entry-index l.cycles))
