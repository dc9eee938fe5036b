use Rattle.std.proofs.Common.{take}
use Rattle.gi_exports.specs.Csv.{csv_text}
use Rattle.gi_exports.specs.Sheet.{HasWritten}
use Rattle.gi_changes.specs.Forms.{change_fields, change_header}
use Rattle.gi_changes.proofs.csv_changes.changes_csv.Given as goal

abbrev pub invariant-loop-line : goal.invariant-loop-line
invariant-loop-line l = HasWritten l.out (csv_text change_header change_fields (take l.line-index l.lines))
