use Rattle.std.proofs.Common.{take}
use Rattle.gi_exports.specs.Csv.{csv_text}
use Rattle.gi_schedule.specs.CutForms.{cut_fields, cut_header}
use Rattle.gi_exports.specs.Sheet.{HasWritten}
use Rattle.gi_schedule.proofs.csv_cuts.cuts_csv.Given as goal

abbrev pub invariant-loop-line : goal.invariant-loop-line
invariant-loop-line l = HasWritten l.out (csv_text cut_header cut_fields (take l.line-index l.lines))
