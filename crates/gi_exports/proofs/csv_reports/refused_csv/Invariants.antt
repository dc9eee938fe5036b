use Rattle.std.proofs.Common.{take}
use Rattle.gi_exports.specs.Csv.{refused_text}
use Rattle.gi_exports.specs.Sheet.{HasWritten}
use Rattle.gi_exports.proofs.csv_reports.refused_csv.Given as goal

abbrev pub invariant-loop-code : goal.invariant-loop-code
invariant-loop-code l = HasWritten l.out (refused_text (take l.code-index l.code-items))
