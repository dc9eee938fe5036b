use Rattle.std.proofs.Common.{◌∙◌, sym}
use Rattle.gi_script.proofs.reading.read.Goals as goal

pub returns-in_err-read-clause-point : goal.returns-in_err-read-clause-point
returns-in_err-read-clause-point c = λ none. absurd (none _ _ c.in-Some-point.point (sym c.of-lines.ensures.lines ∙ c.in-Some.ensures.line) c.in-Some-point.ensures)

pub returns-clause-point : goal.returns-clause-point
returns-clause-point c = λ none. absurd (none _ _ c.in-Some-point.point (sym c.of-lines.ensures.lines ∙ c.in-Some.ensures.line) c.in-Some-point.ensures)
