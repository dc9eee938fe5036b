use Rattle.std.proofs.Common.{[], ap, refl}
use Rattle.gi_script.specs.Words.{words_of}
use Rattle.gi_script.proofs.reading.point.Goals as goal

pub returns-in_err-point : goal.returns-in_err-point
returns-in_err-point c =
    let text = ap words_of c.in-Ok.ensures.cases.0 in
    let words = c.of-words.ensures in
    let first = c.in-Some-point.ensures in
    rw c.from_residual.ensures (λ x is. let are = is.words in c.in_err-point.ensures x [] x (cc) (refl, is.code))
