use Rattle.std.proofs.Common.{inl, refl}
use Rattle.gi_live.proofs.living.answered.Goals as goal

pub returns-in-Ok-clause-answers : goal.returns-in-Ok-clause-answers
returns-in-Ok-clause-answers g c =
    let written = c.in-Ok.ensures.written in
    (written.0, inl (written.1, refl), written.2)
