use Rattle.std.proofs.lemmas.Result.{IfErr-weaker, IfOk-weaker}
use Rattle.gi_live.specs.Stretches.{pause}
use Rattle.gi_live.proofs.Goings.{goes_further, not_further}
use Rattle.gi_live.proofs.living.part.Goals as goal

pub returns-clause-goes : goal.returns-clause-goes
returns-clause-goes g c =
    IfOk-weaker c.between.result _ _
    (λ it further. goes_further g.R.Role.SIDE (pause c.args.desk c.args.before) _ _ _ _ _ c.in-Ok.stretch.0 c.in-Ok.stretch.1 c.in-Ok.stretch.2 it.0 it.1 it.2 c.in-Ok.ensures.until further)
    c.between.ensures.further

pub returns-clause-some : goal.returns-clause-some
returns-clause-some g c =
    IfErr-weaker c.between.result _ _
    (λ fault leaves. not_further g.R.Role.SIDE (pause c.args.desk c.args.before) _ _ _ _ _ c.in-Ok.stretch.0 c.in-Ok.stretch.1 c.in-Ok.stretch.2 fault c.in-Ok.ensures.until leaves)
    c.between.ensures.leaves
