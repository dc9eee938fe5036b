use Rattle.std.proofs.Common.{subst, sym}
use Rattle.gi_live.specs.Answering.{AsksGiven}
use Rattle.gi_live.specs.declared.query.Query.TheVariants as queries
use Rattle.gi_live.proofs.answering.due_in.Goals as goal

pub returns-in-None : goal.returns-in-None
returns-in-None c moment asks =
    c.in-None.ensures (queries.Due moment) (subst (λ line. AsksGiven line (queries.Due moment)) (sym c.as_slice-given.ensures) asks.asks)
