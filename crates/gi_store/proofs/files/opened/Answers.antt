use Rattle.gi_store.proofs.Whose.{gone}
use Rattle.gi_store.proofs.files.opened.Goals as goal

pub returns-clause-other : goal.returns-clause-other
returns-clause-other g c = rw c.in-Ok.is (λ idle free tables. gone c.open.result c.let_go.result c.let_go.ensures.fault (c.open.ensures.other idle free tables))
