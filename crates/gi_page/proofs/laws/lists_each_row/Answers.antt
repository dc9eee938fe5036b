use Rattle.gi_page.proofs.LawLemmas.{each_confirmed, each_frozen, each_once}
use Rattle.gi_page.proofs.laws.lists_each_row.Goals as goal

pub returns-clause-frozen : goal.returns-clause-frozen
returns-clause-frozen c = each_frozen

pub returns-clause-confirmed : goal.returns-clause-confirmed
returns-clause-confirmed c = each_confirmed

pub returns-clause-once : goal.returns-clause-once
returns-clause-once c = each_once
