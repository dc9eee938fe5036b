use Rattle.gi_explanations.proofs.FoundLemmas.{contract-found}
use Rattle.gi_explanations.proofs.basis.contract.Goals as goal

pub returns : goal.returns
returns g c = contract-found g.R.Role.SIDE c.args.desk.now.facts c.args.question.now c.args.numbers.now c.contract_at.result c.requires c.contract_at.ensures
