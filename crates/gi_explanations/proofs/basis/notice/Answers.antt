use Rattle.gi_explanations.proofs.FoundLemmas.{notice-found}
use Rattle.gi_explanations.proofs.basis.notice.Goals as goal

pub returns : goal.returns
returns g c = notice-found g.R.Role.SIDE c.args.desk.now.facts c.args.question.now c.args.numbers.now c.notice_at.result c.requires c.notice_at.ensures
