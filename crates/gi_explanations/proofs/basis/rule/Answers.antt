use Rattle.gi_explanations.proofs.FoundLemmas.{rule-found, rule-open}
use Rattle.gi_explanations.proofs.basis.rule.Goals as goal

pub returns-in-Some : goal.returns-in-Some
returns-in-Some g c = rule-found g.R.Role.SIDE c.args.desk.now.facts c.args.question.now c.args.numbers.now c.in-Some.n c.rule_at.result c.requires c.in-Some.is c.rule_at.ensures

pub returns-in-None : goal.returns-in-None
returns-in-None g c = rule-open g.R.Role.SIDE c.args.desk.now.facts c.args.question.now c.args.numbers.now c.requires c.in-None.is
