use Rattle.std.specs.Option.{option_copied}
use Rattle.gi_explanations.proofs.FoundLemmas.{nomination-few, nomination-found}
use Rattle.gi_explanations.proofs.basis.nomination.Goals as goal

pub returns-clause-value : goal.returns-clause-value
returns-clause-value g c =
    nomination-found g.R.Role.SIDE c.args.desk.now.facts c.args.question.now c.args.numbers.now (option_copied c.document_at.result) c.requires c.document_at.ensures

pub returns-clause-few : goal.returns-clause-few
returns-clause-few g c =
    nomination-few g.R.Role.SIDE c.args.desk.now.point c.args.desk.now.facts c.args.question.now c.document_at.result c.reveal_invariant.ensures.legal
    (nomination-found g.R.Role.SIDE c.args.desk.now.facts c.args.question.now c.args.numbers.now (option_copied c.document_at.result) c.requires c.document_at.ensures)
