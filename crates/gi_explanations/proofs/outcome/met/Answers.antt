use Rattle.std.specs.Option.{option_copied}
use Rattle.gi_explanations.proofs.FoundLemmas.{peer-found}
use Rattle.gi_explanations.proofs.outcome.met.Goals as goal

pub returns : goal.returns
returns g c =
    peer-found g.R.Role.SIDE c.args.desk.now.facts c.args.question.now c.args.numbers.now c.unwrap_or.result (option_copied c.peer_at.result) c.requires c.unwrap_or.ensures c.peer_at.ensures
