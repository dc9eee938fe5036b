use Rattle.gi_page.proofs.LawLemmas.{shows_what_is_in_force}
use Rattle.gi_page.proofs.laws.shows_what_is_in_force.Goals as goal

pub returns : goal.returns
returns c = shows_what_is_in_force
