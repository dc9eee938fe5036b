use Rattle.gi_picture.proofs.LawLemmas.{ends_as_it_begins}
use Rattle.gi_picture.proofs.laws.ends_as_it_begins.Goals as goal

pub returns : goal.returns
returns c = ends_as_it_begins
