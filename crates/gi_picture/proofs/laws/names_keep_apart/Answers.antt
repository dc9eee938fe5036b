use Rattle.gi_picture.proofs.LawLemmas.{names_keep_apart}
use Rattle.gi_picture.proofs.laws.names_keep_apart.Goals as goal

pub returns : goal.returns
returns c = names_keep_apart
