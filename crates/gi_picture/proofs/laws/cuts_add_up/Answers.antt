use Rattle.gi_picture.proofs.LawLemmas.{cuts_add_up}
use Rattle.gi_picture.proofs.laws.cuts_add_up.Goals as goal

pub returns : goal.returns
returns c = cuts_add_up
