use Rattle.gi_picture.proofs.LawLemmas.{prefixes_divide}
use Rattle.gi_picture.proofs.laws.prefixes_divide.Goals as goal

pub returns : goal.returns
returns c = prefixes_divide
