use Rattle.gi_picture.proofs.LawLemmas.{writes_plain}
use Rattle.gi_picture.proofs.laws.writes_plain.Goals as goal

pub returns : goal.returns
returns c = writes_plain
