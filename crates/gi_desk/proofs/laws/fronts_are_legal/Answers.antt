use Rattle.gi_desk.proofs.Legality.{legal-front}
use Rattle.gi_desk.proofs.laws.fronts_are_legal.Goals as goal

pub returns : goal.returns
returns c = legal-front
