use Rattle.gi_desk.proofs.StateLaws.{lets_out}
use Rattle.gi_desk.proofs.laws.lets_out_for_good.Goals as goal

pub returns : goal.returns
returns c = lets_out
