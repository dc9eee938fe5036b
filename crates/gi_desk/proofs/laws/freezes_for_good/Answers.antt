use Rattle.gi_desk.proofs.StateLaws.{frozen_table-more}
use Rattle.gi_desk.proofs.laws.freezes_for_good.Goals as goal

pub returns : goal.returns
returns c = frozen_table-more
