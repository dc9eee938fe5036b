use Rattle.gi_picture.proofs.FrameLemmas.{plots_hold}
use Rattle.gi_picture.proofs.laws.plots_hold_all.Goals as goal

pub returns : goal.returns
returns c = plots_hold
