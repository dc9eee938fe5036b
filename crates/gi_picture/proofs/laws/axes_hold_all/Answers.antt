use Rattle.gi_picture.proofs.ScaleLemmas.{axes_hold}
use Rattle.gi_picture.proofs.laws.axes_hold_all.Goals as goal

pub returns : goal.returns
returns c = axes_hold
