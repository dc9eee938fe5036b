use Rattle.gi_picture.proofs.DayLemmas.{charts_hold}
use Rattle.gi_picture.proofs.laws.charts_hold_the_day.Goals as goal

pub returns : goal.returns
returns c = charts_hold
