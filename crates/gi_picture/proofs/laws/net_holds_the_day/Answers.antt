use Rattle.gi_picture.proofs.DayLemmas.{net_holds}
use Rattle.gi_picture.proofs.laws.net_holds_the_day.Goals as goal

pub returns : goal.returns
returns c = net_holds
