use Rattle.gi_day.proofs.CycleLemmas.{none_due}
use Rattle.gi_day.proofs.day_frame.DayFrame.due.Goals as goal

pub returns-in_default : goal.returns-in_default
returns-in_default c = none_due c.args.self c.args.moment c.args.last_closed c.in_default.ensures
