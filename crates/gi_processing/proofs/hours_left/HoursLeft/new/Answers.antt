use Rattle.gi_processing.proofs.HoursLaws.{new_whole}
use Rattle.gi_processing.proofs.hours_left.HoursLeft.new.Goals as goal

pub returns : goal.returns
returns c hour = new_whole 25 hour
