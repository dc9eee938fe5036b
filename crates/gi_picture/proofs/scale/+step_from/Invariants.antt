use Rattle.gi_picture.proofs.scale.+step_from.Given as goal

abbrev pub decreases-step_from : goal.decreases-step_from
decreases-step_from l = l.more
