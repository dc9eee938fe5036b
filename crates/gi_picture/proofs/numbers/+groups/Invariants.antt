use Rattle.gi_picture.proofs.numbers.+groups.Given as goal

abbrev pub decreases-groups : goal.decreases-groups
decreases-groups l = l.more
