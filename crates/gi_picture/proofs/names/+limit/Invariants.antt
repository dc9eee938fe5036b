use Rattle.std.proofs.Common.{length}
use Rattle.gi_picture.proofs.names.+limit.Given as goal

abbrev pub decreases-limit : goal.decreases-limit
decreases-limit l = length l.ends.now
