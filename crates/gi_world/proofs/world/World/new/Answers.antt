use Rattle.std.proofs.Common.{sym, subst}
use Rattle.gi_world.specs.Agreement.{IsSound}
use Rattle.gi_world.proofs.SentPackets.{new-sound}
use Rattle.gi_world.proofs.world.World.new.Goals as goal

pub invariant_of-result : goal.invariant_of-result
invariant_of-result c = subst IsSound (sym c.open.ensures) (new-sound c.args.point)
