use Rattle.std.proofs.Common.{◌<◌, length}
use Rattle.gi_clock.proofs.clocked.send_all.Given as goal

abbrev pub invariant-loop : goal.invariant-loop
invariant-loop g l =
    (goal.iterator-loop g).can_next l.iterator' × (goal.iterator-loop g).is_finite l.iterator' × (0 < length l.buffer.items)
