use Rattle.std.proofs.Common.{◌≡◌, length}
use Rattle.std.specs.Io.KnownBytes.{Keeps}
use Rattle.gi_clock.proofs.clocked.next_bytes.Given as goal

abbrev pub invariant-loop : goal.invariant-loop
invariant-loop g l = Keeps (g.I.Read.remaining l.fn.input) (g.I.Read.remaining l.input) × (length l.buffer ≡ length l.fn.buffer)
