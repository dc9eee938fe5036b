use Rattle.gi_office.specs.Settling.{AreSettled}
use Rattle.gi_office.proofs.settling.first_fault.Given as goal

abbrev pub invariant-loop-before : goal.invariant-loop-before
invariant-loop-before g l = AreSettled l.before l.trail l.seats
