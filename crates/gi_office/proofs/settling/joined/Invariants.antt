use Rattle.std.proofs.Common.{◌≡◌, ◌+◌}
use Rattle.gi_office.specs.Settling.{noted_by, parts_of}
use Rattle.gi_office.proofs.settling.joined.Given as goal

abbrev pub invariant-loop-seat : goal.invariant-loop-seat
invariant-loop-seat g l = (l.all.parts ≡ l.fn.first.parts + parts_of l.yielded) × (l.all.amount ≡ l.fn.first.amount + noted_by l.yielded)
