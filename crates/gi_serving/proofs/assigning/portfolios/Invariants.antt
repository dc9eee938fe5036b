use Rattle.std.proofs.Common.{◌≡◌, take}
use Rattle.gi_serving.specs.Assigning.{portfolios_of}
use Rattle.gi_serving.proofs.assigning.portfolios.Given as goal

abbrev pub invariant-loop-body : goal.invariant-loop-body
invariant-loop-body l = l.portfolios.items ≡ portfolios_of (take l.body-index l.bodies)
