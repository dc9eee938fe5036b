use Rattle.std.proofs.Common.{◌≡◌, take}
use Rattle.gi_world.proofs.station.Station.front.Given as goal

abbrev pub invariant-loop-before : goal.invariant-loop-before
invariant-loop-before g l = l.facts.items ≡ take l.before l.self.desk.facts
