use Rattle.std.proofs.Common.{◌≡◌, All, map, take}
use Rattle.gi_serving.specs.Assigning.{IsNumber, session_of}
use Rattle.gi_serving.proofs.assigning.numbers_in.Given as goal

abbrev pub invariant-loop-portfolio : goal.invariant-loop-portfolio
invariant-loop-portfolio l = record {
  sessions : l.numbers.items ≡ map (session_of l.sessions l.order) (take l.portfolio-index l.portfolios);
  numbers : All (IsNumber l.sessions) l.numbers.items;
}
