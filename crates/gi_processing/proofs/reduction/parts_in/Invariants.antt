use Rattle.std.proofs.Common.{◌≡◌, map, take}
use Rattle.gi_processing.specs.Reduction.{part, quotient, referred, total}
use Rattle.gi_processing.proofs.reduction.parts_in.Given as goal

-- what the lines so far have, and got
abbrev pub invariant-loop-line : goal.invariant-loop-line
invariant-loop-line l = record {
  sum : l.sum ≡ total l.index (referred (take l.line-index l.lines));
  carried : l.carried ≡ quotient l.available (total l.index (referred (take l.line-index l.lines))) (total l.index (referred l.lines));
  quantities : l.quantities.items ≡ map (part l.available l.index (referred l.lines)) (referred (take l.line-index l.lines));
}
