use Rattle.std.proofs.Common.{◌≤◌, ◌<◌, All, take}
use Rattle.gi_processing.specs.Reduction.{HasNoneBetween, referred}
use Rattle.gi_processing.proofs.reduction.next_priority.Given as goal

abbrev pub invariant-loop-line : goal.invariant-loop-line
invariant-loop-line l = record {
  low : l.from ≤ l.next;
  high : l.next ≤ 256;
  next : HasNoneBetween l.from l.next (take l.line-index (referred l.lines));
  bytes : All (λ line. line.priority < 256) (take l.line-index (referred l.lines));
}
