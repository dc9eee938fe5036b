use Rattle.std.proofs.Common.{◌≡◌, ◌≤◌, length}
use Rattle.gi_script.specs.LinesRepr.{IsCounted, left}
use Rattle.gi_script.proofs.lines.Lines.next.Given as goal

-- the lines passed over are empty
abbrev pub invariant-loop-line : goal.invariant-loop-line
invariant-loop-line l = record {
  counted : IsCounted l.self;
  same : left l.initial.self ≡ left l.self;
  shorter : length l.self.rest.now ≤ length l.initial.self.rest.now;
}

abbrev pub decreases-loop-line : goal.decreases-loop-line
decreases-loop-line l = length l.self.rest.now
