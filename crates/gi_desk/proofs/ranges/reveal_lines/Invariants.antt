use Rattle.std.proofs.Common.{All, take}
use Rattle.gi_desk.specs.Writable.{FitsButPriority}
use Rattle.gi_desk.proofs.ranges.reveal_lines.Given as goal

abbrev pub invariant-loop-line : goal.invariant-loop-line
invariant-loop-line l = All FitsButPriority (take l.line-index l.lines)
