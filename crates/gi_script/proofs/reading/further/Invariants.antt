use Rattle.std.proofs.Common.{length}
use Rattle.gi_script.specs.LinesRepr.{IsCounted, left}
use Rattle.gi_script.specs.Script.{spelling}
use Rattle.gi_script.proofs.FurtherLemmas.{ReadSoFar}
use Rattle.gi_script.proofs.reading.further.Given as goal

-- the lines before those that are left are read
abbrev pub invariant-loop-number : goal.invariant-loop-number
invariant-loop-number l = record {
  counted : IsCounted l.lines;
  read : ReadSoFar (spelling l.initial.forms) (left l.initial.lines) (left l.lines) l.read.items;
}

abbrev pub decreases-loop-number : goal.decreases-loop-number
decreases-loop-number l = length l.lines.rest.now
