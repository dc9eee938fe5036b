use Rattle.std.proofs.Common.{◌≡◌, take}
use Rattle.gi_desk.specs.Messages.{lines_of}
use Rattle.gi_desk.proofs.telling.lines_of.Given as goal

abbrev pub invariant-loop-row : goal.invariant-loop-row
invariant-loop-row l = l.lines.items ≡ lines_of l.side l.portfolio (take l.row-index l.rows)
