use Rattle.std.proofs.Common.{◌≡◌, take}
use Rattle.gi_messages.proofs.lines.Lines.copy.Given as goal

abbrev pub invariant-loop-line : goal.invariant-loop-line
invariant-loop-line g l = l.copies.items ≡ take l.line-index l.line-items
