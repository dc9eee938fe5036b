use Rattle.std.proofs.Common.{◌≡◌, length}
use Rattle.gi_messages.specs.Tokens.{elements_at}
use Rattle.gi_messages.specs.Reading.{each, row}
use Rattle.gi_messages.proofs.Elements.{with_front}
use Rattle.gi_messages.proofs.rows.each_row.Given as goal

abbrev pub invariant-loop-element : goal.invariant-loop-element
invariant-loop-element l = with_front l.rows.items (each (row l.array l.count) (elements_at l.elements)) ≡ each (row l.array l.count) (elements_at l.initial.elements)

abbrev pub decreases-loop-element : goal.decreases-loop-element
decreases-loop-element l = length l.elements
