use Rattle.std.proofs.Common.{◌≡◌, length}
use Rattle.gi_messages.specs.Tokens.{elements_at}
use Rattle.gi_messages.specs.Reading.{each}
use Rattle.gi_messages.proofs.Elements.{with_front}
use Rattle.gi_messages.proofs.line_reading.each_line.Given as goal

abbrev pub invariant-loop-element : goal.invariant-loop-element
invariant-loop-element g l =
    let read = g.T.MessageLine.reading l.count in
    with_front l.lines.items (each read (elements_at l.elements)) ≡ each read (elements_at l.initial.elements)

abbrev pub decreases-loop-element : goal.decreases-loop-element
decreases-loop-element g l = length l.elements
