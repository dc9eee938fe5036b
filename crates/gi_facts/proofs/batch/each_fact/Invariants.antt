use Rattle.std.proofs.Common.{◌≡◌, length}
use Rattle.gi_messages.specs.Reading.{each}
use Rattle.gi_messages.specs.Tokens.{elements_at}
use Rattle.gi_messages.proofs.Elements.{with_front}
use Rattle.gi_facts.specs.Decoding.{fact}
use Rattle.gi_facts.proofs.batch.each_fact.Given as goal

abbrev pub invariant-loop-element : goal.invariant-loop-element
invariant-loop-element l = with_front l.facts.items (each fact (elements_at l.elements)) ≡ each fact (elements_at l.initial.elements)

abbrev pub decreases-loop-element : goal.decreases-loop-element
decreases-loop-element l = length l.elements
