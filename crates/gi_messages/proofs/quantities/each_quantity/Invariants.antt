use Rattle.std.proofs.Common.{◌≡◌, length}
use Rattle.gi_messages.specs.Tokens.{elements_at}
use Rattle.gi_pairs.specs.Quantity.{most_quantity}
use Rattle.gi_messages.specs.declared.key.Key.TheVariants.{Hours}
use Rattle.gi_messages.specs.Reading.{each, whole}
use Rattle.gi_messages.proofs.Elements.{with_front}
use Rattle.gi_messages.proofs.quantities.each_quantity.Given as goal

abbrev pub invariant-loop-element : goal.invariant-loop-element
invariant-loop-element l = with_front l.quantities.items (each (whole 0 most_quantity Hours) (elements_at l.elements)) ≡ each (whole 0 most_quantity Hours) (elements_at l.initial.elements)

abbrev pub decreases-loop-element : goal.decreases-loop-element
decreases-loop-element l = length l.elements
