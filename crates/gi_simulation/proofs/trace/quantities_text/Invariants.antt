use Rattle.std.proofs.Common.{◌≡◌, string_bytes, take}
use Rattle.std.specs.List.{flat_map}
use Rattle.gi_simulation.specs.Trace.{quantity_text}
use Rattle.gi_simulation.proofs.trace.quantities_text.Given as goal

abbrev pub invariant-loop-quantity : goal.invariant-loop-quantity
invariant-loop-quantity l = string_bytes l.text ≡ flat_map quantity_text (take l.quantity-index l.quantity-items)
