use Rattle.gi_parts.proofs.AnyOrder.{gathers-in_any_order}
use Rattle.gi_parts.proofs.laws.gathers_in_any_order.Goals as goal

pub returns : goal.returns
returns c = gathers-in_any_order
