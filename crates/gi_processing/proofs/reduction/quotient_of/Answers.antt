use Rattle.std.proofs.Common.{arith, sym, ◌∙◌}
use Rattle.gi_processing.proofs.PassLaws.{quotient_scaled, quotient_whole}
use Rattle.gi_processing.proofs.reduction.quotient_of.Goals as goal

pub returns-then-total-available : goal.returns-then-total-available
returns-then-total-available c = sym (quotient_whole c.args.available c.args.sum c.args.total (omega (arith, c.if-total-available.true)))

pub returns : goal.returns
returns c = c.scaled.ensures ∙ sym (quotient_scaled c.args.available c.args.sum c.args.total (omega (arith, c.if-total-available.false)))
