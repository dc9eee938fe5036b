use Rattle.std.proofs.Common.{◌<◌, length, sym, subst}
use Rattle.std.specs.Borrow.{Bor}
use Rattle.gi_messages.specs.declared.nomination_line.NominationLine.{NominationLine}
use Rattle.gi_processing.proofs.PassLaws.{all_mapped}
use Rattle.gi_processing.proofs.reduction.total_of.Goals as goal

pub quantity_of-requires : goal.quantity_of-requires
quantity_of-requires c =
    subst (λ (line : Bor NominationLine). c.args.index < length line.now.hours) (sym c.line-item.is)
    (all_mapped (λ (line : NominationLine). c.args.index < length line.hours) (λ (line : Bor NominationLine). line.now) c.args.lines.now c.loop-line.line-index c.line-item.result c.loop-line-test.true c.requires.covered)
