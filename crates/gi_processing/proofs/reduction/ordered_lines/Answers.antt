use Rattle.std.proofs.Common.{rules}
use Rattle.std.specs.Borrow.{Bor}
use Rattle.std.proofs.lemmas.List.Sorted.{answers_always}
use Rattle.gi_messages.specs.declared.nomination_line.NominationLine.{NominationLine}
use Rattle.gi_processing.proofs.PassLaws.{sorted_ascend, sorted_lines}
use Rattle.gi_processing.proofs.reduction.ordered_lines.Goals as goal

pub returns-clause-lines : goal.returns-clause-lines
returns-clause-lines c =
    sorted_lines c.args.direction c.args.lines.now c.in_ok-ordered.ordered.items c.sort_unstable_by_key.new.self.items c.in_ok-ordered.ensures c.sort_unstable_by_key.ensures.permutation

pub returns-clause-ordered : goal.returns-clause-ordered
returns-clause-ordered c =
    sorted_ascend c.args.direction c.args.lines.now c.in_ok-ordered.ordered.items c.sort_unstable_by_key.new.self.items c.requires c.in_ok-ordered.ensures c.sort_unstable_by_key.ensures.permutation
    (c.sort_unstable_by_key.ensures.sorted (λ (line : Bor NominationLine). line.now.counterparty) (answers_always _ _ _ (λ f a r g called. search rules)))
