use Rattle.std.proofs.Common.{◌==◌, ◌∙◌}
use Rattle.gi_parts.proofs.GatheringLaws.{any_of_cycle}
use Rattle.gi_parts.proofs.gathering.is_there.Goals as goal

pub returns : goal.returns
returns c = c.is_one.ensures ∙ any_of_cycle (λ one. c.args.part.now.number == one.number) c.args.id.now c.args.kept.now
