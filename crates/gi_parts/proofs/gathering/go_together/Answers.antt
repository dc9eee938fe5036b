use Rattle.std.proofs.Common.{◌∙◌}
use Rattle.gi_parts.specs.Gathering.{goes_with}
use Rattle.gi_parts.proofs.GatheringLaws.{all_of_cycle}
use Rattle.gi_parts.proofs.gathering.go_together.Goals as goal

pub returns : goal.returns
returns c = c.goes_with_each.ensures ∙ all_of_cycle (goes_with c.args.part.now) c.args.id.now c.args.kept.now
