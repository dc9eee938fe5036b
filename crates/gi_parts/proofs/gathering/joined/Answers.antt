use Rattle.std.proofs.Common.{◌∙◌}
use Rattle.gi_parts.specs.Gathering.{all_rows}
use Rattle.gi_parts.specs.Joining.{both}
use Rattle.gi_parts.specs.Parts.{parts_of}
use Rattle.gi_parts.specs.declared.part.Array.TheVariants.{Confirmed, Processed}
use Rattle.gi_parts.proofs.GatheringLaws.{both_joined}
use Rattle.gi_parts.proofs.gathering.joined.Goals as goal

pub returns : goal.returns
returns c =
    let part = c.args.part.now in
    let others = parts_of c.args.id.now c.args.kept.now in
    c.both.ensures ∙ (λ t. both (c.in_ok-processed.ensures t) (c.in-Ok.ensures t) part)
    ∙ both_joined part (all_rows Processed part others) (all_rows Confirmed part others)
