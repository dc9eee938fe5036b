use Rattle.std.proofs.Common.{arith, ◌∙◌}
use Rattle.gi_parts.proofs.GatheringLaws.{counted, few_of_all}
use Rattle.gi_parts.proofs.gathering.count.Goals as goal

pub returns-clause-value : goal.returns-clause-value
returns-clause-value c = c.count_of_all.ensures ∙ counted c.args.id.now c.args.kept.now

pub returns-clause-few : goal.returns-clause-few
returns-clause-few c =
    let value = c.count_of_all.ensures ∙ counted c.args.id.now c.args.kept.now in
    let few = few_of_all c.args.id.now c.args.kept.now in
    omega (arith, value, few)
