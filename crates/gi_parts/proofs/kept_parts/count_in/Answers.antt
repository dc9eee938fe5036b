use Rattle.std.proofs.Common.{arith}
use Rattle.gi_parts.specs.Parts.{parts_of}
use Rattle.gi_parts.proofs.Keeping.{few-parts_of}
use Rattle.gi_parts.proofs.kept_parts.count_in.Goals as goal

pub overflow_cast-result : goal.overflow_cast-result
overflow_cast-result c =
    let few = few-parts_of (parts_of c.args.id.now c.args.kept.now) (c.requires c.args.id.now) in
    let counted = c.count.ensures.value in
    omega (arith, few, counted)

pub returns-clause-few : goal.returns-clause-few
returns-clause-few c =
    let few = few-parts_of (parts_of c.args.id.now c.args.kept.now) (c.requires c.args.id.now) in
    let counted = c.count.ensures.value in
    omega (arith, few, counted)
