use Rattle.std.proofs.Common.{arith}
use Rattle.gi_picture.proofs.ScaleLemmas.{highest_enough, unit_small}
use Rattle.gi_picture.proofs.scale.+step_from.Goals as goal

pub returns-then-more-eq0-clause-enough : goal.returns-then-more-eq0-clause-enough
returns-then-more-eq0-clause-enough t c =
    highest_enough c.args.above c.args.below c.max-then-more-eq0.result c.args.most (let a = c.max.ensures in let b = c.max-then-more-eq0.ensures in omega (arith, a, b)) c.requires.two

pub overflow_mul-unit : goal.overflow_mul-unit
overflow_mul-unit t c = let small = unit_small c.args.more c.args.unit c.requires.within in omega (arith, small)

pub step_of_unit-requires-clause-within : goal.step_of_unit-requires-clause-within
step_of_unit-requires-clause-within t c = unit_small c.args.more c.args.unit c.requires.within

pub overflow_mul-unit-2 : goal.overflow_mul-unit-2
overflow_mul-unit-2 t c = let small = unit_small c.args.more c.args.unit c.requires.within in omega (arith, small)
