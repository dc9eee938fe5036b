use Rattle.std.proofs.Common.{◌<◌, ◌≤◌, ◌^◌, arith}
use Rattle.gi_store.proofs.Heads.{pow_low}
use Rattle.gi_store.proofs.head.number_of.Goals as goal

pub overflow_mul-number : goal.overflow_mul-number
overflow_mul-number c =
    let ten : c.loop-digit.digit-index < 10 = omega arith in
    let low : 10 ^ c.loop-digit.digit-index ≤ 1000000000 = pow_low c.loop-digit.digit-index ten in
    omega arith
