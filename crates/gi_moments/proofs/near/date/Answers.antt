use Rattle.std.proofs.Common.{◌≡◌, pos, ◌*ℤ◌, arith}
use Rattle.jiff_core.proofs.SignedLemmas.{signed_arith}
use Rattle.jiff_core.specs.DateTime.{civil_nanos}
use Rattle.gi_moments.proofs.MomentLemmas.{day_part, gas_year}
use Rattle.gi_moments.proofs.near.date.Goals as goal

pub returns-clause-from : goal.returns-clause-from
returns-clause-from c =
    let seconds = rw c.unwrap.ensures at c.from_second.ensures.value in
    let nanos : civil_nanos c.to_datetime.result ≡ c.args.moment *ℤ pos 1_000_000_000 = omega (arith, signed_arith, seconds, c.to_datetime.ensures, c.second.ensures.value, c.second.ensures.range) in
    (day_part c.to_datetime.result c.date.result c.args.moment c.date.ensures nanos).0

pub returns-clause-to : goal.returns-clause-to
returns-clause-to c =
    let seconds = rw c.unwrap.ensures at c.from_second.ensures.value in
    let nanos : civil_nanos c.to_datetime.result ≡ c.args.moment *ℤ pos 1_000_000_000 = omega (arith, signed_arith, seconds, c.to_datetime.ensures, c.second.ensures.value, c.second.ensures.range) in
    (day_part c.to_datetime.result c.date.result c.args.moment c.date.ensures nanos).1

pub returns-clause-year : goal.returns-clause-year
returns-clause-year c =
    let from = returns-clause-from c in
    let to = returns-clause-to c in
    gas_year c.date.result (omega (arith, signed_arith, from, to, c.second.ensures.value, c.second.ensures.range)) (omega (arith, signed_arith, from, to, c.second.ensures.value, c.second.ensures.range))
