use Rattle.std.proofs.Common.{◌≡◌, ◌*◌, ◌+◌, arith, false, true}
use Rattle.std.proofs.lemmas.Int.{ints}
use Rattle.jiff_core.proofs.SignedLemmas.{signed_arith}
use Rattle.jiff_core.specs.Time.{time_nanos}
use Rattle.gi_moments.proofs.MomentLemmas.{moment_range, nanos_is}
use Rattle.gi_moments.proofs.moment.second.Goals as goal

pub unreachable-requires : goal.unreachable-requires
unreachable-requires c =
    let range = moment_range c.args.date c.args.hour c.args.minute c.requires.year c.requires.minute in
    let time : time_nanos c.at.result.time ≡ (c.args.hour * 3600 + c.args.minute * 60) * 1_000_000_000 = omega (arith, ints, signed_arith, c.at.ensures.time, c.requires.minute.hours, c.requires.minute.minutes) in
    let nanos = nanos_is c.at.result c.args.date c.args.hour c.args.minute c.at.ensures.date time in
    let no : false ≡ true = c.in-Err.ensures.succeeds.1 (omega (arith, signed_arith, nanos, range), omega (arith, signed_arith, nanos, range)) in
    absurd (cc)

pub returns-clause-value : goal.returns-clause-value
returns-clause-value c =
    let range = moment_range c.args.date c.args.hour c.args.minute c.requires.year c.requires.minute in
    let time : time_nanos c.at.result.time ≡ (c.args.hour * 3600 + c.args.minute * 60) * 1_000_000_000 = omega (arith, ints, signed_arith, c.at.ensures.time, c.requires.minute.hours, c.requires.minute.minutes) in
    let nanos = nanos_is c.at.result c.args.date c.args.hour c.args.minute c.at.ensures.date time in
    let here = c.in-Ok.ensures.value in
    omega (arith, ints, signed_arith, c.as_second.ensures, nanos, range, here)

pub returns-clause-range : goal.returns-clause-range
returns-clause-range c =
    let range = moment_range c.args.date c.args.hour c.args.minute c.requires.year c.requires.minute in
    let value = returns-clause-value c in
    omega (arith, signed_arith, value, range)
