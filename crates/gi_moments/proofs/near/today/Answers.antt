use Rattle.std.proofs.Common.{◌≡◌, arith, ap, ◌∙◌}
use Rattle.std.proofs.lemmas.Int.{ints}
use Rattle.jiff_core.proofs.SignedLemmas.{signed_arith}
use Rattle.gi_day.specs.Cycles.{day_start}
use Rattle.gi_moments.proofs.MomentLemmas.{gas_days, is_today, is_yesterday}
use Rattle.gi_moments.proofs.near.today.Goals as goal

pub returns-then-start-second-clause-day : goal.returns-then-start-second-clause-day
returns-then-start-second-clause-day c =
    let day : c.unwrap-day.result ≡ c.date-date.result = (rw c.unwrap-day.ensures at c.gas_day.ensures).0 in
    let frame : c.unwrap-frame.result ≡ c.date-date.result = cc in
    let start = c.start.ensures ∙ ap day_start frame in
    is_today c.date-date.result c.args.moment c.start.result c.date-date.ensures.to start (omega (arith, ints, signed_arith, c.if-start-second.true, c.second.ensures.value))

pub returns-else-start-second-clause-day : goal.returns-else-start-second-clause-day
returns-else-start-second-clause-day c =
    let day : c.unwrap-day.result ≡ c.date-date.result = (rw c.unwrap-day.ensures at c.gas_day.ensures).0 in
    let frame : c.unwrap-frame.result ≡ c.date-date.result = cc in
    let start = c.start.ensures ∙ ap day_start frame in
    let before = rw c.unwrap.ensures at c.yesterday.ensures.value in
    is_yesterday c.date-date.result c.unwrap.result c.args.moment c.start.result c.date-date.ensures.from start
    (omega (arith, ints, signed_arith, c.if-start-second.false, c.second.ensures.value)) before

pub returns-then-start-second-clause-range : goal.returns-then-start-second-clause-range
returns-then-start-second-clause-range c =
    let days = gas_days c.date-date.result c.date-date.ensures.year in
    (omega (arith, signed_arith, days), omega (arith, signed_arith, days))

pub returns-else-start-second-clause-range : goal.returns-else-start-second-clause-range
returns-else-start-second-clause-range c =
    let days = gas_days c.date-date.result c.date-date.ensures.year in
    let before = rw c.unwrap.ensures at c.yesterday.ensures.value in
    (omega (arith, signed_arith, days, before), omega (arith, signed_arith, days, before))
