use Rattle.std.proofs.Common.{ℤ, pos, ◌-ℤ◌, arith}
use Rattle.jiff_core.proofs.SignedLemmas.{signed_arith}
use Rattle.jiff_core.specs.Date.{epoch_day}
use Rattle.gi_moments.specs.Near.{AreDaysFrom}
use Rattle.gi_moments.proofs.MomentLemmas.{more_days}
use Rattle.gi_moments.proofs.moment.Moment.near_days.Goals as goal

pub unwrap-first-requires : goal.unwrap-first-requires
unwrap-first-requires c = c.yesterday.ensures.succeeds.1 (omega (arith, signed_arith, c.today.ensures.range))

pub unwrap-second-requires : goal.unwrap-second-requires
unwrap-second-requires c =
    let one = rw c.unwrap-first.ensures at c.yesterday.ensures.value in
    c.tomorrow.ensures.succeeds.1 (omega (arith, signed_arith, c.today.ensures.range, one))

pub unwrap-third-requires : goal.unwrap-third-requires
unwrap-third-requires c =
    let one = rw c.unwrap-first.ensures at c.yesterday.ensures.value in
    let two = rw c.unwrap-second.ensures at c.tomorrow.ensures.value in
    c.tomorrow-2.ensures.succeeds.1 (omega (arith, signed_arith, c.today.ensures.range, one, two))

pub unwrap-fourth-requires : goal.unwrap-fourth-requires
unwrap-fourth-requires c =
    let one = rw c.unwrap-first.ensures at c.yesterday.ensures.value in
    let two = rw c.unwrap-second.ensures at c.tomorrow.ensures.value in
    let three = rw c.unwrap-third.ensures at c.tomorrow-2.ensures.value in
    c.tomorrow-3.ensures.succeeds.1 (omega (arith, signed_arith, c.today.ensures.range, one, two, three))

pub returns : goal.returns
returns c =
    let one = rw c.unwrap-first.ensures at c.yesterday.ensures.value in
    let two = rw c.unwrap-second.ensures at c.tomorrow.ensures.value in
    let three = rw c.unwrap-third.ensures at c.tomorrow-2.ensures.value in
    let four = rw c.unwrap-fourth.ensures at c.tomorrow-3.ensures.value in
    let n : ℤ = epoch_day c.today.result -ℤ pos 1 in
    let a : AreDaysFrom n 0 c.new-days.result.items = c.new-days.ensures.items in
    let b = more_days n 0 _ _ c.unwrap-first.result a (omega (arith, signed_arith, one)) c.in_ok-add.ensures.day c.in_ok-add.ensures.none in
    let d = more_days n 1 _ _ c.unwrap-second.result b (omega (arith, signed_arith, one, two)) c.in_ok-add-2.ensures.day c.in_ok-add-2.ensures.none in
    let e = more_days n 2 _ _ c.unwrap-third.result d (omega (arith, signed_arith, one, two, three)) c.in_ok-add-3.ensures.day c.in_ok-add-3.ensures.none in
    let f = more_days n 3 _ _ c.unwrap-fourth.result e (omega (arith, signed_arith, one, two, three, four)) c.in_ok-add-4.ensures.day c.in_ok-add-4.ensures.none in
    record { today = epoch_day c.today.result; is = c.today.ensures.day; near = f }
