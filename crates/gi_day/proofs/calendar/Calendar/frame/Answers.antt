use Rattle.std.proofs.Common.{◌≡◌, ◌∙◌, false, true, ap, arith, pos, ◌+ℤ◌, ◌-ℤ◌}
use Rattle.jiff_core.proofs.SignedLemmas.{signed_arith}
use Rattle.jiff_core.specs.Date.{epoch_day}
use Rattle.gi_day.specs.Zone.{instant_at}
use Rattle.gi_day.specs.Cycles.{day_start, day_end, first_cycle_start}
use Rattle.gi_day.proofs.DayRange.{gas_day_range, close_to, answered}
use Rattle.gi_day.proofs.calendar.Calendar.frame.Goals as goal

pub returns-in_default : goal.returns-in_default
returns-in_default c =
    let range = gas_day_range c.date-date.result c.date-date.ensures.year in
    let no : false ≡ true = c.in_default.ensures.succeeds.1 (omega (arith, signed_arith, range)) in
    absurd (cc)

pub returns-in_default-tomorrow : goal.returns-in_default-tomorrow
returns-in_default-tomorrow c =
    let range = gas_day_range c.date-date.result c.date-date.ensures.year in
    let no : false ≡ true = c.in_default-tomorrow.ensures.succeeds.1 (omega (arith, signed_arith, range)) in
    absurd (cc)

pub instant-requires-clause-close : goal.instant-requires-clause-close
instant-requires-clause-close c =
    close_to c.in-Ok.before c.date-date.result c.date-date.ensures.year (omega (arith, signed_arith, c.in-Ok.ensures.value))

pub instant-requires-2-clause-close : goal.instant-requires-2-clause-close
instant-requires-2-clause-close c = close_to c.date-date.result c.date-date.result c.date-date.ensures.year (omega (arith, signed_arith))

pub instant-requires-3-clause-close : goal.instant-requires-3-clause-close
instant-requires-3-clause-close c =
    close_to c.in-Ok-tomorrow.after c.date-date.result c.date-date.ensures.year (omega (arith, signed_arith, c.in-Ok-tomorrow.ensures.value))

pub new-requires-clause-first_cycle : goal.new-requires-clause-first_cycle
unfolding first_cycle_start
new-requires-clause-first_cycle c =
    let close = close_to c.in-Ok.before c.date-date.result c.date-date.ensures.year (omega (arith, signed_arith, c.in-Ok.ensures.value)) in
    let at = answered c.in-Ok.before 14 c.in_ok-first_cycle.first_cycle close (omega arith) c.in_ok-first_cycle.ensures in
    at ∙ ap (λ day. instant_at day 14) (c.in-Ok.ensures.value ∙ ap (λ date. epoch_day date -ℤ pos 1) c.date-date.ensures.date)

pub new-requires-clause-start : goal.new-requires-clause-start
unfolding day_start
new-requires-clause-start c =
    let close = close_to c.date-date.result c.date-date.result c.date-date.ensures.year (omega (arith, signed_arith)) in
    let at = answered c.date-date.result 6 c.in_ok-start.start close (omega arith) c.in_ok-start.ensures in
    at ∙ ap (λ date. instant_at (epoch_day date) 6) c.date-date.ensures.date

pub new-requires-clause-end : goal.new-requires-clause-end
unfolding day_end
new-requires-clause-end c =
    let close = close_to c.in-Ok-tomorrow.after c.date-date.result c.date-date.ensures.year (omega (arith, signed_arith, c.in-Ok-tomorrow.ensures.value)) in
    let at = answered c.in-Ok-tomorrow.after 6 c.in_ok-end.end close (omega arith) c.in_ok-end.ensures in
    at ∙ ap (λ day. instant_at day 6) (c.in-Ok-tomorrow.ensures.value ∙ ap (λ date. epoch_day date +ℤ pos 1) c.date-date.ensures.date)
