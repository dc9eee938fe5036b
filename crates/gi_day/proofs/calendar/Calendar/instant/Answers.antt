use Rattle.std.proofs.Common.{◌≡◌, ◌∙◌, false, true, ℕ, ℤ, arith, ap, unsigned_abs, w64, FitsSigned, to_z-of_z, Ok}
use Rattle.jiff_core.proofs.SignedLemmas.{signed_arith}
use Rattle.jiff_core.specs.Date.{epoch_day}
use Rattle.jiff_core.specs.Timestamp.{nanos_of_seconds}
use Rattle.gi_day.specs.Zone.{IsFullHour, instant_at}
use Rattle.gi_day.proofs.ZoneLemmas.{hours_at}
use Rattle.gi_day.proofs.DayRange.{close_instant, seconds_of, in_range}
use Rattle.gi_day.proofs.calendar.Calendar.instant.Goals as goal

pub returns-in-Ok : goal.returns-in-Ok
returns-in-Ok c =
    let hour : ℕ = unsigned_abs c.args.hour in
    let full : IsFullHour hour c.at.result = (omega (arith, signed_arith, c.requires.hour), omega (arith, signed_arith, c.requires.hour, c.at.ensures.time)) in
    let instant : ℤ = instant_at (epoch_day c.args.date) hour in
    let picked = hours_at _ c.zone.ensures c.at.result hour full in
    let nanos = c.in-Ok.ensures.value ∙ picked ∙ ap (λ date. nanos_of_seconds (instant_at (epoch_day date) hour)) c.at.ensures.date in
    let seconds = c.as_second.ensures ∙ seconds_of c.in-Ok.instant.nanosecond instant nanos in
    let range = close_instant c.args.date hour c.requires.close (omega (arith, signed_arith, c.requires.hour)) in
    let fits : FitsSigned w64 c.as_second.result = omega (arith, signed_arith, seconds, range) in
    ap (λ s. Ok s) (to_z-of_z fits ∙ seconds)

pub returns-in-Err : goal.returns-in-Err
returns-in-Err c =
    let hour : ℕ = unsigned_abs c.args.hour in
    let full : IsFullHour hour c.at.result = (omega (arith, signed_arith, c.requires.hour), omega (arith, signed_arith, c.requires.hour, c.at.ensures.time)) in
    let instant : ℤ = instant_at (epoch_day c.args.date) hour in
    let picked = hours_at _ c.zone.ensures c.at.result hour full ∙ ap (λ date. nanos_of_seconds (instant_at (epoch_day date) hour)) c.at.ensures.date in
    let range = close_instant c.args.date hour c.requires.close (omega (arith, signed_arith, c.requires.hour)) in
    let no : false ≡ true = c.in-Err.ensures.succeeds.1 (in_range _ instant picked range) in
    absurd (cc)
