use Rattle.std.proofs.Common.{◌≡◌, ◌∙◌, ◌*◌, ◌<◌, ◌++◌, ℤ, pos, arith, ap, refl, w64}
use Rattle.std.proofs.lemmas.Int.{to_z_pos}
use Rattle.std.proofs.lemmas.Result.{IfOk-weaker}
use Rattle.jiff.proofs.ZoneFacts.{offset_at-UTC}
use Rattle.jiff_core.proofs.DateTimeLemmas.{civil_nanos-parts}
use Rattle.jiff_core.proofs.SignedLemmas.{signed_arith}
use Rattle.jiff_core.specs.Date.{epoch_day}
use Rattle.gi_day.specs.Day.{IsGasYear, day_text}
use Rattle.gi_moments.specs.Moment.{clock_text, moment_of}
use Rattle.gi_moments.proofs.MomentLemmas.{gas_year}
use Rattle.gi_clock.proofs.minutes.shown_line.Goals as goal

pub line_text-requires-clause-hour : goal.line_text-requires-clause-hour
line_text-requires-clause-hour c = omega (arith, signed_arith, c.part-hour.ensures, c.hour.ensures, c.to_datetime-shown.result.time.hour_in)

pub line_text-requires-clause-minute : goal.line_text-requires-clause-minute
line_text-requires-clause-minute c = omega (arith, signed_arith, c.part-minute.ensures, c.minute.ensures, c.to_datetime-shown.result.time.minute_in)

pub returns : goal.returns
returns c =
    IfOk-weaker c.line_text.result _ _ (λ line written. record {
      text = day_text c.date.result ++ clock_text c.part-hour.result c.part-minute.result;
      is_moment =
          let first = c.requires.0 in
          let end = c.requires.1 in
          let seconds = to_z_pos w64 (60 * c.args.minute) (omega (arith, end)) in
          let moment = rw c.unwrap.ensures at c.from_second.ensures.value in
          let shown = c.to_datetime-shown.ensures in
          let dt = c.to_datetime-shown.result in
          let time = dt.time in
          let parts = civil_nanos-parts dt in
          let hour : c.part-hour.result ≡ time.hour = omega (arith, signed_arith, c.part-hour.ensures, c.hour.ensures) in
          let minute : c.part-minute.result ≡ time.minute = omega (arith, signed_arith, c.part-minute.ensures, c.minute.ensures) in
          let day : epoch_day c.date.result ≡ epoch_day dt.date = ap epoch_day c.date.ensures in
          record {
            date = c.date.result;
            hour = c.part-hour.result;
            minute = c.part-minute.result;
            year = gas_year c.date.result (omega (arith, signed_arith, first, end, seconds, moment, shown, parts, hour, minute, day, time.hour_in, time.minute_in, time.second_in, time.subsec_in)) (omega (arith, signed_arith, first, end, seconds, moment, shown, parts, hour, minute, day, time.hour_in, time.minute_in, time.second_in, time.subsec_in));
            is_minute = record { hours = omega (arith, hour, time.hour_in); minutes = omega (arith, minute, time.minute_in) };
            text_is = refl;
            moment_is = omega (arith, signed_arith, first, end, seconds, moment, shown, parts, hour, minute, day, time.hour_in, time.minute_in, time.second_in, time.subsec_in);
          };
      written = written;
    }) c.line_text.ensures
