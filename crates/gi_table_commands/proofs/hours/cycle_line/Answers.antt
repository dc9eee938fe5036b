use Rattle.std.proofs.Common.{◌≡◌, ◌∙◌, arith}
use Rattle.std.proofs.lemmas.Result.{IfOk-weaker}
use Rattle.jiff.proofs.ZoneFacts.{offset_at-UTC}
use Rattle.jiff_core.proofs.SignedLemmas.{signed_arith}
use Rattle.gi_table_commands.proofs.HoursLemmas.{same_line}
use Rattle.gi_table_commands.proofs.hours.cycle_line.Goals as goal

pub returns : goal.returns
returns c =
    IfOk-weaker c.line_text.result _ _ (λ line written. record {
      start = c.to_datetime-start.result;
      at_utc =
          let start = (rw c.unwrap-start.ensures at c.cycle_start.ensures.value).1 in
          let range = rw c.unwrap-start.ensures at c.cycle_start.ensures.in_range in
          let moment = rw c.unwrap.ensures at c.from_second.ensures.value in
          let utc = offset_at-UTC c.unwrap.result.nanosecond in
          let shown = rw utc at c.to_datetime-start.ensures in
          omega (arith, signed_arith, start, moment, shown, range);
      written =
          let first = (rw c.unwrap-first.ensures at c.first_hour.ensures.value).1 in
          let hour : c.part-hour.result ≡ c.to_datetime-start.result.time.hour = omega (arith, signed_arith, c.part-hour.ensures, c.hour.ensures) in
          let minute : c.part-minute.result ≡ c.to_datetime-start.result.time.minute = omega (arith, signed_arith, c.part-minute.ensures, c.minute.ensures) in
          written ∙ same_line c.args.cycle _ _ _ _ _ _ _ _ c.date.ensures hour minute first;
    }) c.line_text.ensures
