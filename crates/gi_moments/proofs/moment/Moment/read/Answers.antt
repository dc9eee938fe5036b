use Rattle.std.proofs.Common.{sym, ◌∙◌, arith}
use Rattle.std.proofs.lemmas.Int.{ints}
use Rattle.jiff_core.proofs.SignedLemmas.{signed_arith}
use Rattle.gi_moments.proofs.MomentLemmas.{both_parts}
use Rattle.gi_moments.proofs.moment.Moment.read.Goals as goal

pub returns : goal.returns
returns c = record {
  date = c.in_ok-date.date;
  hour = c.in_ok-hour.hour;
  minute = c.in_ok-hour.minute;
  year = c.in_ok-date.ensures.0;
  is_minute = c.in_ok-hour.ensures.0;
  text_is = both_parts c.args.text.now _ _ _ _ c.in_ok-day.ensures.front c.in_ok-day.ensures.back c.in_ok-date.ensures.1 (sym c.as_bytes.ensures.value ∙ c.in_ok-hour.ensures.1);
  moment_is = omega (arith, ints, signed_arith, c.second.ensures.value, c.second.ensures.range);
}
