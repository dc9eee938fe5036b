use Rattle.std.proofs.Common.{◌≡◌, string_bytes, take}
use Rattle.gi_day_tables.specs.ByHour.{hour_rows}
use Rattle.gi_day_tables.proofs.by_hour.hour_rows.Given as goal

abbrev pub invariant-loop-hour : goal.invariant-loop-hour
invariant-loop-hour l = string_bytes l.text ≡ hour_rows l.count (take l.hour-index l.hours)
