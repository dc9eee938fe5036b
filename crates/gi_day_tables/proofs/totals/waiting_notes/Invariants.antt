use Rattle.std.proofs.Common.{◌≡◌, string_bytes, take}
use Rattle.gi_day_tables.specs.Totals.{waiting_notes}
use Rattle.gi_day_tables.proofs.totals.waiting_notes.Given as goal

abbrev pub invariant-loop-run : goal.invariant-loop-run
invariant-loop-run l = string_bytes l.text ≡ waiting_notes (take l.run-index l.runs)
