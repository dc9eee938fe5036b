use Rattle.std.proofs.Common.{◌≡◌, take}
use Rattle.gi_page.specs.Waiting.{waiting_hours}
use Rattle.gi_page.proofs.waiting.waiting_hours.Given as goal

abbrev pub invariant-loop-hour : goal.invariant-loop-hour
invariant-loop-hour l = l.numbers.items ≡ waiting_hours l.mark (take l.hour-index l.hours)
