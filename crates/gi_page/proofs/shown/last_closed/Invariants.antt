use Rattle.std.proofs.Common.{◌≡◌}
use Rattle.gi_schedule.specs.InForce.{is_covered, last_below}
use Rattle.gi_page.specs.Keys.{frozen_tables}
use Rattle.gi_page.proofs.shown.last_closed.Given as goal

abbrev pub invariant-loop-cycle : goal.invariant-loop-cycle
invariant-loop-cycle g l = l.found ≡ last_below (is_covered (frozen_tables g.R.Role.SIDE l.desk) l.day l.hour) l.cycle
