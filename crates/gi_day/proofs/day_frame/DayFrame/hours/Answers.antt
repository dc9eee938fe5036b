use Rattle.std.proofs.Common.{arith}
use Rattle.jiff_core.proofs.SignedLemmas.{signed_arith}
use Rattle.gi_day.proofs.DayFacts.{day_facts}
use Rattle.gi_day.proofs.day_frame.DayFrame.hours.Goals as goal

pub returns-clause-spans : goal.returns-clause-spans
returns-clause-spans c =
    let facts = day_facts c.args.self in
    rw (c.self.invariant.hours, c.self.view_is) (omega (arith, signed_arith, facts.end_is))

pub returns-clause-in_range : goal.returns-clause-in_range
returns-clause-in_range c =
    let facts = day_facts c.args.self in
    rw (c.self.invariant.hours, c.self.view_is) facts.hours_in
