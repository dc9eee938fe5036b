use Rattle.std.proofs.Common.{arith}
use Rattle.jiff_core.proofs.SignedLemmas.{signed_arith}
use Rattle.gi_day.specs.Cycles.{cycle_start}
use Rattle.gi_day.proofs.DayRange.{first_cycle_range}
use Rattle.gi_day.proofs.CycleLemmas.{numbers, wait_small}
use Rattle.gi_day.proofs.day_frame.DayFrame.cycle_start.Goals as goal

pub overflow_mul-result : goal.overflow_mul-result
overflow_mul-result c = omega (arith, signed_arith, c.wait_hours.ensures, wait_small c.args.cycle, c.ranges.cycle.fits)

pub overflow_add-result : goal.overflow_add-result
overflow_add-result c =
    let n = numbers c.self.inside c.args.self c.self.invariant c.self.view_is in
    let range = first_cycle_range c.self.inside.day c.self.invariant.year in
    omega (arith, signed_arith, c.wait_hours.ensures, wait_small c.args.cycle, c.ranges.cycle.fits, c.self.invariant.first_cycle, range)

pub returns-clause-value : goal.returns-clause-value
unfolding cycle_start
returns-clause-value c =
    let n = numbers c.self.inside c.args.self c.self.invariant c.self.view_is in
    let range = first_cycle_range c.self.inside.day c.self.invariant.year in
    let below = c.cycle_count.ensures.cycles c.args.cycle in (
      below.0 (omega (arith, c.if-cycle-cycle_count.false)),
      omega (arith, signed_arith, c.wait_hours.ensures, wait_small c.args.cycle, c.ranges.cycle.fits, n.first_cycle, c.self.invariant.first_cycle, range),
    )

pub returns-clause-in_range : goal.returns-clause-in_range
returns-clause-in_range c =
    let range = first_cycle_range c.self.inside.day c.self.invariant.year in
    omega (arith, signed_arith, c.wait_hours.ensures, wait_small c.args.cycle, c.ranges.cycle.fits, c.self.invariant.first_cycle, range)
