use Rattle.std.proofs.Common.{arith}
use Rattle.gi_day.proofs.CycleLemmas.{numbers, below_is_cycle, cycle_is_below}
use Rattle.gi_day.proofs.day_frame.DayFrame.cycle_count.Goals as goal

pub overflow_add-result : goal.overflow_add-result
overflow_add-result c =
    let n = numbers c.self.inside c.args.self c.self.invariant c.self.view_is in
    omega (arith, n.count, n.facts.count_in)

pub overflow_sub-result : goal.overflow_sub-result
overflow_sub-result c =
    let n = numbers c.self.inside c.args.self c.self.invariant c.self.view_is in
    omega (arith, n.count)

pub returns-clause-value : goal.returns-clause-value
returns-clause-value c =
    let n = numbers c.self.inside c.args.self c.self.invariant c.self.view_is in
    omega (arith, n.count)

pub returns-clause-cycles : goal.returns-clause-cycles
returns-clause-cycles c cycle =
    let n = numbers c.self.inside c.args.self c.self.invariant c.self.view_is in (
      λ below. below_is_cycle c.args.self cycle (omega (arith, n.count, below)),
      λ is. let below = cycle_is_below c.args.self cycle is in omega (arith, n.count, below),
    )

pub returns-clause-in_range : goal.returns-clause-in_range
returns-clause-in_range c =
    let n = numbers c.self.inside c.args.self c.self.invariant c.self.view_is in
    omega (arith, n.count, n.facts.count_in)
