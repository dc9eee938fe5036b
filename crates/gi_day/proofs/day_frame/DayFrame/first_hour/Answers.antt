use Rattle.std.proofs.Common.{arith, sym}
use Rattle.gi_day.proofs.CycleLemmas.{numbers, first_early, first_late, covered_is, first_within}
use Rattle.gi_day.proofs.day_frame.DayFrame.first_hour.Goals as goal

pub returns-then-cycle-self-clause-value : goal.returns-then-cycle-self-clause-value
returns-then-cycle-self-clause-value c =
    let n = numbers c.self.inside c.args.self c.self.invariant c.self.view_is in
    let below = c.cycle_count.ensures.cycles c.args.cycle in
    let early = first_early c.args.self c.args.cycle (omega (arith, n.lead, c.if-cycle-self.true)) in
    (below.0 (omega (arith, c.if-cycle-cycle_count.false)), sym early)

pub returns-then-cycle-self-clause-covered : goal.returns-then-cycle-self-clause-covered
returns-then-cycle-self-clause-covered c =
    let n = numbers c.self.inside c.args.self c.self.invariant c.self.view_is in
    let early = first_early c.args.self c.args.cycle (omega (arith, n.lead, c.if-cycle-self.true)) in
    λ hour from. rw (← early) (covered_is c.args.self c.args.cycle hour from)

pub returns-then-cycle-self-clause-in_range : goal.returns-then-cycle-self-clause-in_range
returns-then-cycle-self-clause-in_range c =
    let n = numbers c.self.inside c.args.self c.self.invariant c.self.view_is in
    omega (arith, n.facts.hours_in)

pub returns-clause-value : goal.returns-clause-value
returns-clause-value c =
    let n = numbers c.self.inside c.args.self c.self.invariant c.self.view_is in
    let below = c.cycle_count.ensures.cycles c.args.cycle in
    let late = first_late c.args.self c.args.cycle (omega (arith, n.lead, c.if-cycle-self.false)) in
    (below.0 (omega (arith, c.if-cycle-cycle_count.false)), omega (arith, n.lead, late))

pub returns-clause-covered : goal.returns-clause-covered
returns-clause-covered c =
    let n = numbers c.self.inside c.args.self c.self.invariant c.self.view_is in
    let late = first_late c.args.self c.args.cycle (omega (arith, n.lead, c.if-cycle-self.false)) in
    λ hour from. rw (n.lead, ← late) (covered_is c.args.self c.args.cycle hour from)

pub returns-clause-in_range : goal.returns-clause-in_range
returns-clause-in_range c =
    let n = numbers c.self.inside c.args.self c.self.invariant c.self.view_is in
    let late = first_late c.args.self c.args.cycle (omega (arith, n.lead, c.if-cycle-self.false)) in
    let within = first_within c.args.self c.args.cycle (omega (arith, c.cycle_count.ensures.value, c.if-cycle-cycle_count.false)) in
    omega (arith, n.lead, late, within)
