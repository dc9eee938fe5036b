use Rattle.std.proofs.Common.{ℕ, List, ap, ◌∙◌, arith}
use Rattle.gi_desk.specs.Queries.{confirmed}
use Rattle.gi_schedule.specs.InForce.{cycle_in_force, hour_if}
use Rattle.gi_schedule.specs.declared.hour_in_force.HourInForce.{HourInForce}
use Rattle.gi_schedule.proofs.InForceLemmas.{few_hours, hours_all, number_more}
use Rattle.gi_schedule.proofs.in_force.hours_in_force.Goals as goal

pub loop-hour-preserved : goal.loop-hour-preserved
loop-hour-preserved g c =
    let of : ℕ → List HourInForce = λ hour. hour_if hour (cycle_in_force (confirmed g.R.Role.SIDE c.args.desk.now) c.args.day hour) in
    number_more of 1 c.loop-hour.hour c.loop-hour.hours.items (hour_if c.loop-hour.hour c.cycle_in_force.result) c.add_hour.new.hours.items
    c.loop-hour.auto.hour c.loop-hour.invariant (ap (hour_if c.loop-hour.hour) c.cycle_in_force.ensures.value) c.in_ok-add_hour.ensures

pub returns-clause-value : goal.returns-clause-value
returns-clause-value g c = c.loop-hour.invariant ∙ hours_all (confirmed g.R.Role.SIDE c.args.desk.now) c.args.day c.loop-hour.hour (omega arith)

pub returns-clause-few : goal.returns-clause-few
returns-clause-few g c =
    few_hours (confirmed g.R.Role.SIDE c.args.desk.now) c.args.day c.loop-hour.hours.items
    (c.loop-hour.invariant ∙ hours_all (confirmed g.R.Role.SIDE c.args.desk.now) c.args.day c.loop-hour.hour (omega arith))
