use Rattle.std.proofs.Common.{arith}
use Rattle.gi_desk.specs.Queries.{confirmed}
use Rattle.gi_schedule.specs.Lines.{hour_total}
use Rattle.gi_schedule.proofs.LineLemmas.{total_more}
use Rattle.gi_schedule.proofs.totals.day_total.Goals as goal

pub loop-at-preserved : goal.loop-at-preserved
loop-at-preserved g c =
    record {
      counted = total_more (hour_total (confirmed g.R.Role.SIDE c.args.desk.now) c.args.day c.args.direction c.args.keys.now) c.args.hours.now c.loop-at.at-index _
          c.loop-at.total c.hour_total-total.result c.loop-at-test.true c.loop-at.invariant.counted c.hour_total-total.ensures.value;
      within = omega (arith, c.loop-at.invariant.within, c.hour_total-total.ensures.within);
    }
