use Rattle.std.proofs.Common.{◌<◌, arith, is_ok, ap}
use Rattle.std.proofs.lemmas.Result.{Ok-from_Ok_iff}
use Rattle.gi_day.specs.Cycles.{IsCycle, first_hour}
use Rattle.gi_explanations.proofs.covering.covers.Goals as goal

pub unwrap-first-requires : goal.unwrap-first-requires
unwrap-first-requires c =
    let below : c.args.cycle < c.cycle_count.result = omega (arith, c.if-cycle-cycle_count.false) in
    ap is_ok
    (Ok-from_Ok_iff c.first_hour.result (IsCycle c.args.frame c.args.cycle) (first_hour c.args.frame c.args.cycle) c.first_hour.ensures.value
    ((c.cycle_count.ensures.cycles c.args.cycle).0 below))
