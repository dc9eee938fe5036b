use Rattle.std.proofs.Common.{◌<◌, arith, length, sym}
use Rattle.std.specs.Option.{option_copied}
use Rattle.gi_schedule.proofs.NominatedLemmas.{none_taken, taken_more}
use Rattle.gi_schedule.proofs.nominated.standing.Goals as goal

pub loop-before-init : goal.loop-before-init
loop-before-init g c = sym (none_taken c.args.portfolio c.args.day)

pub loop-before-preserved : goal.loop-before-preserved
loop-before-preserved g c =
    let below : c.loop-before.before < length c.args.desk.now.facts = omega (arith, c.loop-before-test.true, c.requires) in
    taken_more c.args.portfolio c.args.day c.args.desk.now.facts c.loop-before.before (option_copied c.loop-before.found) (option_copied c.taken-found.result) (option_copied c.fact.result)
    below c.loop-before.invariant c.fact.ensures.value c.taken-found.ensures
