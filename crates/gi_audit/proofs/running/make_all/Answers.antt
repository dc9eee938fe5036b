use Rattle.gi_audit.proofs.RunLemmas.{runs_more}
use Rattle.gi_audit.proofs.running.make_all.Goals as goal

pub loop-step-preserved : goal.loop-step-preserved
loop-step-preserved c = record {
  world =
      runs_more c.args.world.now c.loop-step.world c.make.new.world c.args.steps.now c.loop-step.step-index c.step-item.result c.loop-step-test.true c.step-item.is
      c.loop-step.invariant.world c.in_ok-make.ensures.next;
  sound = c.in_ok-make.ensures.sound;
}
