use Rattle.std.proofs.Common.{rules}
use Rattle.gi_world.proofs.StepKeeping.{step-short}
use Rattle.gi_world.proofs.run.make.Goals as goal

pub returns-in-Err-OutOfMemory-clause-short : goal.returns-in-Err-OutOfMemory-clause-short
returns-in-Err-OutOfMemory-clause-short c =
    step-short c.args.world.now c.args.step.now c.step-outcome.result c.step-outcome.new.self c.step-outcome.ensures.meaning (search rules)
