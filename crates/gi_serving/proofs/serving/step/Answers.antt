use Rattle.std.proofs.lemmas.Result.{on_ok_weaker}
use Rattle.gi_pairs.specs.declared.side.Side.TheVariants.{I, M}
use Rattle.gi_serving.proofs.Faulting.{on_ok, tells_unwritten}
use Rattle.gi_serving.proofs.Walking.{nothing_left}
use Rattle.gi_serving.proofs.serving.step.Goals as goal

pub returns-in-Err-clause-leaves : goal.returns-in-Err-clause-leaves
returns-in-Err-clause-leaves g c = nothing_left (g.O.Write.contents c.args.output.now) c.in-Err.fault
