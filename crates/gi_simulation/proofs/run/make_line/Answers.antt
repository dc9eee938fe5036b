use Rattle.std.proofs.Common.{◌<◌, arith}
use Rattle.gi_simulation.specs.Runs.{noting_turn, times}
use Rattle.gi_simulation.proofs.RunLaws.{cut-again, on_err, run-again}
use Rattle.gi_simulation.proofs.run.make_line.Goals as goal

pub returns-in_err-make_once-clause-cut : goal.returns-in_err-make_once-clause-cut
returns-in_err-make_once-clause-cut g c =
    let below = c.loop-test.true in
    let is = c.times-end.ensures in
    let left : c.loop.counter < times c.args.line.now.instruction = omega (arith, below, is) in
    on_err c.from_residual.result
    (cut-again (noting_turn g.N.Notes.noting c.args.trace) c.args.simulation.now c.loop.simulation c.make_once.new.simulation c.args.line.now c.loop.counter (times c.args.line.now.instruction)
    c.args.notes.now c.loop.notes c.make_once.new.notes left c.loop.invariant c.in_err-make_once.ensures.cut)

pub loop-preserved : goal.loop-preserved
loop-preserved g c =
    run-again (noting_turn g.N.Notes.noting c.args.trace) c.args.simulation.now c.loop.simulation c.make_once.new.simulation c.args.line.now c.loop.counter c.args.notes.now c.loop.notes
    c.make_once.new.notes c.loop.invariant c.in_ok-make_once.ensures.made
