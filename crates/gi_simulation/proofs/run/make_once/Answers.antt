use Rattle.std.proofs.Common.{inr, ap, refl}
use Rattle.std.proofs.lemmas.Result.{on_err_weaker}
use Rattle.gi_simulation.specs.Runs.{noting_turn}
use Rattle.gi_simulation.specs.Simulation.{SimulationState}
use Rattle.gi_simulation.proofs.RunLaws.{cut-one, on_err}
use Rattle.gi_simulation.proofs.run.make_once.Goals as goal

pub returns-in_err-outcome-clause-cut : goal.returns-in_err-outcome-clause-cut
returns-in_err-outcome-clause-cut g c =
    on_err c.from_residual.result
    (cut-one (noting_turn g.N.Notes.noting c.args.trace) c.args.simulation.now c.make_traced.new.self c.args.line.now c.args.notes.now c.args.notes.now refl c.in_err-outcome.ensures.world)

pub returns-clause-cut : goal.returns-clause-cut
returns-clause-cut g c =
    on_err_weaker c.note.result
    (λ same. cut-one (noting_turn g.N.Notes.noting c.args.trace) c.args.simulation.now c.make_traced.new.self c.args.line.now c.args.notes.now c.note.new.self same
    (inr (ap (λ (s : SimulationState). s.world) c.in_ok-outcome.ensures.next))) c.note.ensures.unchanged
