use Rattle.std.proofs.Common.{◌≡◌, ◌∙◌, ap, rules}
use Rattle.gi_simulation.specs.Refused.{RefusedState}
use Rattle.gi_simulation.specs.Simulation.{new_simulation}
use Rattle.gi_simulation.proofs.RunLaws.{recorded_in}
use Rattle.gi_simulation.proofs.refused.refused_submissions.Goals as goal

pub returns-clause-portfolios : goal.returns-clause-portfolios
returns-clause-portfolios c =
    let first : c.in-Ok.simulation ≡ new_simulation c.args.script.point = search rules in
    ap (λ (r : RefusedState). r.portfolios) c.refused.view_is
    ∙ recorded_in c.args.side (new_simulation c.args.script.point) c.in-Ok.simulation c.run.new.simulation c.into_lines.result.items c.args.script.lines
    c.new-refused.result c.run.new.notes c.in-Ok-run.ensures.made first c.into_lines.ensures c.new-refused.ensures
