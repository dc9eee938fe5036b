use Rattle.std.proofs.Common.{◌≡◌, ◌∙◌, rules, string_bytes, sym}
use Rattle.gi_simulation.specs.Simulation.{new_simulation}
use Rattle.gi_simulation.proofs.RunLaws.{cut_in, told_in}
use Rattle.gi_simulation.proofs.simulated.simulate.Goals as goal

pub returns-clause-text : goal.returns-clause-text
returns-clause-text c complete =
    let first : c.in-Ok.simulation ≡ new_simulation c.args.script.point = search rules in
    told_in c.args.trace c.run.result (new_simulation c.args.script.point) c.in-Ok.simulation c.run.new.simulation c.into_lines.result.items c.args.script.lines
    c.new-text.result c.run.new.notes (string_bytes c.into_string.result) (sym c.is_ok-complete.ensures.value ∙ complete) c.run.ensures.made first c.into_lines.ensures
    c.new-text.ensures c.into_string.ensures

pub returns-clause-cut : goal.returns-clause-cut
returns-clause-cut c failed =
    let first : c.in-Ok.simulation ≡ new_simulation c.args.script.point = search rules in
    cut_in c.args.trace c.run.result (new_simulation c.args.script.point) c.in-Ok.simulation c.run.new.simulation c.into_lines.result.items c.args.script.lines
    c.new-text.result c.run.new.notes (string_bytes c.into_string.result) (sym c.is_ok-complete.ensures.value ∙ failed) c.run.ensures.cut first c.into_lines.ensures
    c.new-text.ensures c.into_string.ensures
