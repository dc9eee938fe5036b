use Rattle.std.proofs.Common.{◌≡◌, ◌∙◌, List, [], ◌∷◌, ◌++◌, length, append-nil, append_assoc, arith, rules, ap, subst, sym, refl}
use Rattle.std.specs.Vec.Iter.{into_iter_items}
use Rattle.gi_script.specs.declared.line.Line.{Line}
use Rattle.gi_simulation.specs.Runs.{IsRun, noting_turn, turns}
use Rattle.gi_simulation.proofs.RunLaws.{cut-line, on_err, run-line}
use Rattle.gi_simulation.proofs.SimulationLaws.{nothing_left}
use Rattle.gi_simulation.proofs.run.run.Goals as goal

pub loop-line-init : goal.loop-line-init
loop-line-init g c =
    let all : c.args.lines.items ≡ into_iter_items c.into_iter-line-iterator.result = search rules in
    ([], all, search rules, record { notes = refl; simulation = refl })

pub returns-in_err-take_line-clause-cut : goal.returns-in_err-take_line-clause-cut
returns-in_err-take_line-clause-cut g c =
    let at = c.loop-line in
    let line = c.in-Some.line in
    let made = at.invariant.0 in
    let later = into_iter_items c.next.new.self in
    let steps : into_iter_items at.line-iterator ≡ line ∷ later = c.in-Some.ensures.steps.0 in
    let all : c.args.lines.items ≡ (made ++ line ∷ []) ++ later = at.invariant.1 ∙ ap (λ (left : List Line). made ++ left) steps ∙ sym (append_assoc made (line ∷ []) later) in
    on_err c.from_residual.result
    (cut-line (noting_turn g.N.Notes.noting c.args.trace) c.args.simulation.now at.simulation c.take_line.new.simulation made later c.args.lines.items line c.args.notes.now at.notes
    c.take_line.new.notes all at.invariant.3 c.in_err-take_line.ensures.cut)

pub loop-line-preserved : goal.loop-line-preserved
loop-line-preserved g c =
    let at = c.loop-line in
    let line = c.in-Some.line in
    let made = at.invariant.0 in
    let later = into_iter_items c.next.new.self in
    let steps : into_iter_items at.line-iterator ≡ line ∷ later = c.in-Some.ensures.steps.0 in (
      made ++ line ∷ [],
      at.invariant.1 ∙ ap (λ (left : List Line). made ++ left) steps ∙ sym (append_assoc made (line ∷ []) later),
      let was = at.invariant.2 in
          let gone = c.in-Some.ensures.steps.1 in
          let short = ap length steps in
          omega arith,
      run-line (noting_turn g.N.Notes.noting c.args.trace) c.args.simulation.now at.simulation c.take_line.new.simulation made (made ++ line ∷ []) line c.args.notes.now
          at.notes c.take_line.new.notes refl at.invariant.3 c.in_ok-take_line.ensures.made,
    )

pub returns-clause-made : goal.returns-clause-made
returns-clause-made g c =
    let at = c.loop-line in
    let made = at.invariant.0 in
    let none = c.in-None.ensures.steps in
    let empty : into_iter_items at.line-iterator ≡ [] = nothing_left _ (sym at.invariant.2 ∙ none.0) in
    let all : made ≡ c.args.lines.items = sym (at.invariant.1 ∙ ap (λ (left : List Line). made ++ left) empty ∙ append-nil made) in
    subst (λ (lines : List Line). IsRun (noting_turn g.N.Notes.noting c.args.trace) c.args.simulation.now (turns lines) c.args.notes.now at.notes at.simulation) all at.invariant.3
