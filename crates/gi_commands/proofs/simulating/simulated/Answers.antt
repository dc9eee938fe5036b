use Rattle.std.proofs.Common.{◌≡◌, ◌∙◌, ◌++◌, ap₂, rules, subst, sym, true, false, List, ℕ}
use Rattle.gi_script.specs.Script.{HasNoPoint, IsScript}
use Rattle.gi_simulation.specs.Simulation.{SimulationState}
use Rattle.gi_commands.specs.Simulating.{counts_of}
use Rattle.gi_commands.proofs.SimulatingLemmas.{cut_after, cut_run}
use Rattle.gi_commands.proofs.simulating.simulated.Goals as goal

pub returns-then-not-made-clause-cut : goal.returns-then-not-made-clause-cut
returns-then-not-made-clause-cut c =
    let short : c.in_ok-made.made.complete ≡ false = search rules in
    let spelled = subst (λ (input : List ℕ). IsScript input c.in_ok-script.script) c.deref.ensures.value c.in_ok-script.ensures.found in
    λ is. cut_run c.args.trace _ _ c.in_ok-script.script _ spelled (c.in_ok-made.ensures.cut short)

pub returns-clause-text : goal.returns-clause-text
returns-clause-text c =
    let whole : c.in_ok-made.made.complete ≡ true = search rules in
    λ is. record {
      script = c.in_ok-script.script;
      spelled = subst (λ (input : List ℕ). IsScript input c.in_ok-script.script) c.deref.ensures.value c.in_ok-script.ensures.found;
      written = c.with_counts-written.ensures.whole is ∙ ap₂ (λ (text : List ℕ) (s : SimulationState). text ++ counts_of s) (c.in_ok-made.ensures.text whole) (c.in_ok-made.ensures.simulation whole);
    }

pub returns-clause-cut : goal.returns-clause-cut
returns-clause-cut c =
    let whole : c.in_ok-made.made.complete ≡ true = search rules in
    let spelled = subst (λ (input : List ℕ). IsScript input c.in_ok-script.script) c.deref.ensures.value c.in_ok-script.ensures.found in
    λ is. cut_after c.args.trace _ _ c.in_ok-script.script spelled (c.with_counts-written.ensures.short is ∙ c.in_ok-made.ensures.text whole)

pub returns-then-not-made-clause-point : goal.returns-then-not-made-clause-point
returns-then-not-made-clause-point c = λ none. absurd (cc (c.in_ok-script.ensures.point (subst HasNoPoint (sym c.deref.ensures.value) none)))

pub returns-clause-point : goal.returns-clause-point
returns-clause-point c = λ none. absurd (cc (c.in_ok-script.ensures.point (subst HasNoPoint (sym c.deref.ensures.value) none)))
