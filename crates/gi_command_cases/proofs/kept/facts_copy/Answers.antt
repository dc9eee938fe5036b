use Rattle.std.proofs.Common.{[], ◌∷◌, ◌++◌, ◌∙◌, sym, arith}
use Rattle.std.proofs.lemmas.List.{take_all, take_more}
use Rattle.gi_command_cases.proofs.kept.facts_copy.Goals as goal

pub loop-fact-preserved : goal.loop-fact-preserved
loop-fact-preserved c =
    let at = c.loop-fact in
    let same = c.in-Ok.ensures ∙ c.fact-item.is in
    c.push_reserved.ensures.items ∙ (λ i. at.invariant i ++ same i ∷ []) ∙ sym (take_more c.args.facts.now at.fact-index c.fact-item.result c.loop-fact-test.true)

pub returns : goal.returns
returns c = c.loop-fact.invariant ∙ take_all c.loop-fact.fact-index c.args.facts.now (omega (arith, c.loop-fact-test.false))
