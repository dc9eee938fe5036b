use Rattle.std.proofs.Common.{◌∙◌, Bool, cond, ap, sym}
use Rattle.gi_processing.proofs.ReadingLaws.{reads-refused}
use Rattle.gi_desk.specs.History.{capacity_of}
use Rattle.gi_facts.specs.declared.fact.Fact.TheVariants.{Contracted}
use Rattle.gi_desk.specs.declared.outcome.Outcome.TheVariants.{Records, Refuses}
use Rattle.gi_desk.specs.declared.refusal.Refusal.TheVariants.{TooManyPortfolios}
use Rattle.gi_desk.proofs.judging.contracted.Goals as goal

pub returns-then-refuses : goal.returns-then-refuses
returns-then-refuses c facts reads =
    ap (λ (b : Bool). cond b (Refuses TooManyPortfolios) (Records (Contracted c.args.contract.now)))
    (sym c.if-refuses.true ∙ c.refuses.ensures ∙ reads-refused c.args.contracts.now (capacity_of facts) reads c.args.contract.now)

pub returns : goal.returns
returns c facts reads =
    ap (λ (b : Bool). cond b (Refuses TooManyPortfolios) (Records (Contracted c.args.contract.now)))
    (sym c.if-refuses.false ∙ c.refuses.ensures ∙ reads-refused c.args.contracts.now (capacity_of facts) reads c.args.contract.now)
