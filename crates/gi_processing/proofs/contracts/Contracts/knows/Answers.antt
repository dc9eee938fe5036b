use Rattle.std.proofs.Common.{◌≡◌, ◌∙◌, ◌||◌, Bool, Option, true, false, is_some, ap, sym}
use Rattle.gi_pairs.specs.declared.direction.Direction.TheVariants.{IM, MI}
use Rattle.gi_processing.specs.Capacity.{contract_of}
use Rattle.gi_processing.specs.declared.contract.Contract.{Contract}
use Rattle.gi_processing.proofs.ReadingLaws.{knows-is}
use Rattle.gi_processing.proofs.contracts.Contracts.knows.Goals as goal

pub returns-then-is_some : goal.returns-then-is_some
returns-then-is_some c =
    let contracts = c.args.self.now.contracts in
    let first : is_some (contract_of c.args.portfolio c.args.day IM contracts) ≡ true =
    ap (λ (o : Option Contract). is_some o) (sym c.contract.ensures) ∙ sym c.is_some.ensures ∙ c.if-is_some.true in
    let second = is_some (contract_of c.args.portfolio c.args.day MI contracts) in
    c.if-is_some.true ∙ sym (knows-is c.args.portfolio c.args.day contracts ∙ ap (λ (b : Bool). b || second) first)

pub returns-else-is_some : goal.returns-else-is_some
returns-else-is_some c =
    let contracts = c.args.self.now.contracts in
    let first : is_some (contract_of c.args.portfolio c.args.day IM contracts) ≡ false =
    ap (λ (o : Option Contract). is_some o) (sym c.contract.ensures) ∙ sym c.is_some.ensures ∙ c.if-is_some.false in
    let second = is_some (contract_of c.args.portfolio c.args.day MI contracts) in
    c.is_some-else-is_some.ensures
    ∙ ap (λ (o : Option Contract). is_some o) c.contract-else-is_some.ensures
    ∙ sym (knows-is c.args.portfolio c.args.day contracts ∙ ap (λ (b : Bool). b || second) first)
