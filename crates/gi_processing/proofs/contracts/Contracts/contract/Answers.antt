use Rattle.std.proofs.Common.{◌∙◌, Option, Some, ap, sym}
use Rattle.std.specs.Borrow.{Bor}
use Rattle.std.specs.Option.{option_copied, option_map}
use Rattle.gi_processing.specs.Capacity.{Capacity}
use Rattle.gi_processing.specs.Kept.{contract_at, contract_key}
use Rattle.gi_processing.specs.declared.contract.Contract.{Contract}
use Rattle.gi_processing.specs.declared.contracted.Contracted.{Contracted}
use Rattle.gi_processing.proofs.KeptLaws.{contract-found}
use Rattle.gi_processing.proofs.contracts.Contracts.contract.Goals as goal

pub returns-in-Some : goal.returns-in-Some
returns-in-Some c =
    let key = contract_key c.args.portfolio c.args.day c.args.direction in
    ap (λ (x : Contract). Some x) c.at.ensures
    ∙ ap (λ (o : Option (Bor Contracted)). option_map (contract_at key) (option_copied o)) (sym c.in-Some.is)
    ∙ contract-found c.args.portfolio c.args.day c.args.direction c.self.inside.contracts c.args.self.now c.get.result (ap (λ (v : Capacity). v.contracts) c.self.view_is) c.get.ensures.value

pub returns-in-None : goal.returns-in-None
returns-in-None c =
    let key = contract_key c.args.portfolio c.args.day c.args.direction in
    ap (λ (o : Option (Bor Contracted)). option_map (contract_at key) (option_copied o)) (sym c.in-None.is)
    ∙ contract-found c.args.portfolio c.args.day c.args.direction c.self.inside.contracts c.args.self.now c.get.result (ap (λ (v : Capacity). v.contracts) c.self.view_is) c.get.ensures.value
