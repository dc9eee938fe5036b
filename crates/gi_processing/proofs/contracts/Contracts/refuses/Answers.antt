use Rattle.std.proofs.Common.{◌∙◌, ap}
use Rattle.gi_processing.specs.Capacity.{Capacity}
use Rattle.gi_processing.specs.Kept.{contracts_in}
use Rattle.gi_processing.specs.Recording.{is_refused}
use Rattle.gi_processing.proofs.PortfolioLaws.{refused-is}
use Rattle.gi_processing.proofs.contracts.Contracts.refuses.Goals as goal

pub returns : goal.returns
returns c =
    c.is_too_many.ensures
    ∙ refused-is c.self.inside.portfolios (contracts_in c.self.inside.contracts.entries) c.args.contract.now c.self.invariant.portfolios
    ∙ ap (λ (v : Capacity). is_refused c.args.contract.now v.contracts) c.self.view_is
