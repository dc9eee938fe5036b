use Rattle.std.proofs.Common.{List, ℕ, sym, subst}
use Rattle.std.specs.List.{IsDistinct}
use Rattle.std.specs.Str.{bytes_eq}
use Rattle.std.proofs.lemmas.Map.Keys.{IsDistinct-IsPermutation}
use Rattle.gi_processing.specs.Kept.{contracts_in}
use Rattle.gi_processing.specs.Recording.{portfolios_of}
use Rattle.gi_processing.proofs.PortfolioLaws.{flips, portfolios_of-distinct}
use Rattle.gi_processing.proofs.contracts.Contracts.portfolios.Goals as goal

pub returns-clause-distinct : goal.returns-clause-distinct
returns-clause-distinct c =
    let contracts = contracts_in c.self.inside.contracts.entries in
    subst (λ (ps : List (List ℕ)). IsDistinct bytes_eq ps) (sym c.as_slice.ensures.value)
    (IsDistinct-IsPermutation bytes_eq flips (portfolios_of contracts) c.self.inside.portfolios c.self.invariant.portfolios (portfolios_of-distinct contracts))
