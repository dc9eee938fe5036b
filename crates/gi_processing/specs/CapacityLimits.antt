-- The limits of contracts and notices (this project's choice).
use Rattle.std.specs.Prelude.{ℕ}

-- how many portfolios have contracts at a side, over all days
abbrev pub most_portfolios : ℕ
most_portfolios = 64

-- the greatest per-mille number: nothing is cut
abbrev pub most_permille : ℕ
most_permille = 1_000
