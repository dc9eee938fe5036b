-- What a desk keeps of the nominations in force: the number of the fact that took each.
use Rattle.std.specs.Prelude.{◌≡◌, ℕ, List, Option, option_map}
use Rattle.std.specs.BTreeMap.{is_at}
use Rattle.std.specs.Map.{lookup}
use Rattle.gi_messages.specs.declared.message.Nomint.{Nomint}
use Rattle.gi_nominations.specs.Book.{in_force}
use Rattle.gi_nominations.specs.PortfolioDay.{portfolio_day_cmp}
use Rattle.gi_nominations.specs.declared.portfolio_day.PortfolioDay.{PortfolioDay}
use Rattle.gi_desk.specs.History.{documents_of, is_taking, number_of}
use Rattle.gi_facts.specs.declared.fact.Fact.{Fact}

-- the number under a portfolio and a gas day
abbrev pub taking_in : List (PortfolioDay × ℕ) → PortfolioDay → Option ℕ
taking_in entries key = lookup (is_at (portfolio_day_cmp key)) entries

-- the number of the fact that took a nomination
abbrev pub taken_at : List Fact → Nomint → ℕ
taken_at facts document = number_of (is_taking document) facts

-- Under the portfolio and the gas day of each nomination in force stands the number of its fact, and no number stands
-- where none is in force.
abbrev pub AreTakings : List Fact → List (PortfolioDay × ℕ) → Type 0
AreTakings facts entries =
    (key : PortfolioDay) → taking_in entries key ≡ option_map (taken_at facts) (in_force key.portfolio key.day (documents_of facts))
