-- What nominations are for, and its order.
use Rattle.std.specs.declared.cmp.Ordering.{Ordering}
use Rattle.std.specs.Ordering.{int_cmp, on, then_cmp}
use Rattle.jiff_core.specs.Date.{epoch_day}
use Rattle.gi_pairs.specs.Key.{code_cmp}
use Rattle.gi_messages.specs.declared.message.Nomint.{Nomint}
use Rattle.gi_nominations.specs.declared.portfolio_day.PortfolioDay.{PortfolioDay}

-- the portfolio and the gas day of a document
abbrev pub portfolio_day_of : Nomint → PortfolioDay
portfolio_day_of document = record { portfolio = document.portfolio; day = document.day }

-- by the portfolio, then by the gas day
abbrev pub portfolio_day_cmp : PortfolioDay → PortfolioDay → Ordering
portfolio_day_cmp = then_cmp (on (λ p. p.portfolio) code_cmp) (on (λ p. epoch_day p.day) int_cmp)
