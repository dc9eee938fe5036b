-- What a book holds, from its fields.
use Rattle.std.specs.Prelude.{◌≡◌, List}
use Rattle.std.specs.BTreeMap.{values}
use Rattle.std.specs.List.{AllByRecursion}
use Rattle.std.specs.List.Sorted.{IsStrictlySortedBy}
use Rattle.std.specs.Map.{keys_of}
use Rattle.gi_messages.specs.declared.message.Nomint.{Nomint}
use Rattle.gi_nominations.specs.Book.{Documents}
use Rattle.gi_nominations.specs.PortfolioDay.{portfolio_day_cmp, portfolio_day_of}
use Rattle.gi_nominations.specs.declared.book.Book.TheInside.{Inside}
use Rattle.gi_nominations.specs.declared.portfolio_day.PortfolioDay.{PortfolioDay}

abbrev pub book_of : Inside → Documents
book_of book = record { point = book.point; documents = values book.documents }

-- the document stands under its own portfolio and gas day
abbrev pub IsOwn : PortfolioDay × Nomint → Type 0
IsOwn entry = entry.0 ≡ portfolio_day_of entry.1

-- each does, and of each portfolio and gas day there is one
pub record IsFiled (entries : List (PortfolioDay × Nomint)) : Type 0 where
  pub own : AllByRecursion IsOwn entries
  pub ordered : IsStrictlySortedBy portfolio_day_cmp (keys_of entries)
