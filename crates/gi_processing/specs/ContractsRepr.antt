-- How contracts and notices are kept.
use Rattle.std.specs.Prelude.{ℕ}
use Rattle.std.specs.BTreeMap.{IsOrdered}
use Rattle.std.specs.List.Sorted.{IsPermutation}
use Rattle.jiff_core.specs.declared.civil.date.Date.{Date}
use Rattle.gi_pairs.specs.declared.direction.Direction.{Direction}
use Rattle.gi_processing.specs.Capacity.{Capacity}
use Rattle.gi_processing.specs.HoursLeft.{IsLeft}
use Rattle.gi_processing.specs.Kept.{contracts_in, left_of_rows, notice_cmp, notices_in}
use Rattle.gi_processing.specs.Recording.{portfolios_of}
use Rattle.gi_processing.specs.declared.contracts.Contracts.TheInside.{Inside}

-- what is kept, from the fields
abbrev pub capacity_of : Inside → Capacity
capacity_of c = record { contracts = contracts_in c.contracts.entries; notices = notices_in c.notices.entries }

-- beside the contracts stand the portfolios that have them, and no notice leaves more than all
pub record ContractsInvariant (c : Inside) : Type 0 where
  pub portfolios : IsPermutation (portfolios_of (contracts_in c.contracts.entries)) c.portfolios
  pub ordered : IsOrdered notice_cmp c.notices
  pub left : (day : Date) (direction : Direction) (hour : ℕ) → IsLeft (left_of_rows c.notices day direction hour)
