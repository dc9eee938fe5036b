-- Which contracts and notices are recorded, and what is kept of them.
use Rattle.std.specs.Prelude.{◌≡◌, ℕ, ◌≤◌, List, [], ◌∷◌, ◌++◌, length, map, fold, Bool, not, ◌&&◌, ◌||◌, nat_le, nat_lt, if◌then◌else◌, Option, Some, None}
use Rattle.std.specs.List.{list_any}
use Rattle.std.specs.Str.{bytes_eq}
use Rattle.gi_day.specs.Cycles.{hour_count}
use Rattle.gi_pairs.specs.Limits.{last_hour}
use Rattle.jiff_core.specs.declared.civil.date.Date.{Date}
use Rattle.gi_pairs.specs.declared.direction.Direction.{Direction}
use Rattle.gi_processing.specs.Capacity.{Capacity, contract_of, covers, is_for, left_of, notice_of}
use Rattle.gi_processing.specs.CapacityLimits.{most_permille, most_portfolios}
use Rattle.gi_processing.specs.declared.contract.Contract.{Contract}
use Rattle.gi_processing.specs.declared.notice.Notice.{Notice}
use Rattle.gi_processing.specs.declared.notice_fault.NoticeFault.{NoticeFault}
use Rattle.gi_processing.specs.declared.notice_fault.NoticeFault.TheVariants.{NoticeRange, PermilleRange}

-- the contract or the notice recorded last
abbrev pub with_contract : Capacity → Contract → Capacity
with_contract c contract = record c { contracts = c.contracts ++ contract ∷ [] }

abbrev pub with_notice : Capacity → Notice → Capacity
with_notice c notice = record c { notices = c.notices ++ notice ∷ [] }

-- the contract stands for its portfolio, day and direction, and for all others the one that stood
abbrev pub ContractStands : List Contract → List Contract → Contract → Type 0
ContractStands old new contract =
    (portfolio : List ℕ) (day : Date) (direction : Direction)
    → contract_of portfolio day direction new ≡ (if is_for portfolio day direction contract then Some contract else contract_of portfolio day direction old)

-- the notice stands for its day, direction and hours, and for all others the one that stood: so much of a contract is left
abbrev pub NoticeStands : List Notice → List Notice → Notice → Type 0
NoticeStands old new notice =
    (contract : Option Contract) (day : Date) (direction : Direction) (hour : ℕ)
    → left_of contract (notice_of day direction hour new)
    ≡ (if covers day direction hour notice then left_of contract (Some notice) else left_of contract (notice_of day direction hour old))

-- portfolios with one more, where it is not among them
abbrev pub with_portfolio : List (List ℕ) → List ℕ → List (List ℕ)
with_portfolio portfolios portfolio =
    if list_any (bytes_eq portfolio) portfolios then portfolios else portfolios ++ portfolio ∷ []

-- the portfolios that have contracts, each once, in the order of their first contracts
unfoldable pub portfolios_of : List Contract → List (List ℕ)
portfolios_of contracts = fold with_portfolio [] (map (λ contract. contract.portfolio) contracts)

-- whether a portfolio is one too many beside others: it is not among them, and they are as many as may be
abbrev pub is_too_many : List (List ℕ) → List ℕ → Bool
is_too_many portfolios portfolio = not (list_any (bytes_eq portfolio) portfolios) && nat_le most_portfolios (length portfolios)

-- whether a portfolio has a contract, on any day
unfoldable pub has_any_contract : List ℕ → List Contract → Bool
has_any_contract portfolio contracts = list_any (λ contract. bytes_eq portfolio contract.portfolio) contracts

-- a contract is refused where its portfolio has none yet, and as many have one as may have
unfoldable pub is_refused : Contract → List Contract → Bool
is_refused contract contracts = not (has_any_contract contract.portfolio contracts) && nat_le most_portfolios (length (portfolios_of contracts))

-- a notice's hours are hours of a day that has so many
abbrev pub has_hours : ℕ → Notice → Bool
has_hours hours notice = nat_le 1 notice.first && nat_le notice.first notice.last && nat_le notice.last hours

-- whether a number of the notice is over 1000 per mille
abbrev pub is_over : Notice → Bool
is_over notice = nat_lt most_permille notice.firm || nat_lt most_permille notice.interruptible

-- the first fault of a notice
unfoldable pub notice_refusal : Notice → Option NoticeFault
notice_refusal notice =
    if not (has_hours (hour_count notice.day) notice) then Some NoticeRange
    else (if is_over notice then Some PermilleRange else None)

-- what holds of every notice that is recorded
pub record IsNotice (notice : Notice) : Type 0 where
  pub begins : 1 ≤ notice.first
  pub ordered : notice.first ≤ notice.last
  pub ends : notice.last ≤ last_hour
  pub firm : notice.firm ≤ most_permille
  pub interruptible : notice.interruptible ≤ most_permille
