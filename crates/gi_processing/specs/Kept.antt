-- What is kept of contracts and notices: the contract that stands for each key, and a row of hours for each gas day and
-- direction that has a notice.
use Rattle.std.specs.Prelude.{◌≡◌, ℕ, ◌+◌, List, [], ◌∷◌, reverse, map, Option, Some, None, if◌then◌else◌}
use Rattle.std.specs.BTreeMap.{BTreeMap, get}
use Rattle.std.specs.List.{flat_map}
use Rattle.std.specs.declared.cmp.Ordering.{Ordering}
use Rattle.jiff_core.specs.declared.civil.date.Date.{Date}
use Rattle.gi_pairs.specs.declared.direction.Direction.{Direction}
use Rattle.gi_processing.specs.Capacity.{covers}
use Rattle.gi_processing.specs.HoursLeft.{left_at, left_by, whole}
use Rattle.gi_processing.specs.contracts.contract_key.ContractKeyOrd.TheImpl as of_contracts
use Rattle.gi_processing.specs.contracts.notice_key.NoticeKeyOrd.TheImpl as of_notices
use Rattle.gi_processing.specs.declared.contract.Contract.{Contract}
use Rattle.gi_processing.specs.declared.contract_key.ContractKey.{ContractKey}
use Rattle.gi_processing.specs.declared.contracted.Contracted.{Contracted}
use Rattle.gi_processing.specs.declared.hours_left.HoursLeft.{HoursLeft}
use Rattle.gi_processing.specs.declared.hours_left.Thousandths.{Thousandths}
use Rattle.gi_processing.specs.declared.notice.Notice.{Notice}
use Rattle.gi_processing.specs.declared.notice_key.NoticeKey.{NoticeKey}

-- how the keys are ordered
abbrev pub contract_cmp : ContractKey → ContractKey → Ordering
contract_cmp = (of_contracts.ghosts).cmp

abbrev pub notice_cmp : NoticeKey → NoticeKey → Ordering
notice_cmp = (of_notices.ghosts).cmp

-- the contract of an entry
abbrev pub contract_at : ContractKey → Contracted → Contract
contract_at key contracted = record {
  portfolio = key.portfolio;
  day = key.day;
  direction = key.direction;
  firm = contracted.firm;
  interruptible = contracted.interruptible;
}

-- The contracts of the entries. The list is read from its end, so they stand in it from the last to the first.
abbrev pub contracts_in : List (ContractKey × Contracted) → List Contract
contracts_in entries = reverse (map (λ entry. contract_at entry.0 entry.1) entries)

-- what is left in an hour, as a notice for that hour alone
abbrev pub notice_at : NoticeKey → ℕ → Thousandths → Notice
notice_at key hour left = record {
  day = key.day;
  direction = key.direction;
  first = hour;
  last = hour;
  firm = left.firm;
  interruptible = left.interruptible;
}

-- a notice for each hour, from the one given on
abbrev pub hourly : NoticeKey → ℕ → List Thousandths → List Notice
hourly key hour [] = []
hourly key hour (left ∷ more) = notice_at key hour left ∷ hourly key (hour + 1) more

-- the notices of all rows, from the last to the first
abbrev pub notices_in : List (NoticeKey × HoursLeft) → List Notice
notices_in entries = reverse (flat_map (λ entry. hourly entry.0 1 entry.1.hours) entries)

abbrev pub contract_key : List ℕ → Date → Direction → ContractKey
contract_key portfolio day direction = record { portfolio = portfolio; day = day; direction = direction }

abbrev pub notice_key : Date → Direction → NoticeKey
notice_key day direction = record { day = day; direction = direction }

-- what the row, if there is one, has for an hour
abbrev pub left_in : Option HoursLeft → ℕ → Thousandths
left_in None hour = whole
left_in (Some row) hour = left_at row.hours hour

abbrev pub left_of_rows : BTreeMap NoticeKey HoursLeft → Date → Direction → ℕ → Thousandths
left_of_rows rows day direction hour = left_in (get notice_cmp rows (notice_key day direction)) hour

-- a notice cuts its hours of its gas day and direction, and all others stay
abbrev pub CutsRows : Notice → BTreeMap NoticeKey HoursLeft → BTreeMap NoticeKey HoursLeft → Type 0
CutsRows notice old new =
    (day : Date) (direction : Direction) (hour : ℕ)
    → left_of_rows new day direction hour ≡ (if covers day direction hour notice then left_by notice else left_of_rows old day direction hour)
