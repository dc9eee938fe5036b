-- What is kept of the recorded contracts and notices reads as they do.
use Rattle.std.specs.Prelude.{◌≡◌, ℕ, List, Option}
use Rattle.jiff_core.specs.declared.civil.date.Date.{Date}
use Rattle.gi_pairs.specs.declared.direction.Direction.{Direction}
use Rattle.gi_processing.specs.Capacity.{Capacity, contract_of, left_of, notice_of}
use Rattle.gi_processing.specs.Recording.{with_contract, with_notice}
use Rattle.gi_processing.specs.declared.contract.Contract.{Contract}
use Rattle.gi_processing.specs.declared.notice.Notice.{Notice}

-- The same contract stands for each portfolio, day and direction, and the notices leave as much of every contract in
-- each hour. So what is available, known and refused is the same too, and the same portfolios have contracts.
pub record ReadsAs (kept recorded : Capacity) : Type 0 where
  pub contracts : (portfolio : List ℕ) (day : Date) (direction : Direction)
      → contract_of portfolio day direction kept.contracts ≡ contract_of portfolio day direction recorded.contracts
  pub left : (contract : Option Contract) (day : Date) (direction : Direction) (hour : ℕ)
      → left_of contract (notice_of day direction hour kept.notices) ≡ left_of contract (notice_of day direction hour recorded.notices)

-- whatever the old one read as, the new one reads as that with the contract, or the notice, recorded last
abbrev pub RecordsContract : Capacity → Capacity → Contract → Type 0
RecordsContract old new contract = (recorded : Capacity) → ReadsAs old recorded → ReadsAs new (with_contract recorded contract)

abbrev pub RecordsNotice : Capacity → Capacity → Notice → Type 0
RecordsNotice old new notice = (recorded : Capacity) → ReadsAs old recorded → ReadsAs new (with_notice recorded notice)
