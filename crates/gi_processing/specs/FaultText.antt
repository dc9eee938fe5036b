-- A refusal prints as its name.
use Rattle.std.specs.Prelude.{ℕ, List, codes}
use Rattle.gi_processing.specs.declared.contract_fault.ContractFault.{ContractFault}
use Rattle.gi_processing.specs.declared.contract_fault.ContractFault.TheVariants.{TooManyPortfolios, OutOfMemory as NoMemory}
use Rattle.gi_processing.specs.declared.notice_fault.NoticeFault.{NoticeFault}
use Rattle.gi_processing.specs.declared.notice_fault.NoticeFault.TheVariants.{NoticeRange, PermilleRange, OutOfMemory}

abbrev pub contract_fault_text : ContractFault → List ℕ
contract_fault_text TooManyPortfolios = codes "TooManyPortfolios"
contract_fault_text NoMemory = codes "OutOfMemory"

abbrev pub notice_fault_text : NoticeFault → List ℕ
notice_fault_text NoticeRange = codes "NoticeRange"
notice_fault_text PermilleRange = codes "PermilleRange"
notice_fault_text OutOfMemory = codes "OutOfMemory"
