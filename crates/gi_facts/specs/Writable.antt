-- Which facts can be written in a row of the store.
use Rattle.std.specs.Prelude.{◌≤◌, length}
use Rattle.gi_day.specs.Day.{IsGasYear}
use Rattle.gi_pairs.specs.Code.{IsCode}
use Rattle.gi_pairs.specs.Limits.{last_hour, most_processed_rows}
use Rattle.gi_pairs.specs.Quantity.{IsQuantity}
use Rattle.gi_pairs.specs.Table.{IsTable, TableContents}
use Rattle.gi_pairs.specs.declared.cycle_id.CycleId.{CycleId}
use Rattle.gi_messages.specs.Grammar.{FitsNomint}
use Rattle.gi_messages.specs.Limits.{last_cycle}
use Rattle.gi_processing.specs.declared.contract.Contract.{Contract}
use Rattle.gi_processing.specs.declared.notice.Notice.{Notice}
use Rattle.gi_facts.specs.declared.fact.Fact.{Fact}
use Rattle.gi_facts.specs.declared.fact.Fact.TheVariants.{Contracted, Noticed, Nominated, Closed, Met}

-- a cycle that a message can name
pub record FitsCycle (id : CycleId) : Type 0 where
  pub day : IsGasYear id.day.year
  pub cycle : id.cycle ≤ last_cycle

-- a table of processed quantities that a message can carry
pub record FitsProcessed (t : TableContents) : Type 0 where
  pub table : IsTable t
  pub few : length t.rows ≤ most_processed_rows

-- a contract: codes, a gas day and quantities
pub record FitsContract (contract : Contract) : Type 0 where
  pub portfolio : IsCode contract.portfolio
  pub day : IsGasYear contract.day.year
  pub firm : IsQuantity contract.firm
  pub interruptible : IsQuantity contract.interruptible

-- a notice: a gas day, hours of it, and numbers per mille
pub record FitsNotice (notice : Notice) : Type 0 where
  pub day : IsGasYear notice.day.year
  pub begins : 1 ≤ notice.first
  pub ordered : notice.first ≤ notice.last
  pub ends : notice.last ≤ last_hour
  pub firm : notice.firm ≤ 1000
  pub interruptible : notice.interruptible ≤ 1000

-- a fact of such parts
abbrev pub FitsFact : Fact → Type 0
FitsFact (Contracted contract) = FitsContract contract
FitsFact (Noticed notice) = FitsNotice notice
FitsFact (Nominated document) = FitsNomint document
FitsFact (Closed id rule) = FitsCycle id
FitsFact (Met id peer) = FitsCycle id × FitsProcessed peer
