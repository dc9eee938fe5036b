-- Which JSON values stand for which facts, field by field and apart from how they are read.
use Rattle.std.specs.Prelude.{◌≡◌, ℕ, List, Some}
use Rattle.serde_json.specs.Data.{Data, string}
use Rattle.serde_json.specs.Find.{get}
use Rattle.gi_pairs.specs.Limits.{last_hour, most_processed_rows}
use Rattle.gi_pairs.specs.Quantity.{most_quantity}
use Rattle.gi_pairs.specs.Table.{TableContents}
use Rattle.gi_pairs.specs.declared.cycle_id.CycleId.{CycleId}
use Rattle.gi_messages.specs.Grammar.{Has, HasOr, IsText, NamesCode, NamesDay, NamesDirection, IsWhole, HasTable, IsNomint, IsOfKind as IsOfMessageKind}
use Rattle.gi_messages.specs.Json.{json_of}
use Rattle.gi_messages.specs.Key.{key_text}
use Rattle.gi_messages.specs.Limits.{last_cycle}
use Rattle.gi_messages.specs.declared.key.Key.TheVariants as keys
use Rattle.gi_messages.specs.declared.kind.Kind.TheVariants.{Nomint as NomintKind}
use Rattle.gi_messages.specs.declared.message.Nomint.{Nomint}
use Rattle.gi_processing.specs.declared.contract.Contract.{Contract}
use Rattle.gi_processing.specs.declared.notice.Notice.{Notice}
use Rattle.gi_processing.specs.declared.rule.Rule.{Rule}
use Rattle.gi_processing.specs.Rule.{rule_number}
use Rattle.gi_processing.specs.CapacityLimits.{most_permille}
use Rattle.gi_facts.specs.Kind.{kind_text}
use Rattle.gi_facts.specs.declared.kind.Kind.{Kind}
use Rattle.gi_facts.specs.declared.kind.Kind.TheVariants as kinds
use Rattle.gi_facts.specs.declared.fact.Fact.{Fact}
use Rattle.gi_facts.specs.declared.fact.Fact.TheVariants.{Contracted, Noticed, Nominated, Closed, Met}

-- a contract: quantities in kWh/h
pub record IsContract (d : Data) (contract : Contract) : Type 0 where
  pub portfolio : Has (IsText NamesCode) keys.Portfolio d contract.portfolio
  pub day : Has (IsText NamesDay) keys.Day d contract.day
  pub direction : Has (IsText NamesDirection) keys.Direction d contract.direction
  pub firm : Has (IsWhole 0 most_quantity) keys.Firm d contract.firm
  pub interruptible : Has (IsWhole 0 most_quantity) keys.Interruptible d contract.interruptible

-- a notice: numbers per mille, for hours 1 <= first <= last <= 25
pub record IsNotice (d : Data) (notice : Notice) : Type 0 where
  pub day : Has (IsText NamesDay) keys.Day d notice.day
  pub direction : Has (IsText NamesDirection) keys.Direction d notice.direction
  pub first : Has (IsWhole 1 last_hour) keys.First d notice.first
  pub last : Has (IsWhole notice.first last_hour) keys.Last d notice.last
  pub firm : Has (IsWhole 0 most_permille) keys.Firm d notice.firm
  pub interruptible : Has (IsWhole 0 most_permille) keys.Interruptible d notice.interruptible

-- a NOMINT, as a message of its own is written
pub record IsDocument (d : Data) (document : Nomint) : Type 0 where
  pub kind : IsOfMessageKind NomintKind d
  pub fields : IsNomint d document

-- a cycle of a gas day
pub record IsCycleId (d : Data) (id : CycleId) : Type 0 where
  pub day : Has (IsText NamesDay) keys.Day d id.day
  pub cycle : Has (IsWhole 0 last_cycle) keys.Cycle d id.cycle

-- a rule by its number, the first where the key is missing
abbrev pub HasRule : Data → Rule → Type 0
HasRule d rule = HasOr 1 (IsWhole 1 2) keys.Rule d (rule_number rule)

-- the peer's table for the hours from first to last, its rows in any order
pub record IsPeerTable (d : Data) (peer : TableContents) : Type 0 where
  pub first : Has (IsWhole 1 last_hour) keys.First d peer.first
  pub last : Has (IsWhole peer.first last_hour) keys.Last d peer.last
  pub rows : HasTable most_processed_rows peer.first peer.last keys.Peer d peer

-- an object whose `fact` is the kind's name
abbrev pub IsOfKind : Kind → Data → Type 0
IsOfKind kind d = get (key_text keys.Fact) d ≡ Some (string (kind_text kind))

-- the value stands for the fact; keys that no field has mean nothing
abbrev pub IsFact : Data → Fact → Type 0
IsFact d (Contracted contract) = IsOfKind kinds.Contract d × IsContract d contract
IsFact d (Noticed notice) = IsOfKind kinds.Notice d × IsNotice d notice
IsFact d (Nominated document) = IsOfKind kinds.Nomination d × Has IsDocument keys.Nomint d document
IsFact d (Closed id rule) = IsOfKind kinds.Closed d × IsCycleId d id × HasRule d rule
IsFact d (Met id peer) = IsOfKind kinds.Met d × IsCycleId d id × IsPeerTable d peer

-- the bytes are JSON text of the fact, of any length
pub record Spells (bytes : List ℕ) (fact : Fact) : Type 0 where
  pub value : Data
  pub json : json_of bytes ≡ Some value
  pub stands : IsFact value fact

-- some value stands for the fact
abbrev pub IsWritable : Fact → Type 0
IsWritable fact = (d : Data) × IsFact d fact
