-- Which fact bytes are. An error on the way is the key of a field that is missing or wrong.
use Rattle.std.specs.Prelude.{◌≡◌, ℕ, List, Option, Some, None, option_and_then, Result, Ok, Err}
use Rattle.std.specs.Result.{result_ok}
use Rattle.serde_json.specs.Data.{Data}
use Rattle.gi_pairs.specs.Limits.{most_processed_rows}
use Rattle.gi_pairs.specs.Quantity.{most_quantity}
use Rattle.gi_pairs.specs.Table.{TableContents}
use Rattle.gi_pairs.specs.declared.cycle_id.CycleId.{CycleId}
use Rattle.gi_messages.specs.Decoding.{nomint, kind_of as message_kind_of}
use Rattle.gi_messages.specs.Json.{json_of}
use Rattle.gi_messages.specs.Limits.{last_cycle}
use Rattle.gi_messages.specs.Reading.{Read, ◌>>=◌, wanted, member_at, text, code, day, direction, number, number_or, span, table}
use Rattle.gi_messages.specs.declared.key.Key.TheVariants.{Portfolio, Day, Direction, Cycle, Fact as FactKey, Nomint as NomintKey, Firm, Interruptible, Peer, Rule as RuleKey}
use Rattle.gi_messages.specs.declared.kind.Kind.{Kind as MessageKind}
use Rattle.gi_messages.specs.declared.kind.Kind.TheVariants as messages
use Rattle.gi_messages.specs.declared.message.Nomint.{Nomint}
use Rattle.gi_processing.specs.CapacityLimits.{most_permille}
use Rattle.gi_processing.specs.declared.contract.Contract.{Contract}
use Rattle.gi_processing.specs.declared.notice.Notice.{Notice}
use Rattle.gi_processing.specs.declared.rule.Rule.{Rule}
use Rattle.gi_processing.specs.Rule.{rule_numbered}
use Rattle.gi_facts.specs.Kind.{kind_named}
use Rattle.gi_facts.specs.declared.kind.Kind.{Kind}
use Rattle.gi_facts.specs.declared.kind.Kind.TheVariants as kinds
use Rattle.gi_facts.specs.declared.fact.Fact.{Fact}
use Rattle.gi_facts.specs.declared.fact.Fact.TheVariants as facts
use Rattle.gi_facts.specs.declared.fact_fault.FactFault.{FactFault}
use Rattle.gi_facts.specs.declared.fact_fault.FactFault.TheVariants.{NotAFact, OutOfMemory}

-- the fields of each kind
unfoldable pub contract : Data → Read Contract
contract d = do
  portfolio ← code Portfolio d
  date ← day Day d
  direction ← direction Direction d
  firm ← number 0 most_quantity Firm d
  interruptible ← number 0 most_quantity Interruptible d
  Ok (record { portfolio = portfolio; day = date; direction = direction; firm = firm; interruptible = interruptible })

unfoldable pub notice : Data → Read Notice
notice d = do
  date ← day Day d
  direction ← direction Direction d
  span ← span d
  firm ← number 0 most_permille Firm d
  interruptible ← number 0 most_permille Interruptible d
  Ok (record { day = date; direction = direction; first = span.first; last = span.last; firm = firm; interruptible = interruptible })

-- a NOMINT names its kind
abbrev pub if_nomint : Option MessageKind → Read Nomint → Read Nomint
if_nomint (Some messages.Nomint) read = read
if_nomint other read = Err NomintKey

abbrev pub document_of : Data → Read Nomint
document_of d = if_nomint (message_kind_of d) (nomint d)

unfoldable pub document : Data → Read Nomint
document d = member_at NomintKey d >>= document_of

unfoldable pub cycle_id : Data → Read CycleId
cycle_id d = do
  date ← day Day d
  cycle ← number 0 last_cycle Cycle d
  Ok (record { day = date; cycle = cycle })

-- the rule of the number that is named, or the first where none is
unfoldable pub rule : Data → Read Rule
rule d = do
  number ← number_or 1 1 2 RuleKey d
  wanted RuleKey (rule_numbered number)

unfoldable pub closing : Data → Read Fact
closing d = do
  id ← cycle_id d
  rule ← rule d
  Ok (facts.Closed id rule)

unfoldable pub peer_table : Data → Read TableContents
peer_table d = do
  span ← span d
  table Peer most_processed_rows span.first span.last d

unfoldable pub meeting : Data → Read Fact
meeting d = do
  id ← cycle_id d
  peer ← peer_table d
  Ok (facts.Met id peer)

-- the kind that an object names
unfoldable pub kind : Data → Read Kind
kind d = do
  name ← text FactKey d
  wanted FactKey (kind_named name)

-- a fact of the kind
abbrev pub of_kind : Kind → Data → Read Fact
of_kind kinds.Contract d = contract d >>= λ found. Ok (facts.Contracted found)
of_kind kinds.Notice d = notice d >>= λ found. Ok (facts.Noticed found)
of_kind kinds.Nomination d = document d >>= λ found. Ok (facts.Nominated found)
of_kind kinds.Closed d = closing d
of_kind kinds.Met d = meeting d

unfoldable pub fact : Data → Read Fact
fact d = do
  kind ← kind d
  of_kind kind d

-- the fact that a value is, and the fact that bytes are
abbrev pub of_value : Data → Option Fact
of_value d = result_ok (fact d)

unfoldable pub fact_of : List ℕ → Option Fact
fact_of bytes = option_and_then of_value (json_of bytes)

-- What is answered, unless memory runs out: the fact where there is one, else that there is none.
abbrev pub Gives : Result Fact FactFault → Option Fact → Type 0
Gives (Ok fact) found = found ≡ Some fact
Gives (Err NotAFact) found = found ≡ None
Gives (Err OutOfMemory) found = Unit {0}
