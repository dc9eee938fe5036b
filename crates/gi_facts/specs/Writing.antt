-- The one JSON text that is written for a fact: its keys in byte order.
use Rattle.std.specs.Prelude.{ℕ, List, [], Result, IfOk}
use Rattle.json.specs.Written.{Written}
use Rattle.serde_json.specs.Data.{Data, string, object, Members, no_members, member}
use Rattle.serde_json.specs.Written.{compact_text}
use Rattle.gi_day.specs.Day.{day_text}
use Rattle.gi_pairs.specs.Direction.{direction_text}
use Rattle.gi_pairs.specs.Table.{TableContents}
use Rattle.gi_pairs.specs.declared.cycle_id.CycleId.{CycleId}
use Rattle.gi_messages.specs.Adding.{Added, member_tokens}
use Rattle.gi_messages.specs.Key.{key_text}
use Rattle.gi_messages.specs.Writing.{whole, rows_data, nomint_data}
use Rattle.gi_messages.specs.declared.key.Key.TheVariants as keys
use Rattle.gi_messages.specs.declared.message.Nomint.{Nomint}
use Rattle.gi_processing.specs.declared.contract.Contract.{Contract}
use Rattle.gi_processing.specs.declared.notice.Notice.{Notice}
use Rattle.gi_processing.specs.declared.rule.Rule.{Rule}
use Rattle.gi_processing.specs.declared.rule.Rule.TheVariants as rules
use Rattle.gi_facts.specs.Kind.{kind_text}
use Rattle.gi_facts.specs.declared.kind.Kind.TheVariants as kinds
use Rattle.gi_facts.specs.declared.fact.Fact.{Fact}
use Rattle.gi_facts.specs.declared.fact.Fact.TheVariants as facts

unfoldable pub contract_data : Contract → Data
contract_data c =
    object (member (key_text keys.Day) (string (day_text c.day)) (member (key_text keys.Direction) (string (direction_text c.direction)) (member (key_text keys.Fact) (string (kind_text kinds.Contract))
    (member (key_text keys.Firm) (whole c.firm) (member (key_text keys.Interruptible) (whole c.interruptible) (member (key_text keys.Portfolio) (string c.portfolio) no_members))))))

unfoldable pub notice_data : Notice → Data
notice_data n =
    object (member (key_text keys.Day) (string (day_text n.day)) (member (key_text keys.Direction) (string (direction_text n.direction)) (member (key_text keys.Fact) (string (kind_text kinds.Notice))
    (member (key_text keys.Firm) (whole n.firm) (member (key_text keys.First) (whole n.first) (member (key_text keys.Interruptible) (whole n.interruptible) (member (key_text keys.Last) (whole n.last) no_members)))))))

unfoldable pub nomination_data : Nomint → Data
nomination_data document = object (member (key_text keys.Fact) (string (kind_text kinds.Nomination)) (member (key_text keys.Nomint) (nomint_data document) no_members))

-- a rule is written where it is not the first
abbrev pub rule_members : Rule → Members
rule_members rules.One = no_members
rule_members rules.Two = member (key_text keys.Rule) (whole 2) no_members

unfoldable pub closing_data : CycleId → Rule → Data
closing_data id rule =
    object (member (key_text keys.Cycle) (whole id.cycle) (member (key_text keys.Day) (string (day_text id.day)) (member (key_text keys.Fact) (string (kind_text kinds.Closed)) (rule_members rule))))

unfoldable pub meeting_data : CycleId → TableContents → Data
meeting_data id peer =
    object (member (key_text keys.Cycle) (whole id.cycle) (member (key_text keys.Day) (string (day_text id.day)) (member (key_text keys.Fact) (string (kind_text kinds.Met))
    (member (key_text keys.First) (whole peer.first) (member (key_text keys.Last) (whole peer.last) (member (key_text keys.Peer) (rows_data peer.rows) no_members))))))

abbrev pub data_of : Fact → Data
data_of (facts.Contracted contract) = contract_data contract
data_of (facts.Noticed notice) = notice_data notice
data_of (facts.Nominated document) = nomination_data document
data_of (facts.Closed id rule) = closing_data id rule
data_of (facts.Met id peer) = meeting_data id peer

-- the member of a rule is added, where it is not the first
abbrev pub AddsRule : {E : Type 0} → Result (Unit {0}) E → Written → Written → Rule → Type 0
AddsRule r old new rules.One = IfOk r (λ _. Added old new [])
AddsRule r old new rules.Two = IfOk r (λ _. Added old new (member_tokens keys.Rule (whole 2)))

-- with no spaces
unfoldable pub fact_text : Fact → List ℕ
fact_text fact = compact_text (data_of fact)
