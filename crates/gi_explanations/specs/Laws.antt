-- What holds of every explanation that a desk gives. The first two laws ask for facts that are legal and can be written, as
-- every desk's are.
use Rattle.std.specs.Prelude.{◌≡◌, ℕ, ◌+◌, ◌-◌, ◌*◌, ◌/◌, min, IfSome, List, true, false, None, Some, is_some}
use Rattle.std.specs.Option.{option_and_then, option_map_or}
use Rattle.gi_pairs.specs.Table.{TableContents}
use Rattle.gi_pairs.specs.declared.side.Side.{Side}
use Rattle.gi_messages.specs.declared.nomination_line.NominationLine.{NominationLine}
use Rattle.gi_processing.specs.HoursLeft.{left_under}
use Rattle.gi_processing.specs.Reduction.{quantity_at}
use Rattle.gi_processing.specs.declared.contract.Contract.{Contract}
use Rattle.gi_processing.specs.declared.rule.Rule.TheVariants.{One}
use Rattle.gi_facts.specs.declared.fact.Fact.{Fact}
use Rattle.gi_desk.specs.History.{contract_in, document_in, frozen_table, is_closed, is_closing, notice_in, peer_in, peer_of, rule_in}
use Rattle.gi_desk.specs.Machine.{DeskState, bad_fact}
use Rattle.gi_desk.specs.Queries.{confirmed, fact_at}
use Rattle.gi_desk.specs.Writable.{FitsDesk}
use Rattle.gi_explanations.specs.Basis.{asked_rule, nominated_line, standing_contract, standing_nomination, standing_notice}
use Rattle.gi_explanations.specs.Numbers.{numbers}
use Rattle.gi_explanations.specs.Outcome.{peer_quantity, read_at}
use Rattle.gi_explanations.specs.Reduction.{amounts, available_quantity, is_covered, processed_quantity, reduced}
use Rattle.gi_explanations.specs.declared.numbers.Numbers.{Numbers}
use Rattle.gi_explanations.specs.declared.question.Question.{Question}

-- The processed quantity of a closed cycle, which the formula makes of the nomination, the contract and the notice that
-- counted, is what the frozen table reads.
abbrev pub ExplainsTheFrozen : Type 0
ExplainsTheFrozen =
    (side : Side) (point : List ℕ) (facts : List Fact) (q : Question) → bad_fact side point facts ≡ None → FitsDesk side point facts
    → is_closed q.id facts ≡ true → processed_quantity side facts q ≡ read_at q (frozen_table side facts q.id)

-- The confirmed quantity is the lower of the processed one and the peer's.
abbrev pub ExplainsTheConfirmed : Type 0
ExplainsTheConfirmed =
    (side : Side) (s : DeskState) (q : Question) (table : TableContents) → bad_fact side s.point s.facts ≡ None → FitsDesk side s.point s.facts
    → confirmed side s q.id ≡ Some table
    → (peer : ℕ) × (peer_quantity s.facts q ≡ Some peer) × (read_at q table ≡ min (processed_quantity side s.facts q) peer)

-- What is available is made of the contract's quantities and the thousandths that the notice leaves, as they are shown.
abbrev pub ExplainsTheAvailable : Type 0
ExplainsTheAvailable =
    (side : Side) (facts : List Fact) (q : Question) (contract : Contract) → standing_contract side facts q ≡ Some contract
    → available_quantity side facts q
    ≡ contract.firm * (left_under (standing_notice facts q)).firm / 1000 + contract.interruptible * (left_under (standing_notice facts q)).interruptible / 1000

-- What is left is what is available less what the lines of lower numbers nominate, as they are shown.
abbrev pub ExplainsTheLeft : Type 0
ExplainsTheLeft = (side : Side) (facts : List Fact) (q : Question) → (amounts side facts q).left ≡ available_quantity side facts q - (amounts side facts q).nominated_before

-- The processed quantity of a covered hour is what the formula makes of the nominated quantity, of what is left and of the
-- sums, as they are shown.
abbrev pub ExplainsTheProcessed : Type 0
ExplainsTheProcessed =
    (side : Side) (facts : List Fact) (q : Question) (line : NominationLine) → is_covered q ≡ true → nominated_line side q (standing_nomination side facts q) ≡ Some line
    → processed_quantity side facts q ≡ reduced (amounts side facts q) (quantity_at (q.hour - 1) line)

-- The numbers that are shown are those of the facts that say it: the nomination, the contract and the notice that stand, the
-- closing, with its rule, where the cycle is closed, and the meeting where it has met the peer's table.
pub record NamesTheFacts (side : Side) (facts : List Fact) (q : Question) (n : Numbers) : Type 0 where
  pub nomination : option_and_then document_in (fact_at facts n.nomination) ≡ standing_nomination side facts q
  pub contract : option_and_then contract_in (fact_at facts n.contract) ≡ standing_contract side facts q
  pub notice : option_and_then notice_in (fact_at facts n.notice) ≡ standing_notice facts q
  pub closed : is_some n.closing ≡ is_closed q.id facts
  pub closing : IfSome n.closing (λ number. option_map_or (is_closing q.id) (fact_at facts number) false ≡ true)
  pub rule : IfSome n.closing (λ number. option_map_or rule_in (fact_at facts number) One ≡ asked_rule facts q)
  pub met : is_some n.meeting ≡ is_some (peer_of q.id facts)
  pub meeting : IfSome n.meeting (λ number. option_and_then (peer_in q.id) (fact_at facts number) ≡ peer_of q.id facts)

abbrev pub ExplainsByFacts : Type 0
ExplainsByFacts = (side : Side) (facts : List Fact) (q : Question) → NamesTheFacts side facts q (numbers side facts q)
