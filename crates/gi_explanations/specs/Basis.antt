-- What a quantity is made from: the nomination in force, the contract and the notice that stand, by the facts that count.
use Rattle.std.specs.Prelude.{ℕ, ◌-◌, List, ◌++◌, if◌then◌else◌, Option, Some, None, codes}
use Rattle.std.specs.Fmt.{decimal}
use Rattle.gi_day.specs.Day.{day_text}
use Rattle.gi_pairs.specs.Direction.{direction_text}
use Rattle.gi_pairs.specs.Side.{side_text}
use Rattle.gi_pairs.specs.declared.side.Side.{Side}
use Rattle.gi_messages.specs.declared.nomination_line.NominationLine.{NominationLine}
use Rattle.gi_messages.specs.declared.message.Nomint.{Nomint}
use Rattle.gi_nominations.specs.Book.{in_force}
use Rattle.gi_processing.specs.Capacity.{Capacity, contract_of, notice_of}
use Rattle.gi_processing.specs.Processing.{lines_of}
use Rattle.gi_processing.specs.Reduction.{quantity_at}
use Rattle.gi_processing.specs.declared.contract.Contract.{Contract}
use Rattle.gi_processing.specs.declared.notice.Notice.{Notice}
use Rattle.gi_processing.specs.declared.rule.Rule.{Rule}
use Rattle.gi_processing.specs.declared.rule.Rule.TheVariants.{One, Two}
use Rattle.gi_facts.specs.declared.fact.Fact.{Fact}
use Rattle.gi_desk.specs.History.{capacity_of, documents_of, is_closed, rule_of}
use Rattle.gi_explanations.specs.Numbers.{counterparty, counting, own}
use Rattle.gi_explanations.specs.Sums.{line_for}
use Rattle.gi_explanations.specs.declared.numbers.Numbers.{Numbers}
use Rattle.gi_explanations.specs.declared.question.Question.{Question}

-- the contracts and notices that count, and the nominations
abbrev pub counted_capacity : List Fact → Question → Capacity
counted_capacity facts q = capacity_of (counting facts q.id)

abbrev pub counted_documents : List Fact → Question → List Nomint
counted_documents facts q = documents_of (counting facts q.id)

-- the rule: that of the closing, and rule 2 where the cycle is not closed
abbrev pub asked_rule : List Fact → Question → Rule
asked_rule facts q = if is_closed q.id facts then rule_of q.id facts else Two

-- the nomination in force, the contract and the notice
abbrev pub standing_nomination : Side → List Fact → Question → Option Nomint
standing_nomination side facts q = in_force (own side q) q.id.day (counted_documents facts q)

abbrev pub standing_contract : Side → List Fact → Question → Option Contract
standing_contract side facts q = contract_of (own side q) q.id.day q.direction (counted_capacity facts q).contracts

abbrev pub standing_notice : List Fact → Question → Option Notice
standing_notice facts q = notice_of q.id.day q.direction q.hour (counted_capacity facts q).notices

-- the nomination's line for the counterparty and the direction
abbrev pub nominated_line : Side → Question → Option Nomint → Option NominationLine
nominated_line side q document = line_for (counterparty side q) q.direction (lines_of document)

-- `explain I A B IM 2026-01-15 35 24`
abbrev pub asked_line : Side → Question → List ℕ
asked_line side q =
    codes "explain " ++ (side_text side ++ (codes " " ++ (q.pair.initiating ++ (codes " " ++ (q.pair.matching ++ (codes " "
    ++ (direction_text q.direction ++ (codes " " ++ (day_text q.id.day ++ (codes " " ++ (decimal q.id.cycle ++ (codes " "
    ++ (decimal q.hour ++ codes "\n")))))))))))))

-- ` quantity 10`, and by rule 2 ` quantity 10 priority 5`
abbrev pub nominated_words : Rule → ℕ → Option NominationLine → List ℕ
nominated_words rule hour None = codes " no line"
nominated_words One hour (Some line) = codes " quantity " ++ decimal (quantity_at (hour - 1) line)
nominated_words Two hour (Some line) = codes " quantity " ++ (decimal (quantity_at (hour - 1) line) ++ (codes " priority " ++ decimal line.priority))

-- `nomination fact 3 version 1 quantity 10 priority 5`
abbrev pub nomination_line : Rule → ℕ → ℕ → Option Nomint → Option NominationLine → List ℕ
nomination_line rule number hour None line = codes "nomination none\n"
nomination_line rule number hour (Some document) line =
    codes "nomination fact " ++ (decimal number ++ (codes " version " ++ (decimal document.version ++ (nominated_words rule hour line ++ codes "\n"))))

-- `contract fact 1 firm 1000 interruptible 0`
abbrev pub contract_line : ℕ → Option Contract → List ℕ
contract_line number None = codes "contract none\n"
contract_line number (Some contract) =
    codes "contract fact " ++ (decimal number ++ (codes " firm " ++ (decimal contract.firm ++ (codes " interruptible " ++ (decimal contract.interruptible ++ codes "\n")))))

-- `notice fact 2 firm 900 interruptible 0`
abbrev pub notice_line : ℕ → Option Notice → List ℕ
notice_line number None = codes "notice none\n"
notice_line number (Some notice) =
    codes "notice fact " ++ (decimal number ++ (codes " firm " ++ (decimal notice.firm ++ (codes " interruptible " ++ (decimal notice.interruptible ++ codes "\n")))))

-- those lines
unfoldable pub basis_lines : Side → List Fact → Question → Numbers → List ℕ
basis_lines side facts q n =
    let document = standing_nomination side facts q in
    nomination_line (asked_rule facts q) n.nomination q.hour document (nominated_line side q document)
    ++ (contract_line n.contract (standing_contract side facts q) ++ notice_line n.notice (standing_notice facts q))
