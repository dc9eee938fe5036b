-- The explanation of a quantity as JSON lines: an object for each line of the text, in the same order and with the same numbers.
use Rattle.std.specs.Prelude.{ℕ, ◌-◌, List, [], ◌∷◌, ◌++◌, min, nat_le, Bool, false, true, is_some, if◌then◌else◌, Option, Some, None, unwrap_or, codes}
use Rattle.std.specs.List.{flat_map}
use Rattle.serde_json.specs.Data.{Data}
use Rattle.gi_pairs.specs.declared.side.Side.{Side}
use Rattle.gi_messages.specs.declared.line.Line.{Line}
use Rattle.gi_messages.specs.declared.message.Nomint.{Nomint}
use Rattle.gi_messages.specs.declared.nomination_line.NominationLine.{NominationLine}
use Rattle.gi_processing.specs.HoursLeft.{left_under}
use Rattle.gi_processing.specs.Reduction.{quantity_at}
use Rattle.gi_processing.specs.Rule.{rule_number}
use Rattle.gi_processing.specs.declared.contract.Contract.{Contract}
use Rattle.gi_processing.specs.declared.notice.Notice.{Notice}
use Rattle.gi_processing.specs.declared.rule.Rule.{Rule}
use Rattle.gi_processing.specs.declared.rule.Rule.TheVariants.{One, Two}
use Rattle.gi_facts.specs.declared.fact.Fact.{Fact}
use Rattle.gi_desk.specs.Machine.{DeskState}
use Rattle.gi_desk.specs.Queries.{told}
use Rattle.gi_exports.specs.Json.{line_of}
use Rattle.gi_explanations.specs.Basis.{asked_rule, nominated_line, standing_contract, standing_nomination, standing_notice}
use Rattle.gi_explanations.specs.JsonLines.{asked_data, closing_data, held_data, lesser_data, met_data, nominated_data, offered_data, reduced_data, served_data, state_data, summed_data, told_data}
use Rattle.gi_explanations.specs.Numbers.{numbers, own}
use Rattle.gi_explanations.specs.Outcome.{confirmed_quantity, line_in, peer_quantity}
use Rattle.gi_explanations.specs.Reduction.{amounts, available_quantity, is_covered, processed_quantity}
use Rattle.gi_explanations.specs.declared.numbers.Numbers.{Numbers}
use Rattle.gi_explanations.specs.declared.question.Question.{Question}
use Rattle.gi_explanations.specs.declared.reduction.Amounts.{Amounts}

-- the lines of these objects, one after the other
abbrev pub object_lines : List Data → List ℕ
object_lines objects = flat_map line_of objects

-- ---- what the quantity is made from

-- the quantity of the nomination's line, and by rule 2 its priority
abbrev pub shown_quantity : ℕ → Option NominationLine → Option ℕ
shown_quantity hour None = None
shown_quantity hour (Some line) = Some (quantity_at (hour - 1) line)

abbrev pub shown_priority : Rule → Option NominationLine → Option ℕ
shown_priority One line = None
shown_priority Two None = None
shown_priority Two (Some line) = Some line.priority

abbrev pub nomination_data : Rule → ℕ → ℕ → Option Nomint → Option NominationLine → Data
nomination_data rule number hour None line = nominated_data None None None None
nomination_data rule number hour (Some document) line =
    nominated_data (Some number) (shown_priority rule line) (shown_quantity hour line) (Some document.version)

abbrev pub contract_data : ℕ → Option Contract → Data
contract_data number None = held_data (codes "contract") None None None
contract_data number (Some contract) = held_data (codes "contract") (Some number) (Some contract.firm) (Some contract.interruptible)

abbrev pub notice_data : ℕ → Option Notice → Data
notice_data number None = held_data (codes "notice") None None None
notice_data number (Some notice) = held_data (codes "notice") (Some number) (Some notice.firm) (Some notice.interruptible)

abbrev pub basis_objects : Side → List Fact → Question → Numbers → List Data
basis_objects side facts q n =
    let document = standing_nomination side facts q in
    nomination_data (asked_rule facts q) n.nomination q.hour document (nominated_line side q document)
    ∷ contract_data n.contract (standing_contract side facts q) ∷ notice_data n.notice (standing_notice facts q) ∷ []

-- ---- how it is reduced

abbrev pub available_data : Option Contract → Option Notice → ℕ → Data
available_data None notice available = offered_data None None None None available
available_data (Some contract) notice available =
    offered_data (Some contract.firm) (Some (left_under notice).firm) (Some contract.interruptible) (Some (left_under notice).interruptible) available

abbrev pub priority_data : Option NominationLine → Amounts → Data
priority_data None a = served_data None None None
priority_data (Some line) a = served_data (Some a.nominated_before) (Some a.left) (Some line.priority)

-- by rule 1 there is no such line
abbrev pub priority_objects : Rule → Option NominationLine → Amounts → List Data
priority_objects One line a = []
priority_objects Two line a = priority_data line a ∷ []

-- why the processed quantity is so: all that is nominated is within what is left, or it is reduced
abbrev pub formula_data : Amounts → ℕ → Data
formula_data a quantity =
    if nat_le a.all a.left then reduced_data (Some a.all) None (Some a.left) quantity (codes "within") None
    else reduced_data (Some a.all) (Some a.before) (Some a.left) quantity (codes "reduced") (Some a.up_to)

abbrev pub processed_data : Bool → Option NominationLine → Amounts → ℕ → Data
processed_data false line a quantity = reduced_data None None None quantity (codes "hour not covered") None
processed_data true None a quantity = reduced_data None None None quantity (codes "no line") None
processed_data true (Some line) a quantity = formula_data a quantity

abbrev pub reduction_objects : Side → List Fact → Question → List Data
reduction_objects side facts q =
    let line = nominated_line side q (standing_nomination side facts q) in
    let a = amounts side facts q in
    available_data (standing_contract side facts q) (standing_notice facts q) (available_quantity side facts q)
    ∷ (priority_objects (asked_rule facts q) line a
    ++ (summed_data a.before a.up_to a.all ∷ processed_data (is_covered q) line a (processed_quantity side facts q) ∷ []))

-- ---- what became of it

abbrev pub frozen_data : Rule → Option ℕ → Data
frozen_data rule None = closing_data None None
frozen_data rule (Some number) = closing_data (Some number) (Some (rule_number rule))

abbrev pub peer_data : ℕ → Option ℕ → Data
peer_data number None = met_data None None
peer_data number (Some quantity) = met_data (Some number) (Some quantity)

abbrev pub lower_data : ℕ → Option ℕ → Data
lower_data processed None = lesser_data None None None
lower_data processed (Some peer) = lesser_data (Some peer) (Some processed) (Some (min processed peer))

abbrev pub confirmed_data : Bool → Option ℕ → Data
confirmed_data met (Some quantity) = state_data (Some quantity) (codes "confirmed")
confirmed_data true None = state_data None (codes "not saved")
confirmed_data false None = state_data None (codes "not met")

abbrev pub whom_told : List ℕ → Option Line → Option (List ℕ)
whom_told portfolio None = None
whom_told portfolio (Some line) = Some portfolio

abbrev pub outcome_objects : Side → DeskState → Question → Numbers → List Data
outcome_objects side s q n =
    let peer = peer_quantity s.facts q in
    frozen_data (asked_rule s.facts q) n.closing ∷ peer_data (unwrap_or n.meeting 0) peer ∷ lower_data (processed_quantity side s.facts q) peer
    ∷ confirmed_data (is_some peer) (confirmed_quantity side s q) ∷ told_data (whom_told (own side q) (line_in side q (told side s (own side q) q.id))) ∷ []

-- ---- all of them

unfoldable pub explanation_objects : Side → DeskState → Question → List Data
explanation_objects side s q =
    let n = numbers side s.facts q in asked_data side q ∷ (basis_objects side s.facts q n ++ (reduction_objects side s.facts q ++ outcome_objects side s q n))
