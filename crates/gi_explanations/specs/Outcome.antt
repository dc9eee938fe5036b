-- What became of the processed quantity: frozen, met by the peer's, confirmed, told.
use Rattle.std.specs.Prelude.{ℕ, List, ◌++◌, find, min, nat_eq, Bool, ◌&&◌, false, true, is_some, Option, Some, None, option_map, unwrap_or, codes}
use Rattle.std.specs.Fmt.{decimal}
use Rattle.std.specs.Str.{bytes_eq}
use Rattle.gi_pairs.specs.Direction.{place_of}
use Rattle.gi_pairs.specs.Table.{TableContents, reading}
use Rattle.gi_pairs.specs.declared.direction.Direction.{Direction}
use Rattle.gi_pairs.specs.declared.side.Side.{Side}
use Rattle.gi_messages.specs.declared.line.Line.{Line}
use Rattle.gi_messages.specs.declared.message.Nomres.{Nomres}
use Rattle.gi_processing.specs.declared.rule.Rule.{Rule}
use Rattle.gi_processing.specs.declared.rule.Rule.TheVariants.{One, Two}
use Rattle.gi_facts.specs.declared.fact.Fact.{Fact}
use Rattle.gi_desk.specs.History.{peer_of}
use Rattle.gi_desk.specs.Machine.{DeskState}
use Rattle.gi_desk.specs.Queries.{confirmed, told}
use Rattle.gi_explanations.specs.Basis.{asked_rule}
use Rattle.gi_explanations.specs.Numbers.{counterparty, own}
use Rattle.gi_explanations.specs.Reduction.{processed_quantity}
use Rattle.gi_explanations.specs.declared.numbers.Numbers.{Numbers}
use Rattle.gi_explanations.specs.declared.question.Question.{Question}

-- what a table, if there is one, has for the question
abbrev pub read_at : Question → TableContents → ℕ
read_at q table = reading table q.pair q.direction q.hour

-- the peer's quantity, and the confirmed one
abbrev pub peer_quantity : List Fact → Question → Option ℕ
peer_quantity facts q = option_map (read_at q) (peer_of q.id facts)

abbrev pub confirmed_quantity : Side → DeskState → Question → Option ℕ
confirmed_quantity side s q = option_map (read_at q) (confirmed side s q.id)

-- the line for the counterparty and direction of what the side's portfolio is told
abbrev pub is_told_line : List ℕ → Direction → Line → Bool
is_told_line code direction line = bytes_eq line.counterparty code && nat_eq (place_of line.direction) (place_of direction)

abbrev pub line_in : Side → Question → Option Nomres → Option Line
line_in side q None = None
line_in side q (Some nomres) = find (is_told_line (counterparty side q) q.direction) nomres.lines

-- `frozen fact 4`, and by rule 2 `frozen fact 4 rule 2`
abbrev pub frozen_line : Rule → Option ℕ → List ℕ
frozen_line rule None = codes "frozen not closed\n"
frozen_line One (Some number) = codes "frozen fact " ++ (decimal number ++ codes "\n")
frozen_line Two (Some number) = codes "frozen fact " ++ (decimal number ++ codes " rule 2\n")

-- `peer fact 5 quantity 7`
abbrev pub peer_line : ℕ → Option ℕ → List ℕ
peer_line number None = codes "peer not met\n"
peer_line number (Some quantity) = codes "peer fact " ++ (decimal number ++ (codes " quantity " ++ (decimal quantity ++ codes "\n")))

-- `lower of 10 and 7 = 7`
abbrev pub lower_line : ℕ → Option ℕ → List ℕ
lower_line processed None = codes "lower not met\n"
lower_line processed (Some peer) =
    codes "lower of " ++ (decimal processed ++ (codes " and " ++ (decimal peer ++ (codes " = " ++ (decimal (min processed peer) ++ codes "\n")))))

-- `confirmed 7`
abbrev pub confirmed_line : Bool → Option ℕ → List ℕ
confirmed_line met (Some quantity) = codes "confirmed " ++ (decimal quantity ++ codes "\n")
confirmed_line true None = codes "confirmed not saved\n"
confirmed_line false None = codes "confirmed not met\n"

-- `told A`
abbrev pub told_line : List ℕ → Option Line → List ℕ
told_line portfolio None = codes "told no one\n"
told_line portfolio (Some line) = codes "told " ++ (portfolio ++ codes "\n")

-- those lines
unfoldable pub outcome_lines : Side → DeskState → Question → Numbers → List ℕ
outcome_lines side s q n =
    let peer = peer_quantity s.facts q in
    frozen_line (asked_rule s.facts q) n.closing ++ (peer_line (unwrap_or n.meeting 0) peer ++ (lower_line (processed_quantity side s.facts q) peer
    ++ (confirmed_line (is_some peer) (confirmed_quantity side s q) ++ told_line (own side q) (line_in side q (told side s (own side q) q.id)))))
