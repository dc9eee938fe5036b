-- Which facts count for a quantity, and the numbers of facts, from 1.
use Rattle.std.specs.Prelude.{ℕ, ◌+◌, ◌-◌, List, length, reverse, Bool, false, if◌then◌else◌, Option, Some, None}
use Rattle.std.specs.List.{list_any}
use Rattle.std.specs.Option.{option_map_or}
use Rattle.jiff_core.specs.declared.civil.date.Date.{Date}
use Rattle.gi_pairs.specs.Pair.{code_at}
use Rattle.gi_pairs.specs.Side.{other}
use Rattle.gi_pairs.specs.declared.cycle_id.CycleId.{CycleId}
use Rattle.gi_pairs.specs.declared.direction.Direction.{Direction}
use Rattle.gi_pairs.specs.declared.side.Side.{Side}
use Rattle.gi_nominations.specs.Book.{is_of}
use Rattle.gi_processing.specs.Capacity.{covers, is_for}
use Rattle.gi_facts.specs.declared.fact.Fact.{Fact}
use Rattle.gi_desk.specs.History.{contract_in, document_in, facts_before, is_closing, is_meeting, notice_in, number_of}
use Rattle.gi_explanations.specs.declared.numbers.Numbers.{Numbers}
use Rattle.gi_explanations.specs.declared.question.Question.{Question}

-- the facts that count for a cycle: those before its closing, all where it is not closed
abbrev pub counting : List Fact → CycleId → List Fact
counting facts id = facts_before (is_closing id) facts

-- the pair's portfolio at a side, and its counterparty
abbrev pub own : Side → Question → List ℕ
own side q = code_at side q.pair

abbrev pub counterparty : Side → Question → List ℕ
counterparty side q = code_at (other side) q.pair

-- the fact takes a nomination of the portfolio and gas day
abbrev pub is_nomination : List ℕ → Date → Fact → Bool
is_nomination portfolio day fact = option_map_or (is_of portfolio day) (document_in fact) false

-- it records a contract of the portfolio, for the gas day and direction
abbrev pub is_contract : List ℕ → Date → Direction → Fact → Bool
is_contract portfolio day direction fact = option_map_or (is_for portfolio day direction) (contract_in fact) false

-- it records a notice for the gas day and direction that covers the hour
abbrev pub is_notice : Date → Direction → ℕ → Fact → Bool
is_notice day direction hour fact = option_map_or (covers day direction hour) (notice_in fact) false

-- the number of the first fact that is so, if one is
unfoldable pub first_number : (Fact → Bool) → List Fact → Option ℕ
first_number is facts = if list_any is facts then Some (number_of is facts) else None

-- the number of the last fact that is so, which is the first one from the end; 0 where none is
unfoldable pub last_number : (Fact → Bool) → List Fact → ℕ
last_number is facts = length facts + 1 - number_of is (reverse facts)

-- the numbers of all facts that a quantity comes from
unfoldable pub numbers : Side → List Fact → Question → Numbers
numbers side facts q = record {
  nomination = last_number (is_nomination (own side q) q.id.day) (counting facts q.id);
  contract = last_number (is_contract (own side q) q.id.day q.direction) (counting facts q.id);
  notice = last_number (is_notice q.id.day q.direction q.hour) (counting facts q.id);
  closing = first_number (is_closing q.id) facts;
  meeting = first_number (is_meeting q.id) facts;
}
