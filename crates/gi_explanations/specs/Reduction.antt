-- How the processed quantity is made from that.
use Rattle.std.specs.Prelude.{ℕ, ◌-◌, ◌*◌, ◌/◌, List, [], ◌++◌, Bool, false, true, ◌&&◌, nat_le, nat_lt, if◌then◌else◌, Option, Some, None, codes}
use Rattle.std.specs.Fmt.{decimal}
use Rattle.jiff_core.specs.declared.civil.date.Date.{Date}
use Rattle.gi_day.specs.Cycles.{cycle_count, first_hour, hour_count}
use Rattle.gi_pairs.specs.declared.side.Side.{Side}
use Rattle.gi_messages.specs.declared.nomination_line.NominationLine.{NominationLine}
use Rattle.gi_processing.specs.HoursLeft.{left_under}
use Rattle.gi_processing.specs.Processing.{available_to, lines_of, processed_in}
use Rattle.gi_processing.specs.Reduction.{in_direction, sum_before, sum_up_to, total}
use Rattle.gi_processing.specs.declared.contract.Contract.{Contract}
use Rattle.gi_processing.specs.declared.notice.Notice.{Notice}
use Rattle.gi_processing.specs.declared.rule.Rule.{Rule}
use Rattle.gi_processing.specs.declared.rule.Rule.TheVariants.{One, Two}
use Rattle.gi_facts.specs.declared.fact.Fact.{Fact}
use Rattle.gi_explanations.specs.Basis.{asked_rule, counted_capacity, nominated_line, standing_contract, standing_nomination, standing_notice}
use Rattle.gi_explanations.specs.Numbers.{counterparty, own}
use Rattle.gi_explanations.specs.Sums.{sharing_with, sum_served_before}
use Rattle.gi_explanations.specs.declared.question.Question.{Question}
use Rattle.gi_explanations.specs.declared.reduction.Amounts.{Amounts}

-- the gas day has the cycle, and the cycle covers the hour
abbrev pub covers_hour : Date → ℕ → ℕ → Bool
covers_hour day cycle hour = nat_lt cycle (cycle_count day) && nat_le (first_hour day cycle) hour && nat_le hour (hour_count day)

abbrev pub is_covered : Question → Bool
is_covered q = covers_hour q.id.day q.id.cycle q.hour

-- what is available
abbrev pub available_quantity : Side → List Fact → Question → ℕ
available_quantity side facts q = available_to (counted_capacity facts q) (own side q) q.id.day q.direction q.hour

-- what the lines served before the asked one leave, and the sums of those that share it
abbrev pub amounts_of : Rule → Option NominationLine → ℕ → List ℕ → ℕ → List NominationLine → Amounts
amounts_of rule line available code index lines = record {
  available = available;
  nominated_before = sum_served_before rule line index lines;
  left = available - sum_served_before rule line index lines;
  before = sum_before code index (sharing_with rule line lines);
  up_to = sum_up_to code index (sharing_with rule line lines);
  all = total index (sharing_with rule line lines);
}

abbrev pub amounts : Side → List Fact → Question → Amounts
amounts side facts q =
    amounts_of (asked_rule facts q) (nominated_line side q (standing_nomination side facts q)) (available_quantity side facts q) (counterparty side q) (q.hour - 1)
    (in_direction q.direction (lines_of (standing_nomination side facts q)))

-- The processed quantity: that of the nomination's line, and 0 where it has none, or the hour is not covered.
abbrev pub processed_line_by : Rule → Side → List Fact → Question → Option NominationLine → ℕ
processed_line_by rule side facts q None = 0
processed_line_by rule side facts q (Some line) =
    processed_in rule (counted_capacity facts q) (own side q) q.id.day (lines_of (standing_nomination side facts q)) line q.hour

abbrev pub processed_line_quantity : Side → List Fact → Question → Option NominationLine → ℕ
processed_line_quantity side facts q line = processed_line_by (asked_rule facts q) side facts q line

unfoldable pub processed_quantity : Side → List Fact → Question → ℕ
processed_quantity side facts q =
    if is_covered q then processed_line_quantity side facts q (nominated_line side q (standing_nomination side facts q)) else 0

-- a nominated quantity's part of what is available, from these numbers
abbrev pub reduced : Amounts → ℕ → ℕ
reduced a nominated = if nat_le a.all a.left then nominated else a.left * a.up_to / a.all - a.left * a.before / a.all

-- `available 1000 * 900 / 1000 + 0 * 0 / 1000 = 900`
abbrev pub available_line : Option Contract → Option Notice → ℕ → List ℕ
available_line None notice available = codes "available no contract = 0\n"
available_line (Some contract) notice available =
    codes "available " ++ (decimal contract.firm ++ (codes " * " ++ (decimal (left_under notice).firm ++ (codes " / 1000 + "
    ++ (decimal contract.interruptible ++ (codes " * " ++ (decimal (left_under notice).interruptible ++ (codes " / 1000 = "
    ++ (decimal available ++ codes "\n")))))))))

-- by rule 2 `priority 5 before 60 left 40`
abbrev pub priority_line : Rule → Option NominationLine → Amounts → List ℕ
priority_line One line a = []
priority_line Two None a = codes "priority none\n"
priority_line Two (Some line) a =
    codes "priority " ++ (decimal line.priority ++ (codes " before " ++ (decimal a.nominated_before ++ (codes " left " ++ (decimal a.left ++ codes "\n")))))

-- `sums before 0 up to 10 all 10`
abbrev pub sums_line : Amounts → List ℕ
sums_line a =
    codes "sums before " ++ (decimal a.before ++ (codes " up to " ++ (decimal a.up_to ++ (codes " all " ++ (decimal a.all ++ codes "\n")))))

-- `all 10 within 900`, and `20 * 40 / 40 - 20 * 10 / 40`
abbrev pub formula : Amounts → List ℕ
formula a =
    if nat_le a.all a.left then codes "all " ++ (decimal a.all ++ (codes " within " ++ decimal a.left))
    else decimal a.left ++ (codes " * " ++ (decimal a.up_to ++ (codes " / " ++ (decimal a.all ++ (codes " - "
    ++ (decimal a.left ++ (codes " * " ++ (decimal a.before ++ (codes " / " ++ decimal a.all)))))))))

abbrev pub reason : Bool → Option NominationLine → Amounts → List ℕ
reason false line a = codes "hour not covered"
reason true None a = codes "no line"
reason true (Some line) a = formula a

-- `processed all 10 within 900 = 10`
abbrev pub processed_line : Bool → Option NominationLine → Amounts → ℕ → List ℕ
processed_line covered line a quantity = codes "processed " ++ (reason covered line a ++ (codes " = " ++ (decimal quantity ++ codes "\n")))

-- those lines
unfoldable pub reduction_lines : Side → List Fact → Question → List ℕ
reduction_lines side facts q =
    available_line (standing_contract side facts q) (standing_notice facts q) (available_quantity side facts q)
    ++ (priority_line (asked_rule facts q) (nominated_line side q (standing_nomination side facts q)) (amounts side facts q)
    ++ (sums_line (amounts side facts q)
    ++ processed_line (is_covered q) (nominated_line side q (standing_nomination side facts q)) (amounts side facts q) (processed_quantity side facts q)))
