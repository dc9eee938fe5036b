-- What is available to a portfolio in an hour: what its contract gives, cut by a notice (this project's profile).
use Rattle.std.specs.Prelude.{ℕ, ◌+◌, ◌*◌, ◌/◌, List, Bool, ◌&&◌, nat_eq, nat_le, find, reverse, Option, Some, None}
use Rattle.std.specs.List.{list_any}
use Rattle.std.specs.Cmp.Lexicographic.{pointwise}
use Rattle.std.specs.Ordering.{eq_of_both, on}
use Rattle.std.specs.Str.{bytes_eq}
use Rattle.jiff_core.specs.declared.civil.date.Date.{Date}
use Rattle.gi_day.specs.SameDay.{same_day}
use Rattle.gi_pairs.specs.Direction.{place_of}
use Rattle.gi_pairs.specs.declared.direction.Direction.{Direction}
use Rattle.gi_processing.specs.CapacityLimits.{most_permille}
use Rattle.gi_processing.specs.declared.contract.Contract.{Contract}
use Rattle.gi_processing.specs.declared.notice.Notice.{Notice}

-- contracts and notices, each list read from its end: all that is recorded, or what is kept of that
pub record Capacity : Type 0 where
  pub contracts : List Contract
  pub notices : List Notice

abbrev pub same_direction : Direction → Direction → Bool
same_direction a b = nat_eq (place_of a) (place_of b)

-- contracts and notices are equal where all their parts are
abbrev pub contract_eq : Contract → Contract → Bool
contract_eq =
    eq_of_both (on (λ c. c.portfolio) (pointwise nat_eq)) (eq_of_both (on (λ c. c.day) same_day)
    (eq_of_both (on (λ c. c.direction) same_direction) (eq_of_both (on (λ c. c.firm) nat_eq) (on (λ c. c.interruptible) nat_eq))))

abbrev pub notice_eq : Notice → Notice → Bool
notice_eq =
    eq_of_both (on (λ n. n.day) same_day) (eq_of_both (on (λ n. n.direction) same_direction) (eq_of_both (on (λ n. n.first) nat_eq)
    (eq_of_both (on (λ n. n.last) nat_eq) (eq_of_both (on (λ n. n.firm) nat_eq) (on (λ n. n.interruptible) nat_eq)))))

-- whether a contract is of the portfolio, for the day
abbrev pub is_of : List ℕ → Date → Contract → Bool
is_of portfolio day contract = bytes_eq contract.portfolio portfolio && same_day contract.day day

-- whether a contract is of the portfolio, for the day and the direction
abbrev pub is_for : List ℕ → Date → Direction → Contract → Bool
is_for portfolio day direction contract = is_of portfolio day contract && same_direction contract.direction direction

-- whether a notice is for the day and the direction, and covers the hour
abbrev pub covers : Date → Direction → ℕ → Notice → Bool
covers day direction hour notice =
    same_day notice.day day && same_direction notice.direction direction && nat_le notice.first hour && nat_le hour notice.last

-- the contract of a portfolio for a day and direction: the last one recorded stands
unfoldable pub contract_of : List ℕ → Date → Direction → List Contract → Option Contract
contract_of portfolio day direction contracts = find (is_for portfolio day direction) (reverse contracts)

-- the notice for an hour: the last one recorded that covers it stands
unfoldable pub notice_of : Date → Direction → ℕ → List Notice → Option Notice
notice_of day direction hour notices = find (covers day direction hour) (reverse notices)

-- so many thousandths of a quantity, rounded down
abbrev pub part : ℕ → ℕ → ℕ
part quantity permille = quantity * permille / most_permille

-- what a contract leaves at these numbers
abbrev pub parts : Contract → ℕ → ℕ → ℕ
parts contract firm interruptible = part contract.firm firm + part contract.interruptible interruptible

-- what a contract, if there is one, leaves under a notice, if there is one
abbrev pub left_of : Option Contract → Option Notice → ℕ
left_of None notice = 0
left_of (Some contract) None = parts contract most_permille most_permille
left_of (Some contract) (Some notice) = parts contract notice.firm notice.interruptible

-- Available to a portfolio in a direction and hour: the parts of the firm and of the interruptible quantity that the
-- notice leaves, 1000 thousandths of both where there is none, and 0 without a contract.
unfoldable pub available : List Contract → List Notice → List ℕ → Date → Direction → ℕ → ℕ
available contracts notices portfolio day direction hour =
    left_of (contract_of portfolio day direction contracts) (notice_of day direction hour notices)

-- a portfolio is known for a day where it has a contract for it, in either direction
unfoldable pub knows : List ℕ → Date → List Contract → Bool
knows portfolio day contracts = list_any (is_of portfolio day) contracts

-- whether there is a contract of the portfolio for the day and the direction
unfoldable pub has_contract : List ℕ → Date → Direction → List Contract → Bool
has_contract portfolio day direction contracts = list_any (is_for portfolio day direction) contracts

-- whether there is a notice for the day, the direction and the hour
unfoldable pub has_notice : Date → Direction → ℕ → List Notice → Bool
has_notice day direction hour notices = list_any (covers day direction hour) notices
