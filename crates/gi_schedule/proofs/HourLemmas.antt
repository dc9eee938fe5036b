-- The hours that a schedule lists stand in order, each once.
use Rattle.std.proofs.Common.{◌≡◌, ◌<◌, ◌+◌, ℕ, zero, suc, List, ◌++◌, map, Option, Some, None, Less, arith}
use Rattle.std.specs.List.{AllByRecursion, flat_map, range_with_len}
use Rattle.std.specs.List.Sorted.{IsStrictlySortedBy}
use Rattle.std.specs.Ordering.{nat_cmp}
use Rattle.std.proofs.lemmas.Bool.Decides.{nat_tests}
use Rattle.std.proofs.lemmas.Map.Keys.{IsStrictlyIncreasing-from_sorted}
use Rattle.gi_pairs.specs.Limits.{last_hour}
use Rattle.gi_schedule.specs.InForce.{cycle_in_force, hour_if, hours_in_force}
use Rattle.gi_schedule.specs.Laws.{ListsEachHourOnce}
use Rattle.gi_schedule.specs.declared.hour_in_force.HourInForce.{HourInForce}

-- the hours, of those from one on, for which there is a cycle
abbrev numbers_from : (ℕ → Option ℕ) → ℕ → ℕ → List ℕ
numbers_from cycle from count = map (λ (at : HourInForce). at.hour) (flat_map (λ hour. hour_if hour (cycle hour)) (range_with_len from count))

less : (m n : ℕ) → m < n → nat_cmp m n ≡ Less
less m n below = grind (arith, nat_tests, below)

all_above : (cycle : ℕ → Option ℕ) (low from count : ℕ) → low < from → AllByRecursion (λ n. nat_cmp low n ≡ Less) (numbers_from cycle from count)
all_above cycle low from zero below = tt
all_above cycle low from (suc count) below = by (cycle from) (all_above cycle low (from + 1) count (omega (arith, below)))
  where
    by : (o : Option ℕ) → AllByRecursion (λ n. nat_cmp low n ≡ Less) (numbers_from cycle (from + 1) count)
        → AllByRecursion (λ n. nat_cmp low n ≡ Less) (map (λ (at : HourInForce). at.hour) (hour_if from o ++ flat_map (λ hour. hour_if hour (cycle hour)) (range_with_len (from + 1) count)))
    by None rest = rest
    by (Some n) rest = (less low from below, rest)

sorted_from : (cycle : ℕ → Option ℕ) (from count : ℕ) → IsStrictlySortedBy nat_cmp (numbers_from cycle from count)
unfolding IsStrictlySortedBy
sorted_from cycle from zero = tt
sorted_from cycle from (suc count) = by (cycle from) (sorted_from cycle (from + 1) count)
  where
    by : (o : Option ℕ) → IsStrictlySortedBy nat_cmp (numbers_from cycle (from + 1) count)
        → IsStrictlySortedBy nat_cmp (map (λ (at : HourInForce). at.hour) (hour_if from o ++ flat_map (λ hour. hour_if hour (cycle hour)) (range_with_len (from + 1) count)))
    by None rest = rest
    by (Some n) rest = (all_above cycle from (from + 1) count (omega arith), rest)

pub sorted_hours : ListsEachHourOnce
unfolding hours_in_force
sorted_hours c day = IsStrictlyIncreasing-from_sorted (numbers_from (cycle_in_force c day) 1 last_hour) (sorted_from (cycle_in_force c day) 1 last_hour)
