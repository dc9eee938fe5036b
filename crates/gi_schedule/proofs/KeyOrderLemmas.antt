-- Keys that are added one after the other stand in table order, each once; so do those of a gas day.
use Rattle.std.proofs.Common.{◌≡◌, ◌+◌, ℕ, List, [], ◌∷◌, Option, Ordering, Less, Equal, Greater, refl, ap, ◌∙◌}
use Rattle.std.specs.BTreeSet.{insert_key}
use Rattle.std.specs.List.{AllByRecursion, flat_map, range_with_len}
use Rattle.std.specs.List.Sorted.{IsStrictlySortedBy}
use Rattle.std.specs.Ordering.{match_ordering, ordering_reverse}
use Rattle.jiff_core.specs.declared.civil.date.Date.{Date}
use Rattle.gi_pairs.specs.Key.{key_cmp}
use Rattle.gi_pairs.specs.declared.key.Key.{Key}
use Rattle.gi_pairs.proofs.KeyOrder.{key_total}
use Rattle.gi_messages.specs.Limits.{last_cycle}
use Rattle.gi_schedule.specs.InForce.{Confirmed, cycle_of}
use Rattle.gi_schedule.specs.Keys.{day_keys, keys_before, keys_if, with_each}
use Rattle.gi_schedule.specs.Laws.{ListsEachPairOnce}

-- what is above one key is above each key below that
all_above : (k l : Key) (keys : List Key) → key_cmp k l ≡ Less → AllByRecursion (λ y. key_cmp l y ≡ Less) keys → AllByRecursion (λ y. key_cmp k y ≡ Less) keys
all_above k l [] less h = tt
all_above k l (m ∷ keys) less h = (key_total.trans k l m less h.0, all_above k l keys less h.1)

above_inserted : (x key : Key) (keys : List Key) → AllByRecursion (λ y. key_cmp x y ≡ Less) keys → key_cmp x key ≡ Less
    → AllByRecursion (λ y. key_cmp x y ≡ Less) (insert_key key_cmp keys key)
above_inserted x key [] all here = (here, tt)
above_inserted x key (y ∷ keys) all here = by (key_cmp key y) (above_inserted x key keys all.1 here)
  where
    by : (o : Ordering) → AllByRecursion (λ y. key_cmp x y ≡ Less) (insert_key key_cmp keys key)
        → AllByRecursion (λ y. key_cmp x y ≡ Less) (match_ordering o (key ∷ y ∷ keys) (y ∷ keys) (y ∷ insert_key key_cmp keys key))
    by Less rest = (here, all)
    by Equal rest = all
    by Greater rest = (all.0, rest)

sorted_inserted : (key : Key) (keys : List Key) → IsStrictlySortedBy key_cmp keys → IsStrictlySortedBy key_cmp (insert_key key_cmp keys key)
unfolding IsStrictlySortedBy
sorted_inserted key [] sorted = (tt, tt)
sorted_inserted key (y ∷ keys) sorted = by (key_cmp key y) refl (sorted_inserted key keys sorted.1)
  where
    by : (o : Ordering) → key_cmp key y ≡ o → IsStrictlySortedBy key_cmp (insert_key key_cmp keys key)
        → IsStrictlySortedBy key_cmp (match_ordering o (key ∷ y ∷ keys) (y ∷ keys) (y ∷ insert_key key_cmp keys key))
    by Less is rest = ((is, all_above key y keys is sorted.0), sorted)
    by Equal is rest = sorted
    by Greater is rest = (above_inserted y key keys sorted.0 (key_total.antisymm y key ∙ ap ordering_reverse is), rest)

sorted_with_each : (keys others : List Key) → IsStrictlySortedBy key_cmp keys → IsStrictlySortedBy key_cmp (with_each keys others)
unfolding with_each
sorted_with_each keys [] sorted = sorted
sorted_with_each keys (other ∷ others) sorted = sorted_with_each (insert_key key_cmp keys other) others (sorted_inserted other keys sorted)

sorted_none : IsStrictlySortedBy key_cmp []
unfolding IsStrictlySortedBy
sorted_none = tt

pub sorted_each : (keys : List Key) → IsStrictlySortedBy key_cmp (with_each [] keys)
sorted_each keys = sorted_with_each [] keys sorted_none

pub sorted_before : (c : Confirmed) (portfolio : Option (List ℕ)) (day : Date) (end : ℕ) → IsStrictlySortedBy key_cmp (keys_before c portfolio day end)
sorted_before c portfolio day end = sorted_each (flat_map (λ cycle. keys_if portfolio (c (cycle_of day cycle))) (range_with_len 0 end))

pub sorted_day : ListsEachPairOnce
unfolding day_keys
sorted_day c portfolio day = sorted_before c portfolio day (last_cycle + 1)
