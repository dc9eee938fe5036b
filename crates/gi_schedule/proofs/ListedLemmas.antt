-- What a gas day's schedule lists: each hour that a confirmed cycle covers, and each pair for which one has a row.
use Rattle.std.proofs.Common.{◌≡◌, ◌<◌, ◌≤◌, ◌+◌, ℕ, zero, suc, List, [], ◌∷◌, ◌++◌, Bool, true, false, inl, inr, Option, Some, Ordering, Less, Equal, Greater, refl, sym, ap, ◌∙◌, arith, subst, nat_eq}
use Rattle.std.specs.Prelude.{if◌then◌else◌}
use Rattle.std.specs.BTreeSet.{insert_key}
use Rattle.std.specs.List.{flat_map, range_with_len}
use Rattle.std.specs.Ordering.{is_eq, match_ordering}
use Rattle.std.proofs.lemmas.Bool.Decides.{nat_tests}
use Rattle.jiff_core.specs.declared.civil.date.Date.{Date}
use Rattle.gi_pairs.specs.Key.{key_cmp}
use Rattle.gi_pairs.specs.Limits.{last_hour}
use Rattle.gi_pairs.specs.Row.{key_of}
use Rattle.gi_pairs.specs.Table.{TableContents}
use Rattle.gi_pairs.specs.declared.key.Key.{Key}
use Rattle.gi_pairs.specs.declared.row.Row.{Row}
use Rattle.gi_pairs.proofs.Building.{In, contains_from_in, in_from_contains}
use Rattle.gi_pairs.proofs.KeyOrder.{key_same}
use Rattle.gi_messages.specs.Limits.{last_cycle}
use Rattle.gi_schedule.specs.InForce.{Confirmed, cycle_in_force, cycle_of, hour_if, hours_in_force}
use Rattle.gi_schedule.specs.Keys.{day_keys, keys_before, keys_if, row_keys, with_each}
use Rattle.gi_schedule.specs.Laws.{ListsEachHour, ListsEachPair}
use Rattle.gi_schedule.specs.Wanted.{wants_pair}

-- ---- lists that are joined

pub in_first : {X : Type 0} (x : X) (xs ys : List X) → In x xs → In x (xs ++ ys)
in_first x [] ys h = absurd h
in_first x (y ∷ xs) ys (inl e) = inl e
in_first x (y ∷ xs) ys (inr h) = inr (in_first x xs ys h)

pub in_last : {X : Type 0} (x : X) (xs ys : List X) → In x ys → In x (xs ++ ys)
in_last x [] ys h = h
in_last x (y ∷ xs) ys h = inr (in_last x xs ys h)

-- what a number gives is among what the numbers from one on give
pub in_numbered : {X : Type 0} (x : X) (f : ℕ → List X) (from count n : ℕ) → from ≤ n → n < from + count → In x (f n) → In x (flat_map f (range_with_len from count))
in_numbered x f from zero n low high h = absurd (omega (arith, low, high))
in_numbered x f from (suc count) n low high h = by (nat_eq n from) refl (λ later. in_numbered x f (from + 1) count n later (omega (arith, high)) h)
  where
    by : (b : Bool) → nat_eq n from ≡ b → (from + 1 ≤ n → In x (flat_map f (range_with_len (from + 1) count))) → In x (f from ++ flat_map f (range_with_len (from + 1) count))
    by true is rest =
        let here : n ≡ from = grind (arith, nat_tests, is) in
        in_first x (f from) (flat_map f (range_with_len (from + 1) count)) (subst (λ m. In x (f m)) here h)
    by false is rest =
        let later : from + 1 ≤ n = grind (arith, nat_tests, is, low) in in_last x (f from) (flat_map f (range_with_len (from + 1) count)) (rest later)

-- ---- the hours

pub each_hour : ListsEachHour
unfolding hours_in_force
each_hour c day hour cycle low high is =
    contains_from_in (record { hour = hour; cycle = cycle }) (hours_in_force c day)
    (in_numbered (record { hour = hour; cycle = cycle }) (λ n. hour_if n (cycle_in_force c day n)) 1 last_hour hour low (omega (arith, high))
    (subst (λ (o : Option ℕ). In (record { hour = hour; cycle = cycle }) (hour_if hour o)) (sym is) (inl refl)))

-- ---- the pairs

in_inserted : (key : Key) (keys : List Key) → In key (insert_key key_cmp keys key)
in_inserted key [] = inl refl
in_inserted key (x ∷ keys) = by (key_cmp key x) refl (in_inserted key keys)
  where
    by : (o : Ordering) → key_cmp key x ≡ o → In key (insert_key key_cmp keys key)
        → In key (match_ordering o (key ∷ x ∷ keys) (x ∷ keys) (x ∷ insert_key key_cmp keys key))
    by Less is rest = inl refl
    by Equal is rest = inl (sym (key_same key x (ap is_eq is)))
    by Greater is rest = inr rest

in_kept : (other key : Key) (keys : List Key) → In other keys → In other (insert_key key_cmp keys key)
in_kept other key [] h = absurd h
in_kept other key (x ∷ keys) h = by (key_cmp key x) h (λ k. in_kept other key keys k)
  where
    by : (o : Ordering) → In other (x ∷ keys) → (In other keys → In other (insert_key key_cmp keys key))
        → In other (match_ordering o (key ∷ x ∷ keys) (x ∷ keys) (x ∷ insert_key key_cmp keys key))
    by Less h rest = inr h
    by Equal h rest = h
    by Greater (inl e) rest = inl e
    by Greater (inr k) rest = inr (rest k)

in_old : (key : Key) (keys others : List Key) → In key keys → In key (with_each keys others)
unfolding with_each
in_old key keys [] h = h
in_old key keys (other ∷ others) h = in_old key (insert_key key_cmp keys other) others (in_kept key other keys h)

pub in_added : (key : Key) (keys others : List Key) → In key others → In key (with_each keys others)
unfolding with_each
in_added key keys [] h = absurd h
in_added key keys (other ∷ others) (inl e) =
    in_old key (insert_key key_cmp keys other) others (subst (λ (k : Key). In k (insert_key key_cmp keys other)) e (in_inserted other keys))
in_added key keys (other ∷ others) (inr h) = in_added key (insert_key key_cmp keys other) others h

pub in_rows : (portfolio : Option (List ℕ)) (row : Row) (rows : List Row) → In row rows → wants_pair portfolio row.pair ≡ true → In (key_of row) (flat_map (row_keys portfolio) rows)
in_rows portfolio row [] h wanted = absurd h
in_rows portfolio row (x ∷ rows) (inl e) wanted =
    let wanted_too : wants_pair portfolio x.pair ≡ true = ap (λ (r : Row). wants_pair portfolio r.pair) e ∙ wanted in
    let here : In (key_of row) (row_keys portfolio x) = subst (λ b. In (key_of row) (if b then key_of x ∷ [] else [])) (sym wanted_too) (inl (ap key_of e)) in
    in_first (key_of row) (row_keys portfolio x) (flat_map (row_keys portfolio) rows) here
in_rows portfolio row (x ∷ rows) (inr h) wanted = in_last (key_of row) (row_keys portfolio x) (flat_map (row_keys portfolio) rows) (in_rows portfolio row rows h wanted)

-- a row of a confirmed cycle before another one
pub pair_before : (c : Confirmed) (portfolio : Option (List ℕ)) (day : Date) (end cycle : ℕ) (table : TableContents) (row : Row) → cycle < end → c (cycle_of day cycle) ≡ Some table
    → In row table.rows → wants_pair portfolio row.pair ≡ true → In (key_of row) (keys_before c portfolio day end)
pair_before c portfolio day end cycle table row low is there wanted =
    let of : ℕ → List Key = λ n. keys_if portfolio (c (cycle_of day n)) in
    let here : In (key_of row) (of cycle) =
    subst (λ (o : Option TableContents). In (key_of row) (keys_if portfolio o)) (sym is) (in_rows portfolio row table.rows there wanted) in
    in_added (key_of row) [] (flat_map of (range_with_len 0 end)) (in_numbered (key_of row) of 0 end cycle (omega arith) (omega (arith, low)) here)

pub each_pair : ListsEachPair
unfolding day_keys
each_pair c portfolio day cycle table row low is there wanted =
    contains_from_in (key_of row) (day_keys c portfolio day)
    (pair_before c portfolio day (last_cycle + 1) cycle table row (omega (arith, low)) is (in_from_contains row table.rows there) wanted)
