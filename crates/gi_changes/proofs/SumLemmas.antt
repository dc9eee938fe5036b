-- All changes of a pair and a direction in an hour together.
use Rattle.std.proofs.Common.{◌≡◌, ◌<◌, ◌≤◌, ◌+◌, ℕ, zero, suc, ℤ, pos, ◌+ℤ◌, ◌-ℤ◌, List, [], ◌∷◌, ◌++◌, All, Bool, true, false, ◌&&◌, ◌||◌, inl, inr, Option, Some, None, Less, refl, sym, ap, ◌∙◌, arith, subst, nat_eq, nat_le, find}
use Rattle.std.specs.Prelude.{if◌then◌else◌}
use Rattle.std.specs.List.{AllByRecursion, flat_map, list_any, range_with_len}
use Rattle.std.specs.List.Sorted.{IsStrictlySortedBy}
use Rattle.std.specs.Ordering.{is_eq}
use Rattle.std.proofs.lemmas.Bool.{and_parts}
use Rattle.std.proofs.lemmas.Bool.Decides.{nat_tests}
use Rattle.std.proofs.lemmas.Int.{ints}
use Rattle.std.proofs.lemmas.List.Elements.{All-weaker}
use Rattle.jiff_core.specs.declared.civil.date.Date.{Date}
use Rattle.gi_pairs.specs.Key.{key_cmp}
use Rattle.gi_pairs.specs.Row.{key_of}
use Rattle.gi_pairs.specs.Table.{TableContents, covered, is_at, reading}
use Rattle.gi_pairs.specs.declared.cycle_id.CycleId.{CycleId}
use Rattle.gi_pairs.specs.declared.key.Key.{Key}
use Rattle.gi_pairs.specs.declared.row.Row.{Row}
use Rattle.gi_pairs.specs.declared.side.Side.{Side}
use Rattle.gi_pairs.proofs.Building.{In}
use Rattle.gi_pairs.proofs.KeyOrder.{key_flips, key_refl, key_same}
use Rattle.gi_pairs.proofs.Members.{found_is}
use Rattle.gi_pairs.proofs.Reading.{reading-missed}
use Rattle.gi_messages.specs.Limits.{last_cycle}
use Rattle.gi_desk.specs.Queries.{confirmed}
use Rattle.gi_schedule.specs.InForce.{Confirmed, covers, cycle_in_force, cycle_of, hours_in_force, is_covered, last_below, quantity_in, quantity_of}
use Rattle.gi_schedule.specs.Keys.{keys_before}
use Rattle.gi_schedule.specs.Wanted.{wants_pair}
use Rattle.gi_schedule.specs.declared.hour_in_force.HourInForce.{HourInForce}
use Rattle.gi_schedule.proofs.InForceLemmas.{hours_are_in_force, last_apart, last_passes, last_stays, none_below}
use Rattle.gi_schedule.proofs.KeyOrderLemmas.{sorted_before}
use Rattle.gi_schedule.proofs.ListedLemmas.{pair_before}
use Rattle.gi_changes.specs.Changes.{changes, changes_if, cycle_changes, if_changed, key_changes, keys_changes, line_of, quantity_before, quantity_if}
use Rattle.gi_changes.specs.Laws.{AddUp, AddUpToSchedule, BeginAfter, BeginFromNothing, ShareChanges, change_at, sum_at}
use Rattle.gi_changes.specs.declared.change_line.ChangeLine.{ChangeLine}

-- ---- sums

plus_none : (z : ℤ) → z +ℤ pos 0 ≡ z
plus_none z = omega (arith, ints)

none_plus : (z : ℤ) → pos 0 +ℤ z ≡ z
none_plus z = omega (arith, ints)

plus_plus : (x y z : ℤ) → x +ℤ (y +ℤ z) ≡ (x +ℤ y) +ℤ z
plus_plus x y z = omega (arith, ints)

sum_append : (key : Key) (hour : ℕ) (xs ys : List ChangeLine) → sum_at key hour (xs ++ ys) ≡ sum_at key hour xs +ℤ sum_at key hour ys
unfolding sum_at
sum_append key hour [] ys = sym (none_plus (sum_at key hour ys))
sum_append key hour (x ∷ xs) ys = ap (λ z. change_at key hour x +ℤ z) (sum_append key hour xs ys) ∙ plus_plus (change_at key hour x) (sum_at key hour xs) (sum_at key hour ys)

sum_none : (key : Key) (hour : ℕ) → sum_at key hour [] ≡ pos 0
unfolding sum_at
sum_none key hour = refl

-- where the first counts nothing, and where the others do not
sum_rest : (key : Key) (hour : ℕ) (xs ys : List ChangeLine) (v : ℤ) → sum_at key hour xs ≡ pos 0 → sum_at key hour ys ≡ v → sum_at key hour (xs ++ ys) ≡ v
sum_rest key hour xs ys v none some = sum_append key hour xs ys ∙ (λ t. none t +ℤ some t) ∙ none_plus v

sum_first : (key : Key) (hour : ℕ) (xs ys : List ChangeLine) (v : ℤ) → sum_at key hour xs ≡ v → sum_at key hour ys ≡ pos 0 → sum_at key hour (xs ++ ys) ≡ v
sum_first key hour xs ys v some none = sum_append key hour xs ys ∙ (λ t. some t +ℤ none t) ∙ plus_none v

-- an hour of a pair and a direction
one_hour : (key : Key) (hour : ℕ) (id : CycleId) (of : Key) (at before after : ℕ) (b : Bool) → (is_eq (key_cmp of key) && nat_eq at hour) ≡ b
    → sum_at key hour (if_changed (line_of id of at before after)) ≡ (if b then pos after -ℤ pos before else pos 0)
unfolding sum_at
one_hour key hour id of at before after b is = by (nat_eq before after) refl b is
  where
    equal : before ≡ after → pos 0 ≡ pos after -ℤ pos before
    equal e = omega (arith, ints, e)

    by : (same : Bool) → nat_eq before after ≡ same → (b : Bool) → (is_eq (key_cmp of key) && nat_eq at hour) ≡ b
        → sum_at key hour (if same then [] else line_of id of at before after ∷ []) ≡ (if b then pos after -ℤ pos before else pos 0)
    by true e true is = equal (grind (arith, nat_tests, e))
    by true e false is = refl
    by false e b is = ap (λ b. (if b then pos after -ℤ pos before else pos 0) +ℤ pos 0) is ∙ plus_none (if b then pos after -ℤ pos before else pos 0)

-- numbers that count nothing
all_none : (key : Key) (hour : ℕ) (f : ℕ → List ChangeLine) (from count : ℕ) → ((n : ℕ) → from ≤ n → n < from + count → sum_at key hour (f n) ≡ pos 0)
    → sum_at key hour (flat_map f (range_with_len from count)) ≡ pos 0
all_none key hour f from zero none = sum_none key hour
all_none key hour f from (suc count) none =
    sum_rest key hour (f from) (flat_map f (range_with_len (from + 1) count)) (pos 0) (none from (omega arith) (omega arith))
    (all_none key hour f (from + 1) count (λ n low high. none n (omega (arith, low)) (omega (arith, high))))

-- one number that counts
one_some : (key : Key) (hour : ℕ) (f : ℕ → List ChangeLine) (from count n : ℕ) (v : ℤ) → from ≤ n → n < from + count → sum_at key hour (f n) ≡ v
    → ((m : ℕ) → nat_eq m n ≡ false → sum_at key hour (f m) ≡ pos 0) → sum_at key hour (flat_map f (range_with_len from count)) ≡ v
one_some key hour f from zero n v low high some none = absurd (omega (arith, low, high))
one_some key hour f from (suc count) n v low high some none =
    by (nat_eq from n) refl (λ later. one_some key hour f (from + 1) count n v later (omega (arith, high)) some none)
  where
    by : (b : Bool) → nat_eq from n ≡ b → (from + 1 ≤ n → sum_at key hour (flat_map f (range_with_len (from + 1) count)) ≡ v)
        → sum_at key hour (f from ++ flat_map f (range_with_len (from + 1) count)) ≡ v
    by true is rest =
        let here : from ≡ n = grind (arith, nat_tests, is) in
        sum_first key hour (f from) (flat_map f (range_with_len (from + 1) count)) v (ap (λ m. sum_at key hour (f m)) here ∙ some)
        (all_none key hour f (from + 1) count (λ m above below. none m (grind (arith, nat_tests, here, above))))
    by false is rest =
        let later : from + 1 ≤ n = grind (arith, nat_tests, is, low) in
        sum_rest key hour (f from) (flat_map f (range_with_len (from + 1) count)) v (none from is) (rest later)

-- ---- the hours of a pair and a direction

abbrev difference : Confirmed → CycleId → Key → ℕ → TableContents → ℤ
difference c id key hour table = pos (reading table key.pair key.direction hour) -ℤ pos (quantity_before c id.day key hour id.cycle)

and_false : (b : Bool) → (b && false) ≡ false
and_false true = refl
and_false false = refl

other_key : (c : Confirmed) (id : CycleId) (table : TableContents) (key of : Key) (hour : ℕ) → is_eq (key_cmp of key) ≡ false → sum_at key hour (key_changes c id table of) ≡ pos 0
other_key c id table key of hour is =
    all_none key hour (λ at. if_changed (line_of id of at (quantity_before c id.day of at id.cycle) (reading table of.pair of.direction at))) table.first (covered table.first table.last)
    (λ at low high. one_hour key hour id of at (quantity_before c id.day of at id.cycle) (reading table of.pair of.direction at) false (ap (λ b. b && nat_eq at hour) is))

same_key : (c : Confirmed) (id : CycleId) (table : TableContents) (key : Key) (hour : ℕ) (b : Bool) → covers hour (Some table) ≡ b
    → sum_at key hour (key_changes c id table key) ≡ (if b then difference c id key hour table else pos 0)
same_key c id table key hour b is = by b is
  where
    of : ℕ → List ChangeLine
    of at = if_changed (line_of id key at (quantity_before c id.day key at id.cycle) (reading table key.pair key.direction at))

    apart : (at : ℕ) → nat_eq at hour ≡ false → sum_at key hour (of at) ≡ pos 0
    apart at missed =
        one_hour key hour id key at (quantity_before c id.day key at id.cycle) (reading table key.pair key.direction at) false
        (ap (λ b. is_eq (key_cmp key key) && b) missed ∙ and_false (is_eq (key_cmp key key)))

    outside : covers hour (Some table) ≡ false → (at : ℕ) → table.first ≤ at → at < table.first + covered table.first table.last → (b : Bool) → nat_eq at hour ≡ b → b ≡ false
    outside missed at low high true same =
        let here : at ≡ hour = grind (arith, nat_tests, same) in
        let begun : nat_le table.first hour ≡ true = grind (arith, nat_tests, here, low) in
        let below : nat_le hour table.last ≡ true = grind (arith, nat_tests, here, low, high) in
        let met : covers hour (Some table) ≡ true = λ t. begun t && below t in
        sym met ∙ missed
    outside missed at low high false same = refl

    here : sum_at key hour (of hour) ≡ difference c id key hour table
    here =
        one_hour key hour id key hour (quantity_before c id.day key hour id.cycle) (reading table key.pair key.direction hour) true
        (let met : nat_eq hour hour ≡ true = grind (arith, nat_tests) in λ t. key_refl key t && met t)

    by : (b : Bool) → covers hour (Some table) ≡ b → sum_at key hour (key_changes c id table key) ≡ (if b then difference c id key hour table else pos 0)
    by true is =
        let both = and_parts (nat_le table.first hour) (nat_le hour table.last) is in
        let low : table.first ≤ hour = grind (arith, nat_tests, both.0) in
        let high : hour ≤ table.last = grind (arith, nat_tests, both.1) in
        one_some key hour of table.first (covered table.first table.last) hour (difference c id key hour table) low (omega (arith, low, high)) here apart
    by false is =
        all_none key hour of table.first (covered table.first table.last) (λ at low high. apart at (outside is at low high (nat_eq at hour) refl))

-- ---- the pairs and directions of a cycle

abbrev is_among : Key → List Key → Bool
is_among key keys = list_any (λ of. is_eq (key_cmp of key)) keys

no_others : (c : Confirmed) (id : CycleId) (table : TableContents) (key : Key) (hour : ℕ) (keys : List Key) → AllByRecursion (λ of. key_cmp key of ≡ Less) keys
    → sum_at key hour (keys_changes c id keys table) ≡ pos 0
no_others c id table key hour [] all = sum_none key hour
no_others c id table key hour (of ∷ keys) all =
    let apart : is_eq (key_cmp of key) ≡ false = key_flips of key ∙ ap is_eq all.0 in
    sum_rest key hour (key_changes c id table of) (keys_changes c id keys table) (pos 0) (other_key c id table key of hour apart) (no_others c id table key hour keys all.1)

keys_sum : (c : Confirmed) (id : CycleId) (table : TableContents) (key : Key) (hour : ℕ) (keys : List Key) → IsStrictlySortedBy key_cmp keys
    → sum_at key hour (keys_changes c id keys table) ≡ (if is_among key keys then sum_at key hour (key_changes c id table key) else pos 0)
unfolding IsStrictlySortedBy
keys_sum c id table key hour [] sorted = sum_none key hour
keys_sum c id table key hour (of ∷ keys) sorted = by (is_eq (key_cmp of key)) refl (keys_sum c id table key hour keys sorted.1)
  where
    by : (b : Bool) → is_eq (key_cmp of key) ≡ b
        → sum_at key hour (keys_changes c id keys table) ≡ (if is_among key keys then sum_at key hour (key_changes c id table key) else pos 0)
        → sum_at key hour (key_changes c id table of ++ keys_changes c id keys table) ≡ (if b || is_among key keys then sum_at key hour (key_changes c id table key) else pos 0)
    by true is rest =
        let same : of ≡ key = key_same of key is in
        sum_first key hour (key_changes c id table of) (keys_changes c id keys table) (sum_at key hour (key_changes c id table key))
        (ap (λ (k : Key). sum_at key hour (key_changes c id table k)) same)
        (no_others c id table key hour keys (subst (λ (k : Key). AllByRecursion (λ y. key_cmp k y ≡ Less) keys) same sorted.0))
    by false is rest =
        sum_rest key hour (key_changes c id table of) (keys_changes c id keys table) (if is_among key keys then sum_at key hour (key_changes c id table key) else pos 0)
        (other_key c id table key of hour is) rest

-- ---- what is in force from cycle to cycle

abbrev before : Confirmed → Date → Key → ℕ → ℕ → ℕ
before = quantity_before

at_first : (c : Confirmed) (day : Date) (key : Key) (hour : ℕ) → before c day key hour 0 ≡ 0
at_first c day key hour = ap (quantity_if c day key hour) (none_below (is_covered c day hour))

-- a cycle that covers the hour, and one that does not
covered_after : (c : Confirmed) (day : Date) (key : Key) (hour n : ℕ) → is_covered c day hour n ≡ true → before c day key hour (n + 1) ≡ quantity_in key hour (c (cycle_of day n))
covered_after c day key hour n is = ap (quantity_if c day key hour) (sym (last_passes (is_covered c day hour) n true (sym is) refl))

stays_after : (c : Confirmed) (day : Date) (key : Key) (hour n : ℕ) → is_covered c day hour n ≡ false → before c day key hour (n + 1) ≡ before c day key hour n
stays_after c day key hour n is =
    ap (quantity_if c day key hour) (sym (last_stays (is_covered c day hour) n false (last_below (is_covered c day hour) n) (sym is) refl refl))

-- a pair and a direction for which no cycle up to one has a row
among : (key : Key) (keys : List Key) → In key keys → is_among key keys ≡ true
among key [] h = absurd h
among key (of ∷ keys) (inl e) = ap (λ b. b || is_among key keys) (ap (λ (k : Key). is_eq (key_cmp k key)) e ∙ key_refl key)
among key (of ∷ keys) (inr h) = ap (λ b. is_eq (key_cmp of key) || b) (among key keys h) ∙ or_true (is_eq (key_cmp of key))
  where
    or_true : (b : Bool) → (b || true) ≡ true
    or_true true = refl
    or_true false = refl

abbrev IsAbsent : Confirmed → Option (List ℕ) → Date → Key → ℕ → Type 0
IsAbsent c portfolio day key end = is_among key (keys_before c portfolio day end) ≡ false

nothing_in : (c : Confirmed) (portfolio : Option (List ℕ)) (day : Date) (key : Key) (hour end n : ℕ) → wants_pair portfolio key.pair ≡ true → IsAbsent c portfolio day key end
    → n < end → quantity_in key hour (c (cycle_of day n)) ≡ 0
nothing_in c portfolio day key hour end n wanted absent low = by (c (cycle_of day n)) refl
  where
    found : (table : TableContents) → c (cycle_of day n) ≡ Some table → (o : Option Row) → find (is_at key) table.rows ≡ o → reading table key.pair key.direction hour ≡ 0
    found table is None e = reading-missed table key.pair key.direction hour e
    found table is (Some row) e =
        let there = found_is table.rows key row e in
        let row_wanted : wants_pair portfolio row.pair ≡ true = ap (λ (k : Key). wants_pair portfolio k.pair) there.1 ∙ wanted in
        let stands = pair_before c portfolio day end n table row low is there.0 row_wanted in
        let met : is_among key (keys_before c portfolio day end) ≡ true = among key (keys_before c portfolio day end) (subst (λ (k : Key). In k (keys_before c portfolio day end)) there.1 stands) in
        let missed : true ≡ false = sym met ∙ absent in cc

    by : (o : Option TableContents) → c (cycle_of day n) ≡ o → quantity_in key hour o ≡ 0
    by None is = refl
    by (Some table) is = found table is (find (is_at key) table.rows) refl

nothing_before : (c : Confirmed) (portfolio : Option (List ℕ)) (day : Date) (key : Key) (hour end n : ℕ) → wants_pair portfolio key.pair ≡ true → IsAbsent c portfolio day key end
    → n ≤ end → before c day key hour n ≡ 0
nothing_before c portfolio day key hour end zero wanted absent low = at_first c day key hour
nothing_before c portfolio day key hour end (suc n) wanted absent low =
    by (is_covered c day hour n) refl (nothing_before c portfolio day key hour end n wanted absent (omega (arith, low)))
  where
    next : before c day key hour (suc n) ≡ before c day key hour (n + 1)
    next = ap (before c day key hour) (omega arith)

    by : (b : Bool) → is_covered c day hour n ≡ b → before c day key hour n ≡ 0 → before c day key hour (suc n) ≡ 0
    by true is rest = next ∙ covered_after c day key hour n is ∙ nothing_in c portfolio day key hour end n wanted absent (omega (arith, low))
    by false is rest = next ∙ stays_after c day key hour n is ∙ rest

-- ---- a cycle changes what is in force before it to what is after it

no_more : (a b : ℕ) → a ≡ b → pos 0 ≡ pos a -ℤ pos b
no_more a b e = omega (arith, ints, e)

from_to : (a b : ℕ) → a ≡ 0 → b ≡ 0 → pos 0 ≡ pos a -ℤ pos b
from_to a b e f = omega (arith, ints, e, f)

cycle_sum : (c : Confirmed) (portfolio : Option (List ℕ)) (day : Date) (key : Key) (hour n : ℕ) → wants_pair portfolio key.pair ≡ true
    → sum_at key hour (cycle_changes c portfolio day n) ≡ pos (before c day key hour (n + 1)) -ℤ pos (before c day key hour n)
cycle_sum c portfolio day key hour n wanted = by (c (cycle_of day n)) refl
  where
    keys : List Key
    keys = keys_before c portfolio day (n + 1)

    id : CycleId
    id = cycle_of day n

    Changed : ℤ → Type 0
    Changed z = z ≡ pos (before c day key hour (n + 1)) -ℤ pos (before c day key hour n)

    unmoved : is_covered c day hour n ≡ false → Changed (pos 0)
    unmoved is = no_more (before c day key hour (n + 1)) (before c day key hour n) (stays_after c day key hour n is)

    if_none : (b : Bool) → Changed (pos 0) → Changed (if b then pos 0 else pos 0)
    if_none true h = h
    if_none false h = h

    counted : (table : TableContents) → c id ≡ Some table → is_covered c day hour n ≡ true → (b : Bool) → is_among key keys ≡ b → Changed (if b then difference c id key hour table else pos 0)
    counted table is met true stands = ap (λ q. pos q -ℤ pos (before c day key hour n)) (sym (covered_after c day key hour n met ∙ ap (quantity_in key hour) is))
    counted table is met false absent =
        from_to (before c day key hour (n + 1)) (before c day key hour n) (nothing_before c portfolio day key hour (n + 1) (n + 1) wanted absent (omega arith))
        (nothing_before c portfolio day key hour (n + 1) n wanted absent (omega arith))

    by_cover : (table : TableContents) → c id ≡ Some table → (b : Bool) → covers hour (Some table) ≡ b → Changed (if is_among key keys then sum_at key hour (key_changes c id table key) else pos 0)
    by_cover table is true met =
        subst (λ z. Changed (if is_among key keys then z else pos 0)) (sym (same_key c id table key hour true met))
        (counted table is (ap (covers hour) is ∙ met) (is_among key keys) refl)
    by_cover table is false missed =
        subst (λ z. Changed (if is_among key keys then z else pos 0)) (sym (same_key c id table key hour false missed)) (if_none (is_among key keys) (unmoved (ap (covers hour) is ∙ missed)))

    by : (o : Option TableContents) → c id ≡ o → Changed (sum_at key hour (changes_if c id keys o))
    by None is = sum_none key hour ∙ unmoved (ap (covers hour) is)
    by (Some table) is = keys_sum c id table key hour keys (sorted_before c portfolio day (n + 1)) ∙ by_cover table is (covers hour (Some table)) refl

-- ---- all cycles together

telescoped : (a b : ℕ) (x y : ℤ) → x ≡ pos a → y ≡ pos b -ℤ pos a → x +ℤ y ≡ pos b
telescoped a b x y e f = let last : pos a +ℤ (pos b -ℤ pos a) ≡ pos b = omega (arith, ints) in (λ t. e t +ℤ f t) ∙ last

up_to : (c : Confirmed) (portfolio : Option (List ℕ)) (day : Date) (key : Key) (hour n : ℕ) → wants_pair portfolio key.pair ≡ true
    → sum_at key hour (flat_map (cycle_changes c portfolio day) (range_with_len 0 n)) ≡ pos (before c day key hour n)
up_to c portfolio day key hour zero wanted = sum_none key hour ∙ ap (λ q. pos q) (sym (at_first c day key hour))
up_to c portfolio day key hour (suc n) wanted =
    let of = cycle_changes c portfolio day in
    let here : 0 + n ≡ n = omega arith in
    let next : n + 1 ≡ suc n = omega arith in
    ap (sum_at key hour) (last_apart of 0 n) ∙ ap (λ m. sum_at key hour (flat_map of (range_with_len 0 n) ++ of m)) here ∙ sum_append key hour (flat_map of (range_with_len 0 n)) (of n)
    ∙ telescoped (before c day key hour n) (before c day key hour (n + 1)) (sum_at key hour (flat_map of (range_with_len 0 n))) (sum_at key hour (of n))
    (up_to c portfolio day key hour n wanted) (cycle_sum c portfolio day key hour n wanted) ∙ ap (λ m. pos (before c day key hour m)) next

pub added_up : AddUp
unfolding changes
added_up c portfolio day key hour wanted = up_to c portfolio day key hour (last_cycle + 1) wanted

pub added_up_to_schedule : AddUpToSchedule
added_up_to_schedule c portfolio day key wanted =
    All-weaker (λ (at : HourInForce). cycle_in_force c day at.hour ≡ Some at.cycle) (λ (at : HourInForce). sum_at key at.hour (changes c portfolio day) ≡ pos (quantity_of c day key at))
    (λ at is. added_up c portfolio day key at.hour wanted ∙ ap (λ o. pos (quantity_if c day key at.hour o)) is) (hours_in_force c day) (hours_are_in_force c day)

-- ---- what a cycle begins with

pub begun_after : BeginAfter
begun_after c day key hour cycle zero low is none = absurd (omega (arith, low))
begun_after c day key hour cycle (suc later) low is none = by (nat_eq cycle later) refl (λ high. begun_after c day key hour cycle later high is (λ m above below. none m above (omega (arith, below))))
  where
    next : before c day key hour (suc later) ≡ before c day key hour (later + 1)
    next = ap (before c day key hour) (omega arith)

    by : (b : Bool) → nat_eq cycle later ≡ b → (cycle < later → before c day key hour later ≡ quantity_in key hour (c (cycle_of day cycle)))
        → before c day key hour (suc later) ≡ quantity_in key hour (c (cycle_of day cycle))
    by true same rest =
        let here : later ≡ cycle = grind (arith, nat_tests, same) in
        next ∙ ap (λ m. before c day key hour (m + 1)) here ∙ covered_after c day key hour cycle is
    by false same rest =
        let high : cycle < later = grind (arith, nat_tests, same, low) in
        next ∙ stays_after c day key hour later (none later high (omega arith)) ∙ rest high

pub begun_from_nothing : BeginFromNothing
begun_from_nothing c day key hour zero none = at_first c day key hour
begun_from_nothing c day key hour (suc first) none =
    let next : before c day key hour (suc first) ≡ before c day key hour (first + 1) = ap (before c day key hour) (omega arith) in
    next ∙ stays_after c day key hour first (none first (omega arith)) ∙ begun_from_nothing c day key hour first (λ m low. none m (omega (arith, low)))

-- ---- two sides

pub shared : ShareChanges
shared side other s t portfolio day same =
    let all : confirmed side s ≡ confirmed other t = λ i id. same id i in ap (λ (c : Confirmed). changes c portfolio day) all
