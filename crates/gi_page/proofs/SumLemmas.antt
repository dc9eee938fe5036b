-- The sum that a page has in force is that of the schedule of the day.
use Rattle.std.proofs.Common.{◌≡◌, ◌<◌, ◌+◌, ℕ, zero, suc, List, [], ◌∷◌, Bool, true, false, ◌⊎◌, inl, inr, Option, Some, None, Ordering, Less, Equal, Greater, refl, sym, ◌∙◌, arith, subst}
use Rattle.std.specs.Prelude.{if◌then◌else◌}
use Rattle.std.specs.BTreeSet.{insert_key}
use Rattle.std.specs.List.{AllByRecursion, flat_map, range_with_len, sum_by}
use Rattle.std.specs.List.Sorted.{IsStrictlySortedBy}
use Rattle.std.specs.Ordering.{match_ordering}
use Rattle.std.proofs.lemmas.List.Sums.{sum_by-cons}
use Rattle.jiff_core.specs.declared.civil.date.Date.{Date}
use Rattle.gi_pairs.specs.Key.{key_cmp}
use Rattle.gi_pairs.specs.Row.{key_of}
use Rattle.gi_pairs.specs.Table.{TableContents}
use Rattle.gi_pairs.specs.declared.direction.Direction.{Direction}
use Rattle.gi_pairs.specs.declared.direction.Direction.TheVariants.{IM, MI}
use Rattle.gi_pairs.specs.declared.key.Key.{Key}
use Rattle.gi_pairs.specs.declared.side.Side.{Side}
use Rattle.gi_pairs.proofs.Building.{In}
use Rattle.gi_pairs.proofs.KeyOrder.{not_both_less, not_less_self}
use Rattle.gi_pairs.proofs.Members.{find_absent, from_append, from_map}
use Rattle.gi_pairs.proofs.Reading.{reading-missed}
use Rattle.gi_messages.specs.Limits.{last_cycle}
use Rattle.gi_desk.specs.Machine.{DeskState}
use Rattle.gi_desk.specs.Queries.{confirmed, frozen}
use Rattle.gi_schedule.specs.InForce.{Confirmed, cycle_of, last_below, quantity_in}
use Rattle.gi_schedule.specs.Keys.{day_keys, keys_if, with_each}
use Rattle.gi_schedule.specs.Lines.{counted}
use Rattle.gi_schedule.proofs.ListedLemmas.{in_added, in_last, in_numbered, pair_before}
use Rattle.gi_page.specs.Keys.{cycle_keys, page_keys}

-- ---- two lists in table order, of which one has each key of the other

less_in : (k key : Key) (keys : List Key) → AllByRecursion (λ y. key_cmp k y ≡ Less) keys → In key keys → key_cmp k key ≡ Less
less_in k key [] all h = absurd h
less_in k key (y ∷ keys) all (inl e) = subst (λ (w : Key). key_cmp k w ≡ Less) e all.0
less_in k key (y ∷ keys) all (inr h) = less_in k key keys all.1 h

-- a key that all of them are above is none of them
not_in : (k : Key) (keys : List Key) → AllByRecursion (λ y. key_cmp k y ≡ Less) keys → In k keys → ⊥
not_in k keys all h = not_less_self k (less_in k k keys all h)

in_rest : (k key : Key) (keys : List Key) → (k ≡ key → ⊥) → In key (k ∷ keys) → In key keys
in_rest k key keys apart (inl e) = absurd (apart e)
in_rest k key keys apart (inr h) = h

below_all : (y x : Key) (xs : List Key) → key_cmp y x ≡ Less → AllByRecursion (λ w. key_cmp x w ≡ Less) xs → In y (x ∷ xs) → ⊥
below_all y x xs less all (inl e) = not_less_self y (subst (λ (w : Key). key_cmp y w ≡ Less) e less)
below_all y x xs less all (inr h) = not_both_less y x less (less_in x y xs all h)

-- What counts nothing for the keys that one list lacks adds up to the same over both.
abbrev Lacks : List Key → Key → Type 0
Lacks keys key = In key keys → ⊥

abbrev Same : (Key → ℕ) → List Key → List Key → Type 0
Same f ys xs = ((key : Key) → In key xs → In key ys) → ((key : Key) → In key ys → Lacks xs key → f key ≡ 0) → sum_by f xs ≡ sum_by f ys

pub same_sum : (f : Key → ℕ) (ys xs : List Key) → IsStrictlySortedBy key_cmp ys → IsStrictlySortedBy key_cmp xs → Same f ys xs
unfolding IsStrictlySortedBy
same_sum f [] [] sy sx = λ within none. refl
same_sum f [] (x ∷ xs) sy sx = λ within none. absurd (within x (inl refl))
same_sum f (y ∷ ys) [] sy sx = λ within none.
    let here : f y ≡ 0 = none y (inl refl) (λ h. h) in
    let rest : sum_by f [] ≡ sum_by f ys = same_sum f ys [] sy.1 sx (λ key h. absurd h) (λ key h lacks. none key (inr h) lacks) in
    let step : sum_by f (y ∷ ys) ≡ f y + sum_by f ys = sum_by-cons f y ys in
    omega (arith, here, rest, step)
same_sum f (y ∷ ys) (x ∷ xs) sy sx = λ within none. by within none (within x (inl refl)) (same_sum f ys xs sy.1 sx.1) (same_sum f ys (x ∷ xs) sy.1 sx)
  where
    by : ((key : Key) → In key (x ∷ xs) → In key (y ∷ ys)) → ((key : Key) → In key (y ∷ ys) → Lacks (x ∷ xs) key → f key ≡ 0)
        → (y ≡ x) ⊎ In x ys → Same f ys xs → Same f ys (x ∷ xs) → sum_by f (x ∷ xs) ≡ sum_by f (y ∷ ys)
    by within none (inl e) both one =
        let rest : sum_by f xs ≡ sum_by f ys =
        both (λ key h. in_rest y key ys (λ same. not_in x xs sx.0 (subst (λ (k : Key). In k xs) (sym same ∙ e) h)) (within key (inr h)))
        (λ key h lacks. none key (inr h) (λ k. lacks (in_rest x key xs (λ same. not_in y ys sy.0 (subst (λ (k : Key). In k ys) (sym same ∙ sym e) h)) k))) in
        sum_by-cons f x xs ∙ (λ t. f (sym e t) + rest t) ∙ sym (sum_by-cons f y ys)
    by within none (inr above) both one =
        let lacks : Lacks (x ∷ xs) y = below_all y x xs (less_in y x ys sy.0 above) sx.0 in
        let here : f y ≡ 0 = none y (inl refl) lacks in
        let rest : sum_by f (x ∷ xs) ≡ sum_by f ys =
        one (λ key h. in_rest y key ys (λ same. lacks (subst (λ (k : Key). In k (x ∷ xs)) (sym same) h)) (within key h)) (λ key h k. none key (inr h) k) in
        let step : sum_by f (y ∷ ys) ≡ f y + sum_by f ys = sum_by-cons f y ys in
        omega (arith, here, rest, step)

-- ---- each key of the schedule is one of the page

from_inserted : (other key : Key) (keys : List Key) → In other (insert_key key_cmp keys key) → (key ≡ other) ⊎ In other keys
from_inserted other key [] h = h
from_inserted other key (x ∷ keys) h = by (key_cmp key x) h (λ k. from_inserted other key keys k)
  where
    by : (o : Ordering) → In other (match_ordering o (key ∷ x ∷ keys) (x ∷ keys) (x ∷ insert_key key_cmp keys key))
        → (In other (insert_key key_cmp keys key) → (key ≡ other) ⊎ In other keys) → (key ≡ other) ⊎ In other (x ∷ keys)
    by Less h rest = h
    by Equal h rest = inr h
    by Greater (inl e) rest = inr (inl e)
    by Greater (inr k) rest = elim (rest k) [ inl e ↦ inl e | inr m ↦ inr (inr m) ]

from_added : (key : Key) (keys others : List Key) → In key (with_each keys others) → In key keys ⊎ In key others
unfolding with_each
from_added key keys [] h = inl h
from_added key keys (other ∷ others) h = by (from_added key (insert_key key_cmp keys other) others h)
  where
    by : In key (insert_key key_cmp keys other) ⊎ In key others → In key keys ⊎ In key (other ∷ others)
    by (inl k) = elim (from_inserted key other keys k) [ inl e ↦ inr (inl e) | inr m ↦ inl m ]
    by (inr k) = inr (inr k)

from_each : (key : Key) (others : List Key) → In key (with_each [] others) → In key others
from_each key others h = elim (from_added key [] others h) [ inl k ↦ absurd k | inr k ↦ k ]

from_numbered : {X : Type 0} (x : X) (f : ℕ → List X) (from count : ℕ) → In x (flat_map f (range_with_len from count)) → (n : ℕ) × (n < from + count) × In x (f n)
from_numbered x f from zero h = absurd h
from_numbered {X = X} x f from (suc count) h = by (from_append x (f from) (flat_map f (range_with_len (from + 1) count)) h) (λ k. from_numbered x f (from + 1) count k)
  where
    by : In x (f from) ⊎ In x (flat_map f (range_with_len (from + 1) count)) → (In x (flat_map f (range_with_len (from + 1) count)) → (n : ℕ) × (n < from + 1 + count) × In x (f n))
        → (n : ℕ) × (n < from + suc count) × In x (f n)
    by (inl k) rest = (from, omega arith, k)
    by (inr k) rest = let found = rest k in (found.0, omega (arith, found.1), found.2)

pub in_page : (side : Side) (s : DeskState) (day : Date) (key : Key) → In key (day_keys (confirmed side s) None day) → In key (page_keys side s day)
unfolding day_keys page_keys
in_page side s day key h =
    let of : ℕ → List Key = λ n. keys_if None (confirmed side s (cycle_of day n)) in
    let all : ℕ → List Key = λ n. cycle_keys side s (cycle_of day n) in
    let numbered = from_numbered key of 0 (last_cycle + 1) (from_each key (flat_map of (range_with_len 0 (last_cycle + 1))) h) in
    in_added key [] (flat_map all (range_with_len 0 (last_cycle + 1)))
    (in_numbered key all 0 (last_cycle + 1) numbered.0 (omega arith) numbered.1
    (in_last key (keys_if None (frozen side s.facts (cycle_of day numbered.0))) (of numbered.0) numbered.2))

-- ---- what the schedule does not list is 0

pub last_low : (test : ℕ → Bool) (n last : ℕ) → last_below test n ≡ Some last → last < n
unfolding last_below
last_low test zero last is = cc
last_low test (suc n) last is = by (test n) is (λ rest. last_low test n last rest)
  where
    by : (b : Bool) → (if b then Some n else last_below test n) ≡ Some last → (last_below test n ≡ Some last → last < n) → last < suc n
    by true e rest = let same : n ≡ last = cc in omega (arith, same)
    by false e rest = let low = rest e in omega (arith, low)

pub unlisted : (c : Confirmed) (day : Date) (key : Key) (hour cycle : ℕ) → cycle < last_cycle + 1 → Lacks (day_keys c None day) key → quantity_in key hour (c (cycle_of day cycle)) ≡ 0
unfolding day_keys
unlisted c day key hour cycle low lacks = by (c (cycle_of day cycle)) refl
  where
    by : (o : Option TableContents) → c (cycle_of day cycle) ≡ o → quantity_in key hour o ≡ 0
    by None is = refl
    by (Some table) is =
        reading-missed table key.pair key.direction hour
        (find_absent table.rows key
        (λ h.
        let row = from_map key_of key table.rows h in
        lacks (subst (λ (k : Key). In k (day_keys c None day)) row.2 (pair_before c None day (last_cycle + 1) cycle table row.0 low is row.1 refl))))

pub counted_none : (direction other : Direction) (quantity : ℕ) → quantity ≡ 0 → counted direction other quantity ≡ 0
counted_none IM IM quantity none = none
counted_none IM MI quantity none = refl
counted_none MI IM quantity none = refl
counted_none MI MI quantity none = none
