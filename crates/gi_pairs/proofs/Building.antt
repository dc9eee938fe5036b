-- Rows with distinct keys have one order.
use Rattle.std.proofs.Common.{◌≡◌, zero, suc, List, [], ◌∷◌, true, false, Bool, ◌⊎◌, inl, inr, refl, sym, ap, ◌∙◌, arith, subst, if◌then◌else◌, Contains}
use Rattle.std.specs.declared.cmp.Ordering.{Ordering}
use Rattle.std.specs.declared.cmp.Ordering.TheVariants.{Less, Equal, Greater}
use Rattle.std.specs.List.{list_any, AllByRecursion, IsDistinct}
use Rattle.std.specs.List.Sorted.{IsPermutation, IsStrictlySortedBy}
use Rattle.std.specs.Ordering.{is_eq, is_lt, eq_by_cmp}
use Rattle.std.proofs.lemmas.Bool.{or_parts}
use Rattle.std.proofs.lemmas.List.Sorted.{Contains-permutation, IsPermutation-sym, IsPermutation-map}
use Rattle.std.proofs.lemmas.Map.Keys.{sorted_head, sorted_tail, IsDistinct-IsPermutation, IsDistinct-from_sorted}
use Rattle.gi_pairs.specs.Key.{key_cmp}
use Rattle.gi_pairs.specs.Row.{key_of}
use Rattle.gi_pairs.specs.Table.{keys_of, repeats, with_row, in_order}
use Rattle.gi_pairs.specs.declared.key.Key.{Key}
use Rattle.gi_pairs.specs.declared.row.Row.{Row}
use Rattle.gi_pairs.proofs.KeyOrder.{key_total, key_flips, less_from_not, not_less_self, not_both_less}

-- ---- whether a key stands twice

none_equal : (k : Key) (ks : List Key) → list_any (λ other. is_eq (key_cmp k other)) ks ≡ false → AllByRecursion (λ y. eq_by_cmp key_cmp k y ≡ false) ks
none_equal k [] e = tt
none_equal k (l ∷ ls) e = ((or_parts _ _ e).0, none_equal k ls ((or_parts _ _ e).1))

any_false : (k : Key) (ks : List Key) → AllByRecursion (λ y. eq_by_cmp key_cmp k y ≡ false) ks → list_any (λ other. is_eq (key_cmp k other)) ks ≡ false
any_false k [] h = refl
any_false k (l ∷ ls) h = rw h.0 (any_false k ls h.1)

pub distinct_from_repeats : (ks : List Key) → repeats ks ≡ false → IsDistinct (eq_by_cmp key_cmp) ks
unfolding IsDistinct
distinct_from_repeats [] e = tt
distinct_from_repeats (k ∷ ks) e = (none_equal k ks ((or_parts _ _ e).0), distinct_from_repeats ks ((or_parts _ _ e).1))

pub repeats_from_distinct : (ks : List Key) → IsDistinct (eq_by_cmp key_cmp) ks → repeats ks ≡ false
unfolding IsDistinct
repeats_from_distinct [] d = refl
repeats_from_distinct (k ∷ ks) d = rw (any_false k ks d.0) (repeats_from_distinct ks d.1)

same_bools : (a b : Bool) → (a ≡ false → b ≡ false) → (b ≡ false → a ≡ false) → a ≡ b
same_bools true true f g = refl
same_bools true false f g = g refl
same_bools false true f g = sym (f refl)
same_bools false false f g = refl

carried : (xs ys : List Row) → IsPermutation xs ys → repeats (keys_of xs) ≡ false → repeats (keys_of ys) ≡ false
carried xs ys moved none =
    repeats_from_distinct (keys_of ys)
    (IsDistinct-IsPermutation (eq_by_cmp key_cmp) key_flips (keys_of xs) (keys_of ys) (IsPermutation-map key_of xs ys moved) (distinct_from_repeats (keys_of xs) none))

-- an order of the rows does not change whether a key stands twice
pub repeats-permutation : (xs ys : List Row) → IsPermutation xs ys → repeats (keys_of ys) ≡ repeats (keys_of xs)
repeats-permutation xs ys moved = same_bools (repeats (keys_of ys)) (repeats (keys_of xs)) (carried ys xs (IsPermutation-sym xs ys moved)) (carried xs ys moved)

-- ---- the one order

-- x stands in the list
abbrev pub In : {X : Type 0} → X → List X → Type 0
In x [] = ⊥
In x (y ∷ ys) = (y ≡ x) ⊎ In x ys

pub in_from_contains : {X : Type 0} (x : X) (xs : List X) → Contains xs x → In x xs
in_from_contains x [] (k, below, is) = absurd (omega arith)
in_from_contains x (y ∷ ys) (zero, below, is) = inl is
in_from_contains x (y ∷ ys) (suc k, below, is) = inr (in_from_contains x ys (k, omega arith, is))

pub contains_from_in : {X : Type 0} (x : X) (xs : List X) → In x xs → Contains xs x
contains_from_in x [] h = absurd h
contains_from_in x (y ∷ ys) (inl is) = (0, omega arith, is)
contains_from_in x (y ∷ ys) (inr h) = let k = contains_from_in x ys h in (suc k.0, omega (arith, k.1), k.2)

in_permutation : (xs ys : List Row) → IsPermutation xs ys → (r : Row) → In r xs → In r ys
in_permutation xs ys moved r h = in_from_contains r ys (Contains-permutation xs ys r moved (contains_from_in r xs h))

less_in : (k : Key) (xs : List Row) (r : Row) → AllByRecursion (λ y. key_cmp k y ≡ Less) (keys_of xs) → In r xs → key_cmp k (key_of r) ≡ Less
less_in k [] r all h = absurd h
less_in k (x ∷ xs) r all (inl is) = subst (λ (w : Row). key_cmp k (key_of w) ≡ Less) is all.0
less_in k (x ∷ xs) r all (inr h) = less_in k xs r all.1 h

-- a row below all others is none of them
not_in_rest : (x r : Row) (xs : List Row) → IsStrictlySortedBy key_cmp (keys_of (x ∷ xs)) → x ≡ r → In r xs → ⊥
not_in_rest x r xs sorted same h =
    let less = less_in (key_of x) xs r (sorted_head key_cmp (key_of x) (keys_of xs) sorted) h in
    not_less_self (key_of r) (subst (λ (w : Row). key_cmp (key_of w) (key_of r) ≡ Less) same less)

same_heads : (x y : Row) (xs ys : List Row) → IsStrictlySortedBy key_cmp (keys_of (x ∷ xs)) → IsStrictlySortedBy key_cmp (keys_of (y ∷ ys))
    → In x (y ∷ ys) → In y (x ∷ xs) → x ≡ y
same_heads x y xs ys sx sy (inl e) h = sym e
same_heads x y xs ys sx sy (inr h) (inl e) = e
same_heads x y xs ys sx sy (inr h) (inr k) =
    absurd (not_both_less (key_of x) (key_of y) (less_in (key_of x) xs y (sorted_head key_cmp (key_of x) (keys_of xs) sx) k)
    (less_in (key_of y) ys x (sorted_head key_cmp (key_of y) (keys_of ys) sy) h))

in_rest : (x y r : Row) (xs ys : List Row) → IsStrictlySortedBy key_cmp (keys_of (x ∷ xs)) → x ≡ y → In r xs → In r (y ∷ ys) → In r ys
in_rest x y r xs ys sorted same h (inl e) = absurd (not_in_rest x r xs sorted (same ∙ e) h)
in_rest x y r xs ys sorted same h (inr k) = k

-- two lists of the same rows, both in table order, are one list
pub same_rows : (xs ys : List Row) → IsStrictlySortedBy key_cmp (keys_of xs) → IsStrictlySortedBy key_cmp (keys_of ys)
    → ((r : Row) → In r xs → In r ys) → ((r : Row) → In r ys → In r xs) → xs ≡ ys
same_rows [] [] sx sy f g = refl
same_rows [] (y ∷ ys) sx sy f g = absurd (g y (inl refl))
same_rows (x ∷ xs) [] sx sy f g = absurd (f x (inl refl))
same_rows (x ∷ xs) (y ∷ ys) sx sy f g =
    let same : x ≡ y = same_heads x y xs ys sx sy (f x (inl refl)) (g y (inl refl)) in
    let rest : xs ≡ ys = same_rows xs ys (sorted_tail key_cmp (key_of x) (keys_of xs) sx) (sorted_tail key_cmp (key_of y) (keys_of ys) sy)
    (λ r h. in_rest x y r xs ys sx same h (f r (inr h)))
    (λ r h. in_rest y x r ys xs sy (sym same) h (g r (inr h))) in
    cc

-- ---- the rows put in order one by one

behind : {A B C : Type 0} → B ⊎ (A ⊎ C) → A ⊎ (B ⊎ C)
behind (inl e) = inr (inl e)
behind (inr (inl e)) = inl e
behind (inr (inr k)) = inr (inr k)

deeper : {A B C : Type 0} → (B → C) → A ⊎ B → A ⊎ C
deeper f (inl a) = inl a
deeper f (inr b) = inr (f b)

in_chosen : (b : Bool) (r row x : Row) (xs with_it : List Row) → (In r with_it → In r (row ∷ xs))
    → In r (if b then row ∷ x ∷ xs else x ∷ with_it) → In r (row ∷ x ∷ xs)
in_chosen true r row x xs with_it f h = h
in_chosen false r row x xs with_it f h = behind (deeper f h)

chosen_in : (b : Bool) (r row x : Row) (xs with_it : List Row) → (In r (row ∷ xs) → In r with_it)
    → In r (row ∷ x ∷ xs) → In r (if b then row ∷ x ∷ xs else x ∷ with_it)
chosen_in true r row x xs with_it f h = h
chosen_in false r row x xs with_it f h = deeper f (behind h)

in_with_row : (r row : Row) (xs : List Row) → In r (with_row row xs) → In r (row ∷ xs)
in_with_row r row [] h = h
in_with_row r row (x ∷ xs) h = in_chosen (is_lt (key_cmp (key_of row) (key_of x))) r row x xs (with_row row xs) (in_with_row r row xs) h

with_row_in : (r row : Row) (xs : List Row) → In r (row ∷ xs) → In r (with_row row xs)
with_row_in r row [] h = h
with_row_in r row (x ∷ xs) h = chosen_in (is_lt (key_cmp (key_of row) (key_of x))) r row x xs (with_row row xs) (with_row_in r row xs) h

pub in_in_order : (r : Row) (rows : List Row) → In r (in_order rows) → In r rows
in_in_order r [] h = h
in_in_order r (row ∷ rows) h = deeper (in_in_order r rows) (in_with_row r row (in_order rows) h)

pub in_order_in : (r : Row) (rows : List Row) → In r rows → In r (in_order rows)
in_order_in r [] h = h
in_order_in r (row ∷ rows) h = with_row_in r row (in_order rows) (deeper (in_order_in r rows) h)

-- what is above one key is above each key below that
all_above : (k l : Key) (ks : List Key) → key_cmp k l ≡ Less → AllByRecursion (λ y. key_cmp l y ≡ Less) ks → AllByRecursion (λ y. key_cmp k y ≡ Less) ks
all_above k l [] less h = tt
all_above k l (m ∷ ms) less h = (key_total.trans k l m less h.0, all_above k l ms less h.1)

all_above_with : (k : Key) (row : Row) (xs : List Row) → key_cmp k (key_of row) ≡ Less → AllByRecursion (λ y. key_cmp k y ≡ Less) (keys_of xs)
    → AllByRecursion (λ y. key_cmp k y ≡ Less) (keys_of (with_row row xs))
all_above_with k row [] less h = (less, tt)
all_above_with k row (x ∷ xs) less h = above_chosen (is_lt (key_cmp (key_of row) (key_of x))) k row x xs (with_row row xs) less h (all_above_with k row xs less h.1)
  where
    above_chosen : (b : Bool) (k : Key) (row x : Row) (xs with_it : List Row) → key_cmp k (key_of row) ≡ Less
        → AllByRecursion (λ y. key_cmp k y ≡ Less) (keys_of (x ∷ xs)) → AllByRecursion (λ y. key_cmp k y ≡ Less) (keys_of with_it)
        → AllByRecursion (λ y. key_cmp k y ≡ Less) (keys_of (if b then row ∷ x ∷ xs else x ∷ with_it))
    above_chosen true k row x xs with_it less h rest = (less, h)
    above_chosen false k row x xs with_it less h rest = (h.0, rest)

is_less : (o : Ordering) → is_lt o ≡ true → o ≡ Less
is_less Less e = refl
is_less Equal e = cc
is_less Greater e = cc

sorted_with_row : (row : Row) (xs : List Row) → IsStrictlySortedBy key_cmp (keys_of xs) → ((r : Row) → In r xs → is_eq (key_cmp (key_of row) (key_of r)) ≡ false)
    → IsStrictlySortedBy key_cmp (keys_of (with_row row xs))
unfolding IsStrictlySortedBy
sorted_with_row row [] s apart = (tt, tt)
sorted_with_row row (x ∷ xs) s apart =
    placed (is_lt (key_cmp (key_of row) (key_of x))) refl (sorted_with_row row xs s.1 (λ r h. apart r (inr h)))
  where
    placed : (b : Bool) → is_lt (key_cmp (key_of row) (key_of x)) ≡ b → IsStrictlySortedBy key_cmp (keys_of (with_row row xs))
        → IsStrictlySortedBy key_cmp (keys_of (if b then row ∷ x ∷ xs else x ∷ with_row row xs))
    placed true e rest =
        let less = is_less (key_cmp (key_of row) (key_of x)) e in
        ((less, all_above (key_of row) (key_of x) (keys_of xs) less s.0), s)
    placed false e rest =
        let above = less_from_not (key_of row) (key_of x) (λ less. let yes : is_lt (key_cmp (key_of row) (key_of x)) ≡ true = ap is_lt less in cc) (apart x (inl refl)) in
        (all_above_with (key_of x) row xs above s.0, rest)

apart_in : (k : Key) (rows : List Row) → list_any (λ other. is_eq (key_cmp k other)) (keys_of rows) ≡ false → (r : Row) → In r rows → is_eq (key_cmp k (key_of r)) ≡ false
apart_in k [] e r h = absurd h
apart_in k (x ∷ xs) e r (inl is) = subst (λ (w : Row). is_eq (key_cmp k (key_of w)) ≡ false) is ((or_parts _ _ e).0)
apart_in k (x ∷ xs) e r (inr h) = apart_in k xs ((or_parts _ _ e).1) r h

-- where no key stands twice, the rows in order ascend strictly
pub in_order-sorted : (rows : List Row) → repeats (keys_of rows) ≡ false → IsStrictlySortedBy key_cmp (keys_of (in_order rows))
unfolding IsStrictlySortedBy
in_order-sorted [] e = tt
in_order-sorted (row ∷ rows) e =
    sorted_with_row row (in_order rows) (in_order-sorted rows ((or_parts _ _ e).1))
    (λ r h. apart_in (key_of row) rows ((or_parts _ _ e).0) r (in_in_order r rows h))

-- rows in another order that ascends strictly are the rows in order
pub in_order_is : (rows sorted : List Row) → IsPermutation rows sorted → IsStrictlySortedBy key_cmp (keys_of sorted) → sorted ≡ in_order rows
in_order_is rows sorted moved s =
    let none : repeats (keys_of sorted) ≡ false = repeats_from_distinct (keys_of sorted) (IsDistinct-from_sorted key_cmp (keys_of sorted) s) in
    let none_here : repeats (keys_of rows) ≡ false = sym (repeats-permutation rows sorted moved) ∙ none in
    same_rows sorted (in_order rows) s (in_order-sorted rows none_here)
    (λ r h. in_order_in r rows (in_permutation sorted rows (IsPermutation-sym rows sorted moved) r h))
    (λ r h. in_permutation rows sorted moved r (in_in_order r rows h))
