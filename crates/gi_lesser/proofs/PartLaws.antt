-- The parts, one after the other, are the whole.
use Rattle.std.proofs.Common.{◌≡◌, ℕ, zero, suc, ◌+◌, ◌<◌, ◌≤◌, List, [], ◌∷◌, ◌++◌, length, map, take, drop, get_or, true, false, Bool, Some, None, inl, inr, refl, sym, ap, ◌∙◌, arith, subst, if◌then◌else◌}
use Rattle.std.specs.declared.cmp.Ordering.{Ordering}
use Rattle.std.specs.declared.cmp.Ordering.TheVariants.{Less, Equal, Greater}
use Rattle.std.specs.List.{AllByRecursion, flat_map, range_with_len, slice_get}
use Rattle.std.specs.List.Sorted.{IsStrictlySortedBy}
use Rattle.std.specs.Ordering.{is_eq, is_lt}
use Rattle.std.proofs.lemmas.List.{drop_all, take-append-drop}
use Rattle.std.proofs.lemmas.Map.Keys.{sorted_tail}
use Rattle.gi_pairs.specs.Key.{key_cmp}
use Rattle.gi_pairs.specs.Row.{key_of}
use Rattle.gi_pairs.specs.Table.{keys_of}
use Rattle.gi_pairs.specs.declared.key.Key.{Key}
use Rattle.gi_pairs.specs.declared.row.Row.{Row}
use Rattle.gi_pairs.proofs.Building.{In}
use Rattle.gi_pairs.proofs.KeyOrder.{key_same, key_total, less_from_not}
use Rattle.gi_pairs.proofs.Reading.{less_by_places}
use Rattle.gi_lesser.specs.Parts.{count_below, count_below_row, edge_of, part_of}
use Rattle.gi_lesser.specs.Walk.{lesser_rows}
use Rattle.gi_lesser.proofs.Union.{Below, head_below}
use Rattle.gi_lesser.proofs.WalkLaws.{lesser_parts, sorted_drop}

is_less : (o : Ordering) → is_lt o ≡ true → o ≡ Less
is_less Less e = refl
is_less Equal e = cc
is_less Greater e = cc

-- the place before which all keys are lower, and at which none is
pub count_is : (key : Key) (rows : List Row) (i : ℕ) (d : Row) → i ≤ length rows → ((k : ℕ) → k < i → key_cmp (key_of (get_or rows k d)) key ≡ Less)
    → (i < length rows → is_lt (key_cmp (key_of (get_or rows i d)) key) ≡ false) → i ≡ count_below key rows
count_is key [] zero d within below stops = refl
count_is key [] (suc i) d within below stops = absurd (omega arith)
count_is key (x ∷ xs) zero d within below stops = let here : is_lt (key_cmp (key_of x) key) ≡ false = stops (omega arith) in rw here refl
count_is key (x ∷ xs) (suc i) d within below stops =
    let here : is_lt (key_cmp (key_of x) key) ≡ true = ap is_lt (below 0 (omega arith)) in
    let rest = count_is key xs i d (omega arith) (λ k low. below (suc k) (omega arith)) (λ low. stops (omega arith)) in
    rw here (ap suc rest)

-- the keys before the place are lower
pub lower_taken : (key : Key) (rows : List Row) (m : Key) → In m (keys_of (take (count_below key rows) rows)) → key_cmp m key ≡ Less
lower_taken key [] m h = absurd h
lower_taken key (x ∷ xs) m h = by_test (is_lt (key_cmp (key_of x) key)) refl h (lower_taken key xs m)
  where
    by_test : (b : Bool) → is_lt (key_cmp (key_of x) key) ≡ b → In m (keys_of (take (if b then suc (count_below key xs) else 0) (x ∷ xs)))
        → (In m (keys_of (take (count_below key xs) xs)) → key_cmp m key ≡ Less) → key_cmp m key ≡ Less
    by_test true e (inl is) f = subst (λ (k : Key). key_cmp k key ≡ Less) is (is_less (key_cmp (key_of x) key) e)
    by_test true e (inr j) f = f j
    by_test false e j f = absurd j

-- of a key that is not lower, a lower one is lower
less_of_not : (k key m : Key) → key_cmp k key ≡ Less → is_lt (key_cmp m key) ≡ false → key_cmp k m ≡ Less
less_of_not k key m less not_lower = by_equal (is_eq (key_cmp m key)) refl
  where
    by_equal : (b : Bool) → is_eq (key_cmp m key) ≡ b → key_cmp k m ≡ Less
    by_equal true e = subst (λ (n : Key). key_cmp k n ≡ Less) (sym (key_same m key e)) less
    by_equal false e =
        key_total.trans k key m less (less_from_not m key (λ lower. let yes : is_lt (key_cmp m key) ≡ true = ap is_lt lower in cc) e)

-- a lower key comes before all from the place on
pub before_dropped : (k key : Key) (rows : List Row) → IsStrictlySortedBy key_cmp (keys_of rows) → key_cmp k key ≡ Less
    → (m : Key) → In m (keys_of (drop (count_below key rows) rows)) → key_cmp k m ≡ Less
before_dropped k key [] sorted less m h = absurd h
before_dropped k key (x ∷ xs) sorted less m h =
    by_test (is_lt (key_cmp (key_of x) key)) refl h (before_dropped k key xs (sorted_tail key_cmp (key_of x) (keys_of xs) sorted) less m)
  where
    by_test : (b : Bool) → is_lt (key_cmp (key_of x) key) ≡ b → In m (keys_of (drop (if b then suc (count_below key xs) else 0) (x ∷ xs)))
        → (In m (keys_of (drop (count_below key xs) xs)) → key_cmp k m ≡ Less) → key_cmp k m ≡ Less
    by_test true e j f = f j
    by_test false e (inl is) f = subst (λ (n : Key). key_cmp k n ≡ Less) is (less_of_not k key (key_of x) less e)
    by_test false e (inr j) f = key_total.trans k (key_of x) m (less_of_not k key (key_of x) less e) (head_below (key_of x) (keys_of xs) sorted m j)

pub count_within : (key : Key) (rows : List Row) → count_below key rows ≤ length rows
count_within key [] = omega arith
count_within key (x ∷ xs) = by_test (is_lt (key_cmp (key_of x) key)) (count_within key xs)
  where
    by_test : (b : Bool) → count_below key xs ≤ length xs → (if b then suc (count_below key xs) else 0) ≤ length (x ∷ xs)
    by_test true within = omega arith
    by_test false within = omega arith

-- the place of a lower key comes first
pub count_grows : (k l : Key) (rows : List Row) → key_cmp k l ≡ Less → count_below k rows ≤ count_below l rows
count_grows k l [] less = omega arith
count_grows k l (x ∷ xs) less = by_test (is_lt (key_cmp (key_of x) k)) refl (count_grows k l xs less)
  where
    by_test : (b : Bool) → is_lt (key_cmp (key_of x) k) ≡ b → count_below k xs ≤ count_below l xs → (if b then suc (count_below k xs) else 0) ≤ count_below l (x ∷ xs)
    by_test true e grows =
        let lower : is_lt (key_cmp (key_of x) l) ≡ true = ap is_lt (key_total.trans (key_of x) k l (is_less (key_cmp (key_of x) k) e) less) in
        rw lower (omega (arith, grows))
    by_test false e grows = omega arith

-- ---- the edges

-- where a key stands that stands in a part
in_dropped : (n : ℕ) (rows : List Row) (m : Key) → In m (keys_of (drop n rows)) → In m (keys_of rows)
in_dropped zero rows m h = h
in_dropped (suc n) [] m h = absurd h
in_dropped (suc n) (x ∷ xs) m h = inr (in_dropped n xs m h)

-- a list in order, cut in two
pub cut_in_order : (n : ℕ) (rows : List Row) → IsStrictlySortedBy key_cmp (keys_of rows) → Below (keys_of (take n rows)) (keys_of (drop n rows))
cut_in_order zero rows sorted k l h j = absurd h
cut_in_order (suc n) [] sorted k l h j = absurd h
cut_in_order (suc n) (x ∷ xs) sorted k l (inl is) j =
    subst (λ (m : Key). key_cmp m l ≡ Less) is (head_below (key_of x) (keys_of xs) sorted l (in_dropped n xs l j))
cut_in_order (suc n) (x ∷ xs) sorted k l (inr h) j = cut_in_order n xs (sorted_tail key_cmp (key_of x) (keys_of xs) sorted) k l h j

cut_twice : (e f : ℕ) (rows : List Row) → e ≤ f → drop e (take f rows) ++ drop f rows ≡ drop e rows
cut_twice zero f rows h = take-append-drop f rows
cut_twice (suc e) zero rows h = absurd (omega arith)
cut_twice (suc e) (suc f) [] h = refl
cut_twice (suc e) (suc f) (x ∷ xs) h = cut_twice e f xs (omega arith)

-- ---- one part, and the rest

-- what is known where a part ends, by the next row of the first side, if there is one
record EndsAt (x : Row) (next theirs : List Row) (f : ℕ) : Type 0 where
  rest : (m : Key) → In m (keys_of (drop f theirs)) → key_cmp (key_of x) m ≡ Less
  taken : Below (keys_of (take f theirs)) (keys_of next)

ends_at : (x : Row) (next theirs : List Row) → IsStrictlySortedBy key_cmp (keys_of (x ∷ next)) → IsStrictlySortedBy key_cmp (keys_of theirs)
    → EndsAt x next theirs (count_below_row theirs (slice_get next 0))
ends_at x [] theirs a b = record {
  rest = λ m h. absurd (subst (λ (rows : List Row). In m (keys_of rows)) (drop_all (length theirs) theirs (omega arith)) h);
  taken = λ k l h j. absurd j;
}
ends_at x (y ∷ ys) theirs a b = record {
  rest = before_dropped (key_of x) (key_of y) theirs b (head_below (key_of x) (keys_of (y ∷ ys)) a (key_of y) (inl refl));
  taken = λ k l h j. first k l (lower_taken (key_of y) theirs k h) j;
}
  where
    first : (k l : Key) → key_cmp k (key_of y) ≡ Less → In l (keys_of (y ∷ ys)) → key_cmp k l ≡ Less
    first k l less (inl is) = subst (λ (m : Key). key_cmp k m ≡ Less) is less
    first k l less (inr j) = key_total.trans k (key_of y) l less (head_below (key_of y) (keys_of ys) (sorted_tail key_cmp (key_of x) (keys_of (y ∷ ys)) a) l j)

in_cut : (e : ℕ) (rows : List Row) (m : Key) → In m (keys_of (drop e rows)) → In m (keys_of rows)
in_cut = in_dropped

-- a part is the lesser of its rows, and the rest is that of the others
part_step : (x : Row) (next theirs : List Row) (e f : ℕ) → IsStrictlySortedBy key_cmp (keys_of (x ∷ next)) → IsStrictlySortedBy key_cmp (keys_of theirs)
    → e ≤ f → EndsAt x next theirs f
    → lesser_rows (x ∷ next) (drop e theirs) ≡ lesser_rows (x ∷ []) (drop e (take f theirs)) ++ lesser_rows next (drop f theirs)
part_step x next theirs e f a b ordered ends =
    ap (lesser_rows (x ∷ next)) (sym (cut_twice e f theirs ordered))
    ∙ lesser_parts (x ∷ []) next (drop e (take f theirs)) (drop f theirs) (record {
      ours = one (keys_of next) (head_below (key_of x) (keys_of next) a);
      crossed = one (keys_of (drop f theirs)) ends.rest;
      across = λ k l h j. ends.taken k l (in_cut e (take f theirs) k h) j;
      theirs = λ k l h j. cut_in_order f theirs b k l (in_cut e (take f theirs) k h) j;
    })
  where
    one : (ls : List Key) → ((m : Key) → In m ls → key_cmp (key_of x) m ≡ Less) → Below (key_of x ∷ []) ls
    one ls before k l (inl is) j = subst (λ (m : Key). key_cmp m l ≡ Less) is (before l j)
    one ls before k l (inr h) j = absurd h

-- ---- the parts in order

slice_get_over : (rows : List Row) (i : ℕ) → length rows ≤ i → slice_get rows i ≡ None
slice_get_over [] i over = refl
slice_get_over (x ∷ xs) zero over = absurd (omega arith)
slice_get_over (x ∷ xs) (suc i) over = slice_get_over xs i (omega arith)

slice_get_drop : (rows : List Row) (i : ℕ) → slice_get (drop i rows) 0 ≡ slice_get rows i
slice_get_drop rows zero = refl
slice_get_drop [] (suc i) = refl
slice_get_drop (x ∷ xs) (suc i) = slice_get_drop xs i

row_at : (rows : List Row) (i : ℕ) → i < length rows → (x : Row) × (drop i rows ≡ x ∷ drop (suc i) rows) × (slice_get rows i ≡ Some x)
row_at [] i below = absurd (omega arith)
row_at (x ∷ xs) zero below = (x, refl, refl)
row_at (x ∷ xs) (suc i) below = row_at xs i (omega arith)

edge_last : (ours theirs : List Row) (i : ℕ) → 0 < i → length ours ≤ i → edge_of ours theirs i ≡ length theirs
edge_last ours theirs zero some over = absurd (omega arith)
edge_last ours theirs (suc i) some over = ap (count_below_row theirs) (slice_get_over ours (suc i) over)

grows : (x : Row) (next theirs : List Row) → IsStrictlySortedBy key_cmp (keys_of (x ∷ next)) → count_below (key_of x) theirs ≤ count_below_row theirs (slice_get next 0)
grows x [] theirs a = count_within (key_of x) theirs
grows x (y ∷ ys) theirs a = count_grows (key_of x) (key_of y) theirs (head_below (key_of x) (keys_of (y ∷ ys)) a (key_of y) (inl refl))

edge_low : (ours theirs : List Row) (i : ℕ) (x : Row) → slice_get ours i ≡ Some x → edge_of ours theirs i ≤ count_below (key_of x) theirs
edge_low ours theirs zero x e = omega arith
edge_low ours theirs (suc i) x e = let here : edge_of ours theirs (suc i) ≡ count_below (key_of x) theirs = ap (count_below_row theirs) e in omega (arith, here)

one_part : (ours theirs : List Row) (i : ℕ) → IsStrictlySortedBy key_cmp (keys_of ours) → IsStrictlySortedBy key_cmp (keys_of theirs) → i < length ours
    → (edge_of ours theirs i ≤ edge_of ours theirs (suc i))
    × (lesser_rows (drop i ours) (drop (edge_of ours theirs i) theirs) ≡ part_of ours theirs i ++ lesser_rows (drop (suc i) ours) (drop (edge_of ours theirs (suc i)) theirs))
one_part ours theirs i a b below =
    let at = row_at ours i below in
    let x = at.0 in
    let next = drop (suc i) ours in
    let sorted = subst (λ (rows : List Row). IsStrictlySortedBy key_cmp (keys_of rows)) at.1 (sorted_drop i ours a) in
    let f : count_below_row theirs (slice_get next 0) ≡ edge_of ours theirs (suc i) = ap (count_below_row theirs) (slice_get_drop ours (suc i)) in
    let low = edge_low ours theirs i x at.2 in
    let high = grows x next theirs sorted in
    let ordered : edge_of ours theirs i ≤ edge_of ours theirs (suc i) = omega (arith, low, high, f) in
    let ends = subst (EndsAt x next theirs) f (ends_at x next theirs sorted b) in
    let first : take 1 (drop i ours) ≡ x ∷ [] = ap (take 1) at.1 in
    let step = part_step x next theirs (edge_of ours theirs i) (edge_of ours theirs (suc i)) sorted b ordered ends in
    let one : suc i ≡ i + 1 = omega arith in
    let part : lesser_rows (x ∷ []) (drop (edge_of ours theirs i) (take (edge_of ours theirs (suc i)) theirs)) ≡ part_of ours theirs i =
    λ t. lesser_rows (sym first t) (drop (edge_of ours theirs i) (take (edge_of ours theirs (one t)) theirs)) in
    (ordered, (λ t. lesser_rows (at.1 t) (drop (edge_of ours theirs i) theirs)) ∙ step ∙ (λ t. part t ++ lesser_rows next (drop (edge_of ours theirs (suc i)) theirs)))

pub edge_ordered : (ours theirs : List Row) (i : ℕ) → IsStrictlySortedBy key_cmp (keys_of ours) → IsStrictlySortedBy key_cmp (keys_of theirs) → i < length ours
    → edge_of ours theirs i ≤ edge_of ours theirs (i + 1)
edge_ordered ours theirs i a b below =
    let one : suc i ≡ i + 1 = omega arith in
    subst (λ n. edge_of ours theirs i ≤ edge_of ours theirs n) one (one_part ours theirs i a b below).0

no_rows : lesser_rows [] [] ≡ []
unfolding lesser_rows
no_rows = refl

parts_from : (ours theirs : List Row) (n i : ℕ) → IsStrictlySortedBy key_cmp (keys_of ours) → IsStrictlySortedBy key_cmp (keys_of theirs) → i + n ≡ length ours → 0 < i + n
    → lesser_rows (drop i ours) (drop (edge_of ours theirs i) theirs) ≡ flat_map (λ l. l) (map (part_of ours theirs) (range_with_len i n))
parts_from ours theirs zero i a b e some =
    let ours_gone = drop_all i ours (omega arith) in
    let theirs_gone = ap (λ k. drop k theirs) (edge_last ours theirs i (omega arith) (omega arith)) ∙ drop_all (length theirs) theirs (omega arith) in
    (λ t. lesser_rows (ours_gone t) (theirs_gone t)) ∙ no_rows
parts_from ours theirs (suc n) i a b e some =
    let one : suc i ≡ i + 1 = omega arith in
    let rest = parts_from ours theirs n (suc i) a b (omega arith) (omega arith) in
    (one_part ours theirs i a b (omega arith)).1
    ∙ ap (λ (l : List Row). part_of ours theirs i ++ l) (rest ∙ ap (λ k. flat_map (λ l. l) (map (part_of ours theirs) (range_with_len k n))) one)

-- the parts of a list that has rows, in order, are the lesser of both
pub parts_are_whole : (ours theirs : List Row) → IsStrictlySortedBy key_cmp (keys_of ours) → IsStrictlySortedBy key_cmp (keys_of theirs) → 0 < length ours
    → lesser_rows ours theirs ≡ flat_map (λ l. l) (map (part_of ours theirs) (range_with_len 0 (length ours)))
parts_are_whole ours theirs a b some = parts_from ours theirs (length ours) 0 a b (omega arith) (omega arith)

-- ---- what a binary search answers

pub place_found : (rows : List Row) (key : Key) (i : ℕ) → IsStrictlySortedBy key_cmp (keys_of rows) → i < length rows → ((d : Row) → key_cmp (key_of (get_or rows i d)) key ≡ Equal)
    → i ≡ count_below key rows
place_found [] key i sorted below equal = absurd (omega arith)
place_found (x ∷ xs) key i sorted below equal =
    let same : key_of (get_or (x ∷ xs) i x) ≡ key = key_same (key_of (get_or (x ∷ xs) i x)) key (ap is_eq (equal x)) in
    count_is key (x ∷ xs) i x (omega arith)
    (λ k low. subst (λ (n : Key). key_cmp (key_of (get_or (x ∷ xs) k x)) n ≡ Less) same (less_by_places (x ∷ xs) k i x sorted low below))
    (λ _. ap is_lt (equal x))

all_taken : (key : Key) (n : ℕ) (rows : List Row) → AllByRecursion (λ m. key_cmp key m ≡ Less) (keys_of rows) → AllByRecursion (λ m. key_cmp key m ≡ Less) (keys_of (take n rows))
all_taken key zero rows all = tt
all_taken key (suc n) [] all = tt
all_taken key (suc n) (x ∷ xs) all = (all.0, all_taken key n xs all.1)

pub sorted_take : (n : ℕ) (rows : List Row) → IsStrictlySortedBy key_cmp (keys_of rows) → IsStrictlySortedBy key_cmp (keys_of (take n rows))
unfolding IsStrictlySortedBy
sorted_take zero rows sorted = tt
sorted_take (suc n) [] sorted = tt
sorted_take (suc n) (x ∷ xs) sorted = (all_taken (key_of x) n xs sorted.0, sorted_take n xs sorted.1)

pub place_missed : (rows : List Row) (key : Key) (i : ℕ) → i ≤ length rows → ((k : ℕ) (d : Row) → 0 ≤ k → k < i → key_cmp (key_of (get_or rows k d)) key ≡ Less)
    → ((k : ℕ) (d : Row) → i ≤ k → k < length rows → key_cmp (key_of (get_or rows k d)) key ≡ Greater) → i ≡ count_below key rows
place_missed [] key i within before after = omega arith
place_missed (x ∷ xs) key i within before after =
    count_is key (x ∷ xs) i x within (λ k low. before k x (omega arith) low) (λ low. ap is_lt (after i x (omega arith) low))
