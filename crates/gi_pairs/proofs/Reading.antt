-- What searching rows in table order finds.
use Rattle.std.proofs.Common.{◌≡◌, ℕ, zero, suc, ◌+◌, ◌-◌, ◌<◌, ◌≤◌, ◌&&◌, List, [], ◌∷◌, length, find, get_or, slice_index, nat_le as leb, true, false, Bool, Option, Some, None, refl, sym, ap, ◌∙◌, arith, subst, All}
use Rattle.std.specs.declared.cmp.Ordering.{Ordering}
use Rattle.std.specs.declared.cmp.Ordering.TheVariants.{Less, Equal, Greater}
use Rattle.std.specs.List.{AllByRecursion}
use Rattle.std.specs.List.Sorted.{IsStrictlySortedBy, IsNonDecreasingBy, IsPartitionPoint}
use Rattle.std.specs.Ordering.{is_eq, is_lt, ordering_index, ordering_reverse}
use Rattle.std.proofs.lemmas.Bool.Decides.{nat_tests}
use Rattle.std.proofs.lemmas.List.Sorted.{searchable_from_sorted}
use Rattle.gi_pairs.specs.Key.{key_cmp}
use Rattle.gi_pairs.specs.Row.{key_of}
use Rattle.gi_pairs.specs.Table.{TableContents, IsTable, covered, is_at, keys_of, quantity_of, reading}
use Rattle.gi_pairs.specs.declared.direction.Direction.{Direction}
use Rattle.gi_pairs.specs.declared.pair.Pair.{Pair}
use Rattle.std.proofs.lemmas.List.Elements.{All-head, All-tail}
use Rattle.gi_pairs.specs.declared.key.Key.{Key}
use Rattle.gi_pairs.specs.declared.row.Row.{Row}
use Rattle.gi_pairs.proofs.KeyOrder.{key_total, key_same}

-- the first element that passes is found
pub find_first : {X : Type 0} (p : X → Bool) (xs : List X) (i : ℕ) (x d : X) → i < length xs → get_or xs i d ≡ x → p x ≡ true
    → ((k : ℕ) → k < i → p (get_or xs k d) ≡ false) → find p xs ≡ Some x
find_first p [] i x d below is passes before = absurd (omega arith)
find_first p (y ∷ ys) zero x d below is passes before = let here : p y ≡ true = ap p is ∙ passes in rw here (ap Some is)
find_first p (y ∷ ys) (suc i) x d below is passes before =
    let here : p y ≡ false = before 0 (omega arith) in
    rw here (find_first p ys i x d (omega arith) is passes (λ k h. before (suc k) (omega arith)))

-- nothing is found where nothing passes
pub find_nothing : {X : Type 0} (p : X → Bool) (xs : List X) (d : X) → ((k : ℕ) → k < length xs → p (get_or xs k d) ≡ false) → find p xs ≡ None
find_nothing p [] d h = refl
find_nothing p (y ∷ ys) d h =
    let here : p y ≡ false = h 0 (omega arith) in
    rw here (find_nothing p ys d (λ k below. h (suc k) (omega arith)))

less_at : (key : Key) (rows : List Row) (i : ℕ) (d : Row) → AllByRecursion (λ y. key_cmp key y ≡ Less) (keys_of rows) → i < length rows → key_cmp key (key_of (get_or rows i d)) ≡ Less
less_at key [] i d all below = absurd (omega arith)
less_at key (x ∷ xs) zero d all below = all.0
less_at key (x ∷ xs) (suc i) d all below = less_at key xs i d all.1 (omega arith)

-- of two rows in table order the first has the lesser key
pub less_by_places : (rows : List Row) (k i : ℕ) (d : Row) → IsStrictlySortedBy key_cmp (keys_of rows) → k < i → i < length rows
    → key_cmp (key_of (get_or rows k d)) (key_of (get_or rows i d)) ≡ Less
unfolding IsStrictlySortedBy
less_by_places [] k i d sorted h below = absurd (omega arith)
less_by_places (x ∷ xs) k zero d sorted h below = absurd (omega arith)
less_by_places (x ∷ xs) zero (suc i) d sorted h below = less_at (key_of x) xs i d sorted.0 (omega arith)
less_by_places (x ∷ xs) (suc k) (suc i) d sorted h below = less_by_places xs k i d sorted.1 (omega arith) (omega arith)

-- a row that a binary search found is the first row of its key
pub find_found : (rows : List Row) (key : Key) (i : ℕ) (row : Row) → IsStrictlySortedBy key_cmp (keys_of rows) → i < length rows → row ≡ get_or rows i row
    → ((d : Row) → key_cmp (key_of (get_or rows i d)) key ≡ Equal) → find (is_at key) rows ≡ Some row
find_found rows key i row sorted below is equal =
    let found : key_cmp (key_of row) key ≡ Equal = subst (λ (w : Row). key_cmp (key_of w) key ≡ Equal) (sym is) (equal row) in
    let same : key_of row ≡ key = key_same (key_of row) key (ap is_eq found) in
    find_first (is_at key) rows i row row below (sym is) (ap is_eq found)
    (λ k h.
    let less = less_by_places rows k i row sorted h below in
    let row_less = subst (λ (w : Row). key_cmp (key_of (get_or rows k row)) (key_of w) ≡ Less) (sym is) less in
    ap is_eq (subst (λ (w : Key). key_cmp (key_of (get_or rows k row)) w ≡ Less) same row_less))

greater_is_not_less : (o p : Ordering) → o ≡ ordering_reverse p → p ≡ Less → is_lt o ≡ false
greater_is_not_less o p e less = ap is_lt (e ∙ ap ordering_reverse less)

-- rows in table order can be searched by halves
pub searchable : (rows : List Row) (key : Key) → IsStrictlySortedBy key_cmp (keys_of rows) → IsNonDecreasingBy (λ row. ordering_index (key_cmp (key_of row) key)) rows
searchable rows key sorted =
    searchable_from_sorted key_total key_of rows key
    (λ k d low below.
    greater_is_not_less _ _ (key_total.antisymm (key_of (get_or rows (k + 1) d)) (key_of (get_or rows k d)))
    (less_by_places rows k (k + 1) d sorted (omega arith) below))

-- where a binary search met no row of the key, there is none
pub find_missed : (rows : List Row) (key : Key) (i : ℕ)
    → IsPartitionPoint (λ row. key_cmp (key_of row) key ≡ Less) (λ row. key_cmp (key_of row) key ≡ Greater) rows i → find (is_at key) rows ≡ None
find_missed [] key i point = refl
find_missed (x ∷ xs) key i point = find_nothing (is_at key) (x ∷ xs) x (λ k below. apart k below (leb i k) refl)
  where
    apart : (k : ℕ) → k < length (x ∷ xs) → (b : Bool) → leb i k ≡ b → is_at key (get_or (x ∷ xs) k x) ≡ false
    apart k below true e = ap is_eq (point.1 k x (grind (arith, nat_tests, e)) below)
    apart k below false e = ap is_eq (point.0 k x (omega arith) (grind (arith, nat_tests, e)))

-- what holds of each element holds of one that is found
pub find_all : {X : Type 0} (P : X → Type 0) (p : X → Bool) (xs : List X) (x : X) → All P xs → find p xs ≡ Some x → P x
find_all P p [] x all found = cc
find_all P p (y ∷ ys) x all found = by_test (p y) refl (λ rest. find_all P p ys x (All-tail P y ys all) rest)
  where
    by_test : (b : Bool) → p y ≡ b → (find p ys ≡ Some x → P x) → P x
    by_test true e rest = let here : find p (y ∷ ys) ≡ Some y = rw e refl in let same : y ≡ x = cc in subst P same (All-head P y ys all)
    by_test false e rest = let here : find p (y ∷ ys) ≡ find p ys = rw e refl in rest (sym here ∙ found)

outside : (t : TableContents) (hour : ℕ) (row : Option Row) → (leb t.first hour && leb hour t.last) ≡ false → quantity_of t hour row ≡ 0
outside t hour None e = refl
outside t hour (Some row) e = rw e refl

-- outside its hours a table reads 0
pub reading-outside : (t : TableContents) (pair : Pair) (direction : Direction) (hour : ℕ) → (leb t.first hour && leb hour t.last) ≡ false → reading t pair direction hour ≡ 0
unfolding reading
reading-outside t pair direction hour e = outside t hour (find (is_at (record { pair = pair; direction = direction })) t.rows) e

-- where there is no row, a table reads 0
pub reading-missed : (t : TableContents) (pair : Pair) (direction : Direction) (hour : ℕ) → find (is_at (record { pair = pair; direction = direction })) t.rows ≡ None → reading t pair direction hour ≡ 0
unfolding reading
reading-missed t pair direction hour e = ap (quantity_of t hour) e

inside_is : (t : TableContents) (hour : ℕ) (row : Row) → (leb t.first hour && leb hour t.last) ≡ true → quantity_of t hour (Some row) ≡ slice_index row.hours (hour - t.first)
inside_is t hour row e = rw e refl

-- where there is a row, a table reads what that has for the hour
pub reading-found : (t : TableContents) (pair : Pair) (direction : Direction) (hour : ℕ) (row : Row) → find (is_at (record { pair = pair; direction = direction })) t.rows ≡ Some row
    → (leb t.first hour && leb hour t.last) ≡ true → reading t pair direction hour ≡ slice_index row.hours (hour - t.first)
unfolding reading
reading-found t pair direction hour row found e = ap (quantity_of t hour) found ∙ inside_is t hour row e

-- a row that is found has each hour that the table covers
pub in_row : (t : TableContents) (pair : Pair) (direction : Direction) (hour : ℕ) (row : Row) (hours : List ℕ) (place : ℕ) → IsTable t
    → find (is_at (record { pair = pair; direction = direction })) t.rows ≡ Some row → hours ≡ row.hours → place ≡ hour - t.first
    → t.first ≤ hour → hour ≤ t.last → place < length hours
in_row t pair direction hour row hours place table found same at low high =
    let whole = find_all (λ (r : Row). length r.hours ≡ covered t.first t.last) (is_at (record { pair = pair; direction = direction })) t.rows row table.whole found in
    omega (arith, whole, ap length same)
