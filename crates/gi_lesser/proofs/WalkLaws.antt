-- How the walk over both lists goes on, and that it gives the lesser's rows.
use Rattle.std.proofs.Common.{◌≡◌, ℕ, zero, suc, ◌+◌, ◌<◌, ◌≤◌, List, [], ◌∷◌, ◌++◌, length, map, drop, find, get_or, append_assoc, true, false, Bool, Option, Some, ◌⊎◌, inl, inr, refl, sym, ap, ◌∙◌, arith, subst, if◌then◌else◌}
use Rattle.std.specs.declared.cmp.Ordering.{Ordering}
use Rattle.std.specs.declared.cmp.Ordering.TheVariants.{Less, Equal, Greater}
use Rattle.std.specs.List.Sorted.{IsStrictlySortedBy}
use Rattle.std.specs.Ordering.{is_eq, is_ge, is_le, is_lt, ordering_reverse}
use Rattle.std.proofs.lemmas.List.{append-nil, drop_all, drop_more, map-append}
use Rattle.std.proofs.lemmas.Map.Keys.{sorted_tail}
use Rattle.gi_pairs.specs.Key.{key_cmp}
use Rattle.gi_pairs.specs.Row.{key_of}
use Rattle.gi_pairs.specs.Table.{is_at, keys_of}
use Rattle.gi_pairs.specs.declared.key.Key.{Key}
use Rattle.gi_pairs.specs.declared.row.Row.{Row}
use Rattle.gi_pairs.proofs.Building.{In}
use Rattle.gi_pairs.proofs.KeyOrder.{key_refl, key_same, key_total, not_less_self}
use Rattle.gi_pairs.proofs.Members.{find_absent}
use Rattle.gi_lesser.specs.Walk.{alone, first_of_both, lesser_rows, lower_at, lower_found, lower_hours, union_of, with_hours}
use Rattle.gi_lesser.proofs.Union.{Below, from_union, head_below, union_parts}

pub map_in : (f g : Key → Row) (ks : List Key) → ((k : Key) → In k ks → f k ≡ g k) → map f ks ≡ map g ks
map_in f g [] same = refl
map_in f g (k ∷ ks) same = λ i. same k (inl refl) i ∷ map_in f g ks (λ l h. same l (inr h)) i

-- ---- which row is found in the two parts of a list

found_left : (b : Bool) (x : Row) (rest all : Option Row) → all ≡ rest → (if b then Some x else all) ≡ (if b then Some x else rest)
found_left b x rest all e = ap (λ o. if b then Some x else o) e

find_left : (key : Key) (a b : List Row) → (In key (keys_of b) → ⊥) → find (is_at key) (a ++ b) ≡ find (is_at key) a
find_left key [] b never = find_absent b key never
find_left key (x ∷ xs) b never = found_left (is_at key x) x (find (is_at key) xs) (find (is_at key) (xs ++ b)) (find_left key xs b never)

find_right : (key : Key) (a b : List Row) → (In key (keys_of a) → ⊥) → find (is_at key) (a ++ b) ≡ find (is_at key) b
find_right key [] b never = refl
find_right key (x ∷ xs) b never = by_test (is_at key x) refl (find_right key xs b (λ h. never (inr h)))
  where
    by_test : (t : Bool) → is_at key x ≡ t → find (is_at key) (xs ++ b) ≡ find (is_at key) b → find (is_at key) ((x ∷ xs) ++ b) ≡ find (is_at key) b
    by_test true e rest = absurd (never (inl (key_same (key_of x) key e)))
    by_test false e rest = rw e rest

-- ---- the lesser of two parts and two more

-- the rows of a and c come before those of b and d
pub record ArePartedAt (a b c d : List Row) : Type 0 where
  pub ours : Below (keys_of a) (keys_of b)
  pub crossed : Below (keys_of a) (keys_of d)
  pub across : Below (keys_of c) (keys_of b)
  pub theirs : Below (keys_of c) (keys_of d)

apart : (m : Key) (ks ls : List Key) → Below ks ls → In m ks → In m ls → ⊥
apart m ks ls below h j = not_less_self m (below m m h j)

rows_left : (a b c d : List Row) (key : Key) → ArePartedAt a b c d → In key (union_of (keys_of a) (keys_of c)) → lower_at (a ++ b) (c ++ d) key ≡ lower_at a c key
rows_left a b c d key parted h =
    let ours = find_left key a b (λ j. elim (from_union key (keys_of a) (keys_of c) h)
    [ inl i ↦ apart key (keys_of a) (keys_of b) parted.ours i j | inr i ↦ apart key (keys_of c) (keys_of b) parted.across i j ]) in
    let theirs = find_left key c d (λ j. elim (from_union key (keys_of a) (keys_of c) h)
    [ inl i ↦ apart key (keys_of a) (keys_of d) parted.crossed i j | inr i ↦ apart key (keys_of c) (keys_of d) parted.theirs i j ]) in
    λ i. lower_found key (ours i) (theirs i)

rows_right : (a b c d : List Row) (key : Key) → ArePartedAt a b c d → In key (union_of (keys_of b) (keys_of d)) → lower_at (a ++ b) (c ++ d) key ≡ lower_at b d key
rows_right a b c d key parted h =
    let ours = find_right key a b (λ j. elim (from_union key (keys_of b) (keys_of d) h)
    [ inl i ↦ apart key (keys_of a) (keys_of b) parted.ours j i | inr i ↦ apart key (keys_of a) (keys_of d) parted.crossed j i ]) in
    let theirs = find_right key c d (λ j. elim (from_union key (keys_of b) (keys_of d) h)
    [ inl i ↦ apart key (keys_of c) (keys_of b) parted.across j i | inr i ↦ apart key (keys_of c) (keys_of d) parted.theirs j i ]) in
    λ i. lower_found key (ours i) (theirs i)

-- Two pairs of lists, of which the first comes before the second: the lesser of the whole is that of the first, and then that of the second.
pub lesser_parts : (a b c d : List Row) → ArePartedAt a b c d → lesser_rows (a ++ b) (c ++ d) ≡ lesser_rows a c ++ lesser_rows b d
unfolding lesser_rows
lesser_parts a b c d parted =
    let ours = map-append key_of a b in
    let theirs = map-append key_of c d in
    let keys : union_of (keys_of (a ++ b)) (keys_of (c ++ d)) ≡ union_of (keys_of a) (keys_of c) ++ union_of (keys_of b) (keys_of d) =
    (λ i. union_of (ours i) (theirs i)) ∙ union_parts (keys_of a) (keys_of b) (keys_of c) (keys_of d) parted.ours parted.crossed parted.across in
    let left = map_in (lower_at (a ++ b) (c ++ d)) (lower_at a c) (union_of (keys_of a) (keys_of c)) (λ k h. rows_left a b c d k parted h) in
    let right = map_in (lower_at (a ++ b) (c ++ d)) (lower_at b d) (union_of (keys_of b) (keys_of d)) (λ k h. rows_right a b c d k parted h) in
    ap (map (lower_at (a ++ b) (c ++ d))) keys
    ∙ map-append (lower_at (a ++ b) (c ++ d)) (union_of (keys_of a) (keys_of c)) (union_of (keys_of b) (keys_of d))
    ∙ (λ i. left i ++ right i)

-- ---- one row more

one_ours : (x : Row) → lesser_rows (x ∷ []) [] ≡ alone x ∷ []
unfolding lesser_rows
one_ours x = rw (key_refl (key_of x)) refl

one_theirs : (y : Row) → lesser_rows [] (y ∷ []) ≡ alone y ∷ []
unfolding lesser_rows
one_theirs y = rw (key_refl (key_of y)) refl

equal_tests : (o : Ordering) → o ≡ Equal → (is_lt o ≡ false) × (is_eq o ≡ true)
equal_tests o e = (ap is_lt e, ap is_eq e)

one_of_both : (x y : Row) → key_cmp (key_of x) (key_of y) ≡ Equal → lesser_rows (x ∷ []) (y ∷ []) ≡ with_hours x (lower_hours x y) ∷ []
unfolding lesser_rows
one_of_both x y equal =
    let tests = equal_tests (key_cmp (key_of x) (key_of y)) equal in
    let here : union_of (key_of x ∷ []) (key_of y ∷ []) ≡ key_of y ∷ [] = rw (tests.0, tests.1) refl in
    let refl_y = key_refl (key_of y) in
    ap (map (lower_at (x ∷ []) (y ∷ []))) here ∙ rw (tests.1, refl_y) refl

-- the row comes before all of the list
abbrev pub Before : Row → List Row → Type 0
Before x rows = (m : Key) → In m (keys_of rows) → key_cmp (key_of x) m ≡ Less

below_one : (x : Row) (rows : List Row) → Before x rows → Below (keys_of (x ∷ [])) (keys_of rows)
below_one x rows before k l (inl e) j = subst (λ (m : Key). key_cmp m l ≡ Less) e (before l j)
below_one x rows before k l (inr h) j = absurd h

nothing_below : (rows : List Row) → Below (keys_of []) (keys_of rows)
nothing_below rows k l h j = absurd h

pub step_ours : (x : Row) (xs theirs : List Row) → Before x xs → Before x theirs → lesser_rows (x ∷ xs) theirs ≡ alone x ∷ lesser_rows xs theirs
step_ours x xs theirs rest other =
    lesser_parts (x ∷ []) xs [] theirs (record { ours = below_one x xs rest; crossed = below_one x theirs other; across = nothing_below xs; theirs = nothing_below theirs })
    ∙ ap (λ (l : List Row). l ++ lesser_rows xs theirs) (one_ours x)

pub step_theirs : (y : Row) (ours ys : List Row) → Before y ours → Before y ys → lesser_rows ours (y ∷ ys) ≡ alone y ∷ lesser_rows ours ys
step_theirs y ours ys other rest =
    lesser_parts [] ours (y ∷ []) ys (record { ours = nothing_below ours; crossed = nothing_below ys; across = below_one y ours other; theirs = below_one y ys rest })
    ∙ ap (λ (l : List Row). l ++ lesser_rows ours ys) (one_theirs y)

pub step_both : (x y : Row) (xs ys : List Row) → key_cmp (key_of x) (key_of y) ≡ Equal → Before x xs → Before y ys
    → lesser_rows (x ∷ xs) (y ∷ ys) ≡ with_hours x (lower_hours x y) ∷ lesser_rows xs ys
step_both x y xs ys equal ours theirs =
    let same : key_of x ≡ key_of y = key_same (key_of x) (key_of y) (ap is_eq equal) in
    let x_theirs : Before x ys = λ m h. subst (λ (k : Key). key_cmp k m ≡ Less) (sym same) (theirs m h) in
    let y_ours : Before y xs = λ m h. subst (λ (k : Key). key_cmp k m ≡ Less) same (ours m h) in
    lesser_parts (x ∷ []) xs (y ∷ []) ys (record { ours = below_one x xs ours; crossed = below_one x ys x_theirs; across = below_one y xs y_ours; theirs = below_one y ys theirs })
    ∙ ap (λ (l : List Row). l ++ lesser_rows xs ys) (one_of_both x y equal)

no_rows : lesser_rows [] [] ≡ []
unfolding lesser_rows
no_rows = refl

-- rows of one side, where the other has none
pub all_ours : (rows : List Row) → IsStrictlySortedBy key_cmp (keys_of rows) → lesser_rows rows [] ≡ map alone rows
all_ours [] sorted = no_rows
all_ours (x ∷ xs) sorted =
    step_ours x xs [] (head_below (key_of x) (keys_of xs) sorted) (λ m h. absurd h)
    ∙ ap (λ (l : List Row). alone x ∷ l) (all_ours xs (sorted_tail key_cmp (key_of x) (keys_of xs) sorted))

pub all_theirs : (rows : List Row) → IsStrictlySortedBy key_cmp (keys_of rows) → lesser_rows [] rows ≡ map alone rows
all_theirs [] sorted = no_rows
all_theirs (y ∷ ys) sorted =
    step_theirs y [] ys (λ m h. absurd h) (head_below (key_of y) (keys_of ys) sorted)
    ∙ ap (λ (l : List Row). alone y ∷ l) (all_theirs ys (sorted_tail key_cmp (key_of y) (keys_of ys) sorted))

-- ---- one turn of the walk

pub sorted_drop : (i : ℕ) (rows : List Row) → IsStrictlySortedBy key_cmp (keys_of rows) → IsStrictlySortedBy key_cmp (keys_of (drop i rows))
sorted_drop zero rows sorted = sorted
sorted_drop (suc i) [] sorted = sorted
sorted_drop (suc i) (x ∷ xs) sorted = sorted_drop i xs (sorted_tail key_cmp (key_of x) (keys_of xs) sorted)

before_both : (x y : Row) (ys : List Row) → key_cmp (key_of x) (key_of y) ≡ Less → IsStrictlySortedBy key_cmp (keys_of (y ∷ ys)) → Before x (y ∷ ys)
before_both x y ys less sorted m (inl e) = subst (λ (k : Key). key_cmp (key_of x) k ≡ Less) e less
before_both x y ys less sorted m (inr h) = key_total.trans (key_of x) (key_of y) m less (head_below (key_of y) (keys_of ys) sorted m h)

head_step : (o : Ordering) (x y : Row) (xs ys : List Row) → o ≡ key_cmp (key_of x) (key_of y) → IsStrictlySortedBy key_cmp (keys_of (x ∷ xs)) → IsStrictlySortedBy key_cmp (keys_of (y ∷ ys))
    → lesser_rows (x ∷ xs) (y ∷ ys) ≡ first_of_both o x y ∷ lesser_rows (if is_le o then xs else x ∷ xs) (if is_ge o then ys else y ∷ ys)
head_step Less x y xs ys e a b = step_ours x xs (y ∷ ys) (head_below (key_of x) (keys_of xs) a) (before_both x y ys (sym e) b)
head_step Equal x y xs ys e a b = step_both x y xs ys (sym e) (head_below (key_of x) (keys_of xs) a) (head_below (key_of y) (keys_of ys) b)
head_step Greater x y xs ys e a b =
    let less : key_cmp (key_of y) (key_of x) ≡ Less = key_total.antisymm (key_of y) (key_of x) ∙ ap ordering_reverse (sym e) in
    step_theirs y (x ∷ xs) ys (before_both y x xs less a) (head_below (key_of y) (keys_of ys) b)

dropped_if : (b : Bool) (xs : List Row) (i : ℕ) (x : Row) → drop i xs ≡ x ∷ drop (i + 1) xs → drop (i + (if b then 1 else 0)) xs ≡ (if b then drop (i + 1) xs else x ∷ drop (i + 1) xs)
dropped_if true xs i x e = refl
dropped_if false xs i x e = let none : i + 0 ≡ i = omega arith in ap (λ n. drop n xs) none ∙ e

-- one turn: the first row of both, and what is left of both
pub turn : (ours theirs : List Row) (i j : ℕ) (x y row : Row) (o : Ordering) (so_far more : List Row) → IsStrictlySortedBy key_cmp (keys_of ours) → IsStrictlySortedBy key_cmp (keys_of theirs)
    → i < length ours → j < length theirs → x ≡ get_or ours i x → y ≡ get_or theirs j y → o ≡ key_cmp (key_of x) (key_of y) → row ≡ first_of_both o x y
    → so_far ++ lesser_rows (drop i ours) (drop j theirs) ≡ lesser_rows ours theirs → more ≡ so_far ++ row ∷ []
    → more ++ lesser_rows (drop (i + (if is_le o then 1 else 0)) ours) (drop (j + (if is_ge o then 1 else 0)) theirs) ≡ lesser_rows ours theirs
turn ours theirs i j x y row o so_far more a b low high here there order made so pushed =
    let of_ours : drop i ours ≡ x ∷ drop (i + 1) ours = drop_more ours i x low ∙ ap (λ (r : Row). r ∷ drop (i + 1) ours) (sym here) in
    let of_theirs : drop j theirs ≡ y ∷ drop (j + 1) theirs = drop_more theirs j y high ∙ ap (λ (r : Row). r ∷ drop (j + 1) theirs) (sym there) in
    let rest_ours = if is_le o then drop (i + 1) ours else x ∷ drop (i + 1) ours in
    let rest_theirs = if is_ge o then drop (j + 1) theirs else y ∷ drop (j + 1) theirs in
    let step = head_step o x y (drop (i + 1) ours) (drop (j + 1) theirs) order
    (subst (λ (l : List Row). IsStrictlySortedBy key_cmp (keys_of l)) of_ours (sorted_drop i ours a)) (subst (λ (l : List Row). IsStrictlySortedBy key_cmp (keys_of l)) of_theirs (sorted_drop j theirs b)) in
    let whole : lesser_rows (drop i ours) (drop j theirs) ≡ row ∷ lesser_rows rest_ours rest_theirs =
    (λ t. lesser_rows (of_ours t) (of_theirs t)) ∙ step ∙ ap (λ (r : Row). r ∷ lesser_rows rest_ours rest_theirs) (sym made) in
    let left : lesser_rows (drop (i + (if is_le o then 1 else 0)) ours) (drop (j + (if is_ge o then 1 else 0)) theirs) ≡ lesser_rows rest_ours rest_theirs =
    λ t. lesser_rows (dropped_if (is_le o) ours i x of_ours t) (dropped_if (is_ge o) theirs j y of_theirs t) in
    (λ t. pushed t ++ left t) ∙ append_assoc so_far (row ∷ []) (lesser_rows rest_ours rest_theirs) ∙ ap (λ (l : List Row). so_far ++ l) (sym whole) ∙ so

rest_alone : (ours theirs : List Row) (i j : ℕ) → IsStrictlySortedBy key_cmp (keys_of ours) → IsStrictlySortedBy key_cmp (keys_of theirs)
    → (length ours ≤ i) ⊎ (length theirs ≤ j) → lesser_rows (drop i ours) (drop j theirs) ≡ map alone (drop i ours) ++ map alone (drop j theirs)
rest_alone ours theirs i j a b (inl over) =
    let gone = drop_all i ours over in
    (λ t. lesser_rows (gone t) (drop j theirs)) ∙ all_theirs (drop j theirs) (sorted_drop j theirs b) ∙ (λ t. map alone (sym gone t) ++ map alone (drop j theirs))
rest_alone ours theirs i j a b (inr over) =
    let gone = drop_all j theirs over in
    (λ t. lesser_rows (drop i ours) (gone t)) ∙ all_ours (drop i ours) (sorted_drop i ours a) ∙ sym (append-nil (map alone (drop i ours)))
    ∙ (λ t. map alone (drop i ours) ++ map alone (sym gone t))

-- what is left of one side ends the walk
pub ended : (ours theirs : List Row) (i j : ℕ) (so_far with_ours all : List Row) → IsStrictlySortedBy key_cmp (keys_of ours) → IsStrictlySortedBy key_cmp (keys_of theirs)
    → (length ours ≤ i) ⊎ (length theirs ≤ j) → so_far ++ lesser_rows (drop i ours) (drop j theirs) ≡ lesser_rows ours theirs
    → with_ours ≡ so_far ++ map alone (drop i ours) → all ≡ with_ours ++ map alone (drop j theirs) → all ≡ lesser_rows ours theirs
ended ours theirs i j so_far with_ours all a b over so first second =
    second ∙ (λ t. first t ++ map alone (drop j theirs)) ∙ append_assoc so_far (map alone (drop i ours)) (map alone (drop j theirs))
    ∙ ap (λ (l : List Row). so_far ++ l) (sym (rest_alone ours theirs i j a b over)) ∙ so
