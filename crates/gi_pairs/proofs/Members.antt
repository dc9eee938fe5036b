-- What stands in a list, through maps and filters, and which row is found.
use Rattle.std.proofs.Common.{◌≡◌, List, [], ◌∷◌, ◌++◌, map, filter, find, get_or, true, false, Bool, Some, None, Option, ◌⊎◌, inl, inr, refl, sym, ap, ◌∙◌, subst, if◌then◌else◌}
use Rattle.std.specs.declared.cmp.Ordering.{Ordering}
use Rattle.std.specs.declared.cmp.Ordering.TheVariants.{Less, Equal, Greater}
use Rattle.std.specs.List.{list_any}
use Rattle.std.proofs.lemmas.Bool.{or_parts}
use Rattle.std.proofs.lemmas.List.{get_or_default}
use Rattle.std.specs.List.Sorted.{IsStrictlySortedBy}
use Rattle.std.specs.Ordering.{is_eq}
use Rattle.gi_pairs.specs.Key.{key_cmp}
use Rattle.gi_pairs.specs.Row.{key_of}
use Rattle.gi_pairs.specs.Table.{is_at, keys_of, repeats}
use Rattle.gi_pairs.specs.declared.key.Key.{Key}
use Rattle.gi_pairs.specs.declared.row.Row.{Row}
use Rattle.gi_pairs.proofs.Building.{In, contains_from_in}
use Rattle.gi_pairs.proofs.KeyOrder.{key_refl, key_same}
use Rattle.gi_pairs.proofs.Reading.{find_found}

pub in_map : {X Y : Type 0} (f : X → Y) (x : X) (xs : List X) → In x xs → In (f x) (map f xs)
in_map f x [] h = absurd h
in_map f x (y ∷ ys) (inl e) = inl (ap f e)
in_map f x (y ∷ ys) (inr h) = inr (in_map f x ys h)

-- what stands in a map is the image of something
pub from_map : {X Y : Type 0} (f : X → Y) (y : Y) (xs : List X) → In y (map f xs) → (x : X) × (In x xs) × (f x ≡ y)
from_map f y [] h = absurd h
from_map f y (x ∷ xs) (inl e) = (x, inl refl, e)
from_map f y (x ∷ xs) (inr h) = let found = from_map f y xs h in (found.0, inr found.1, found.2)

pub in_append_left : {X : Type 0} (x : X) (xs ys : List X) → In x xs → In x (xs ++ ys)
in_append_left x [] ys h = absurd h
in_append_left x (z ∷ zs) ys (inl e) = inl e
in_append_left x (z ∷ zs) ys (inr h) = inr (in_append_left x zs ys h)

pub in_append_right : {X : Type 0} (x : X) (xs ys : List X) → In x ys → In x (xs ++ ys)
in_append_right x [] ys h = h
in_append_right x (z ∷ zs) ys h = inr (in_append_right x zs ys h)

pub from_append : {X : Type 0} (x : X) (xs ys : List X) → In x (xs ++ ys) → In x xs ⊎ In x ys
from_append x [] ys h = inr h
from_append x (z ∷ zs) ys (inl e) = inl (inl e)
from_append x (z ∷ zs) ys (inr h) = elim (from_append x zs ys h) [ inl k ↦ inl (inr k) | inr k ↦ inr k ]

kept : {X : Type 0} (b : Bool) (y x : X) (rest : List X) → In x rest → In x (if b then y ∷ rest else rest)
kept true y x rest h = inr h
kept false y x rest h = h

pub in_filter : {X : Type 0} (p : X → Bool) (x : X) (xs : List X) → In x xs → p x ≡ true → In x (filter p xs)
in_filter p x [] h e = absurd h
in_filter p x (y ∷ ys) (inl is) e = let here : p y ≡ true = ap p is ∙ e in rw here (inl is)
in_filter p x (y ∷ ys) (inr h) e = kept (p y) y x (filter p ys) (in_filter p x ys h e)

filtered_by : {X : Type 0} (p : X → Bool) (b : Bool) (x y : X) (ys rest : List X) → p y ≡ b → In x (if b then y ∷ rest else rest) → (In x rest → (In x ys) × (p x ≡ true)) → (In x (y ∷ ys)) × (p x ≡ true)
filtered_by p true x y ys rest e (inl is) f = (inl is, ap p (sym is) ∙ e)
filtered_by p true x y ys rest e (inr k) f = let found = f k in (inr found.0, found.1)
filtered_by p false x y ys rest e k f = let found = f k in (inr found.0, found.1)

pub from_filter : {X : Type 0} (p : X → Bool) (x : X) (xs : List X) → In x (filter p xs) → (In x xs) × (p x ≡ true)
from_filter p x [] h = absurd h
from_filter p x (y ∷ ys) h = filtered_by p (p y) x y ys (filter p ys) refl h (λ k. from_filter p x ys k)

equal_from_test : (o : Ordering) → is_eq o ≡ true → o ≡ Equal
equal_from_test Less e = cc
equal_from_test Equal e = refl
equal_from_test Greater e = cc

-- a row of rows in table order is the one found under its key
pub find_member : (rows : List Row) (row : Row) → IsStrictlySortedBy key_cmp (keys_of rows) → In row rows → find (is_at (key_of row)) rows ≡ Some row
find_member rows row sorted h =
    let place = contains_from_in row rows h in
    find_found rows (key_of row) place.0 row sorted place.1 (sym place.2)
    (λ d.
    let same : get_or rows place.0 d ≡ row = get_or_default rows place.0 d row place.1 ∙ place.2 in
    subst (λ (w : Row). key_cmp (key_of w) (key_of row) ≡ Equal) (sym same) (equal_from_test (key_cmp (key_of row) (key_of row)) (key_refl (key_of row))))

found_by : (b : Bool) (key : Key) (x row : Row) (xs : List Row) → is_at key x ≡ b → (if b then Some x else find (is_at key) xs) ≡ Some row
    → (find (is_at key) xs ≡ Some row → (In row xs) × (key_of row ≡ key)) → (In row (x ∷ xs)) × (key_of row ≡ key)
found_by true key x row xs at e f = let same : x ≡ row = cc in (inl same, ap key_of (sym same) ∙ key_same (key_of x) key at)
found_by false key x row xs at e f = let found = f e in (inr found.0, found.1)

-- a row that is found has the key, and stands among the rows
pub found_is : (rows : List Row) (key : Key) (row : Row) → find (is_at key) rows ≡ Some row → (In row rows) × (key_of row ≡ key)
found_is [] key row e = cc
found_is (x ∷ xs) key row e = found_by (is_at key x) key x row xs refl e (λ rest. found_is xs key row rest)

-- under a key that no row has, nothing is found
pub find_absent : (rows : List Row) (key : Key) → (In key (keys_of rows) → ⊥) → find (is_at key) rows ≡ None
find_absent rows key never = by_answer (find (is_at key) rows) refl
  where
    by_answer : (o : Option Row) → find (is_at key) rows ≡ o → o ≡ None
    by_answer None e = refl
    by_answer (Some row) e = let found = found_is rows key row e in absurd (never (subst (λ (k : Key). In k (keys_of rows)) found.1 (in_map key_of row rows found.0)))

-- under a key that a row has, that row is found
pub find_present : (rows : List Row) (key : Key) → IsStrictlySortedBy key_cmp (keys_of rows) → In key (keys_of rows)
    → (row : Row) × (In row rows) × (key_of row ≡ key) × (find (is_at key) rows ≡ Some row)
find_present rows key sorted h =
    let row = from_map key_of key rows h in
    (row.0, row.1, row.2, subst (λ (k : Key). find (is_at k) rows ≡ Some row.0) row.2 (find_member rows row.0 sorted row.1))

-- ---- keys that stand once

none_in : (k : Key) (ks : List Key) → ((l : Key) → In l ks → is_eq (key_cmp k l) ≡ false) → list_any (λ other. is_eq (key_cmp k other)) ks ≡ false
none_in k [] apart = refl
none_in k (l ∷ ls) apart =
    let here : is_eq (key_cmp k l) ≡ false = apart l (inl refl) in
    rw here (none_in k ls (λ m h. apart m (inr h)))

apart_in : (k : Key) (ks : List Key) → list_any (λ other. is_eq (key_cmp k other)) ks ≡ false → (l : Key) → In l ks → is_eq (key_cmp k l) ≡ false
apart_in k [] e l h = absurd h
apart_in k (m ∷ ms) e l (inl is) = ap (λ n. is_eq (key_cmp k n)) (sym is) ∙ (or_parts _ _ e).0
apart_in k (m ∷ ms) e l (inr h) = apart_in k ms ((or_parts _ _ e).1) l h

-- a key before keys that it is not one of
pub repeats_cons : (k : Key) (ks : List Key) → ((l : Key) → In l ks → is_eq (key_cmp k l) ≡ false) → repeats ks ≡ false → repeats (k ∷ ks) ≡ false
repeats_cons k ks apart rest = let here = none_in k ks apart in rw here rest

-- two lists of keys that have none in common
pub repeats_append : (xs ys : List Key) → repeats xs ≡ false → repeats ys ≡ false → ((k l : Key) → In k xs → In l ys → is_eq (key_cmp k l) ≡ false) → repeats (xs ++ ys) ≡ false
repeats_append [] ys a b apart = b
repeats_append (x ∷ xs) ys a b apart =
    repeats_cons x (xs ++ ys)
    (λ l h. elim (from_append l xs ys h) [ inl k ↦ apart_in x xs ((or_parts _ _ a).0) l k | inr k ↦ apart x l (inl refl) k ])
    (repeats_append xs ys ((or_parts _ _ a).1) b (λ k l h. apart k l (inr h)))

pub repeats_filter : (p : Key → Bool) (ks : List Key) → repeats ks ≡ false → repeats (filter p ks) ≡ false
repeats_filter p [] e = refl
repeats_filter p (k ∷ ks) e =
    kept_key (p k) (λ l h. apart_in k ks ((or_parts _ _ e).0) l (from_filter p l ks h).0) (repeats_filter p ks ((or_parts _ _ e).1))
  where
    kept_key : (b : Bool) → ((l : Key) → In l (filter p ks) → is_eq (key_cmp k l) ≡ false) → repeats (filter p ks) ≡ false → repeats (if b then k ∷ filter p ks else filter p ks) ≡ false
    kept_key true apart rest = repeats_cons k (filter p ks) apart rest
    kept_key false apart rest = rest
