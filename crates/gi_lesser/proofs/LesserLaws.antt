-- The lesser of two tables is one, and has their rows and the lower of their readings.
use Rattle.std.proofs.Common.{◌≡◌, ℕ, zero, suc, ◌-◌, ◌≤◌, ◌&&◌, ◌==◌, ◌⊎◌, inl, inr, List, [], ◌∷◌, length, map, filter, find, slice_index, min, not, nat_lt, nat_le, true, false, Bool, Option, Some, None, is_some, All, refl, sym, ap, ◌∙◌, arith, subst, if◌then◌else◌}
use Rattle.std.specs.List.{range_with_len}
use Rattle.std.specs.List.Sorted.{IsStrictlySortedBy}
use Rattle.std.specs.Ordering.{is_eq}
use Rattle.std.proofs.lemmas.Bool.Decides.{nat_tests, Decides-eqb}
use Rattle.std.proofs.lemmas.List.{length-append, length-map}
use Rattle.std.proofs.lemmas.List.Elements.{All-head, All-tail, All-cons, All-nil}
use Rattle.std.proofs.lemmas.List.FromFn.{length-map-range_with_len, get_or-map-range_with_len}
use Rattle.std.proofs.lemmas.Map.Keys.{IsDistinct-from_sorted}
use Rattle.gi_pairs.specs.Key.{IsKey, key_cmp}
use Rattle.gi_pairs.specs.Quantity.{IsQuantity, most_quantity}
use Rattle.gi_pairs.specs.Row.{IsRow, key_of}
use Rattle.gi_pairs.specs.Table.{TableContents, IsTable, covered, in_order, is_at, is_hour_range, keys_of, reading, repeats}
use Rattle.gi_pairs.specs.declared.direction.Direction.{Direction}
use Rattle.gi_pairs.specs.declared.key.Key.{Key}
use Rattle.gi_pairs.specs.declared.pair.Pair.{Pair}
use Rattle.gi_pairs.specs.declared.row.Row.{Row}
use Rattle.gi_pairs.specs.Limits.{most_processed_rows, most_rows}
use Rattle.gi_pairs.proofs.Building.{In, contains_from_in, in_from_contains, in_in_order, in_order-sorted, in_order_in, repeats_from_distinct}
use Rattle.gi_pairs.proofs.KeyOrder.{key_same}
use Rattle.gi_pairs.proofs.Reading.{find_all, reading-found, reading-missed, reading-outside}
use Rattle.gi_pairs.proofs.Refusals.{are_whole, is_table}
use Rattle.gi_pairs.proofs.TableLaws.{in_order-permutation}
use Rattle.gi_lesser.specs.Lesser.{HasShapeOf, IsLesser, has_row, keys_of_both, lacks, lesser_of, lesser_row}
use Rattle.gi_pairs.proofs.Members.{repeats_append, repeats_filter, find_absent, find_member, find_present, found_is, from_append, from_filter, from_map, in_append_left, in_append_right, in_filter, in_map}

-- the key of a pair and a direction
abbrev keyed : Pair → Direction → Key
keyed pair direction = record { pair = pair; direction = direction }

-- ---- no key stands twice

table-distinct : (t : TableContents) → IsTable t → repeats (keys_of t.rows) ≡ false
table-distinct t table = repeats_from_distinct (keys_of t.rows) (IsDistinct-from_sorted key_cmp (keys_of t.rows) table.sorted)

has_row-present : (t : TableContents) (key : Key) → IsTable t → In key (keys_of t.rows) → has_row t key ≡ true
has_row-present t key table h = let found = find_present t.rows key table.sorted h in ap is_some found.3

no_twin : (b : Bool) (k l : Key) (own : TableContents) → is_eq (key_cmp k l) ≡ b → IsTable own → In k (keys_of own.rows) → lacks own l ≡ true → b ≡ false
no_twin false k l own e table h lack = refl
no_twin true k l own e table h lack =
    let same : k ≡ l = key_same k l e in
    let here : has_row own l ≡ true = has_row-present own l table (subst (λ (m : Key). In m (keys_of own.rows)) same h) in
    let not_here : not (has_row own l) ≡ false = ap not here in
    cc

both-distinct : (own peer : TableContents) → IsTable own → IsTable peer → repeats (keys_of_both own peer) ≡ false
both-distinct own peer a b =
    repeats_append (keys_of own.rows) (filter (lacks own) (keys_of peer.rows)) (table-distinct own a) (repeats_filter (lacks own) (keys_of peer.rows) (table-distinct peer b))
    (λ k l h m. no_twin (is_eq (key_cmp k l)) k l own refl a h (from_filter (lacks own) l (keys_of peer.rows) m).1)

-- ---- the rows

pub key_of-lesser_row : (own peer : TableContents) (key : Key) → key_of (lesser_row own peer key) ≡ key
unfolding lesser_row
key_of-lesser_row own peer key = refl

pub keys_of-rows : (own peer : TableContents) (ks : List Key) → keys_of (map (lesser_row own peer) ks) ≡ ks
keys_of-rows own peer [] = refl
keys_of-rows own peer (k ∷ ks) = λ i. key_of-lesser_row own peer k i ∷ keys_of-rows own peer ks i

hours-lesser_row : (own peer : TableContents) (key : Key) → length (lesser_row own peer key).hours ≡ covered own.first own.last
unfolding lesser_row
hours-lesser_row own peer key =
    length-map-range_with_len (λ hour. min (reading own key.pair key.direction hour) (reading peer key.pair key.direction hour)) own.first (covered own.first own.last)

rows-whole : (own peer : TableContents) (ks : List Key) → are_whole own.first own.last (map (lesser_row own peer) ks) ≡ true
rows-whole own peer [] = refl
rows-whole own peer (k ∷ ks) =
    let here : (length (lesser_row own peer k).hours == covered own.first own.last) ≡ true = (Decides-eqb (length (lesser_row own peer k).hours) (covered own.first own.last)).1 (hours-lesser_row own peer k) in
    rw here (rows-whole own peer ks)

slice_within : (n : ℕ) (xs : List ℕ) (i : ℕ) → All (λ x. x ≤ n) xs → slice_index xs i ≤ n
slice_within n [] i all = omega arith
slice_within n (x ∷ xs) zero all = All-head (λ y. y ≤ n) x xs all
slice_within n (x ∷ xs) (suc i) all = slice_within n xs i (All-tail (λ y. y ≤ n) x xs all)

-- what a table reads is a quantity
pub reading-quantity : (t : TableContents) (pair : Pair) (direction : Direction) (hour : ℕ) → IsTable t → IsQuantity (reading t pair direction hour)
reading-quantity t pair direction hour table = by_row (find (is_at (keyed pair direction)) t.rows) refl (nat_le t.first hour && nat_le hour t.last) refl
  where
    by_row : (o : Option Row) → find (is_at (keyed pair direction)) t.rows ≡ o → (b : Bool) → (nat_le t.first hour && nat_le hour t.last) ≡ b → IsQuantity (reading t pair direction hour)
    by_row None missed b e = rw (reading-missed t pair direction hour missed) (omega arith)
    by_row (Some row) found false e = rw (reading-outside t pair direction hour e) (omega arith)
    by_row (Some row) found true e =
        let known = find_all IsRow (is_at (keyed pair direction)) t.rows row table.all found in
        rw (reading-found t pair direction hour row found e) (slice_within most_quantity row.hours (hour - t.first) known.quantities)

all_map : (n : ℕ) (f : ℕ → ℕ) (hs : List ℕ) → ((h : ℕ) → f h ≤ n) → All (λ x. x ≤ n) (map f hs)
all_map n f [] each = All-nil (λ x. x ≤ n)
all_map n f (h ∷ hs) each = All-cons (λ x. x ≤ n) (f h) (map f hs) (each h) (all_map n f hs each)

row-known : (own peer : TableContents) (key : Key) → IsTable own → IsKey key → IsRow (lesser_row own peer key)
unfolding lesser_row
row-known own peer key table known = record {
  key = known;
  quantities = all_map most_quantity (λ hour. min (reading own key.pair key.direction hour) (reading peer key.pair key.direction hour)) (range_with_len own.first (covered own.first own.last))
      (λ hour. omega (arith, reading-quantity own key.pair key.direction hour table));
}

keys-known : (rows : List Row) (key : Key) → All IsRow rows → In key (keys_of rows) → IsKey key
keys-known [] key all h = absurd h
keys-known (x ∷ xs) key all (inl is) = subst IsKey is ((All-head IsRow x xs all).key)
keys-known (x ∷ xs) key all (inr h) = keys-known xs key (All-tail IsRow x xs all) h

-- a key of both tables stands in one of them
pub in_both : (own peer : TableContents) (key : Key) → In key (keys_of_both own peer) → In key (keys_of own.rows) ⊎ In key (keys_of peer.rows)
in_both own peer key h = elim (from_append key (keys_of own.rows) (filter (lacks own) (keys_of peer.rows)) h) [ inl k ↦ inl k | inr k ↦ inr ((from_filter (lacks own) key (keys_of peer.rows) k).0) ]

both-known : (own peer : TableContents) (key : Key) → IsTable own → IsTable peer → In key (keys_of_both own peer) → IsKey key
both-known own peer key a b h = elim (in_both own peer key h) [ inl k ↦ keys-known own.rows key a.all k | inr k ↦ keys-known peer.rows key b.all k ]

rows-known : (own peer : TableContents) (ks : List Key) → IsTable own → ((key : Key) → In key ks → IsKey key) → All IsRow (map (lesser_row own peer) ks)
rows-known own peer [] table known = All-nil IsRow
rows-known own peer (k ∷ ks) table known =
    All-cons IsRow (lesser_row own peer k) (map (lesser_row own peer) ks) (row-known own peer k table (known k (inl refl))) (rows-known own peer ks table (λ key h. known key (inr h)))

filter_shorter : (p : Key → Bool) (ks : List Key) → length (filter p ks) ≤ length ks
filter_shorter p [] = omega arith
filter_shorter p (k ∷ ks) = by_test (p k) (filter_shorter p ks)
  where
    by_test : (b : Bool) → length (filter p ks) ≤ length ks → length (if b then k ∷ filter p ks else filter p ks) ≤ length (k ∷ ks)
    by_test true shorter = omega arith
    by_test false shorter = omega arith

both-few : (own peer : TableContents) → length own.rows ≤ most_processed_rows → length peer.rows ≤ most_processed_rows → nat_lt most_rows (length (map (lesser_row own peer) (keys_of_both own peer))) ≡ false
both-few own peer a b =
    let counted = length-map (keys_of_both own peer) (lesser_row own peer) in
    let both = length-append (keys_of own.rows) (filter (lacks own) (keys_of peer.rows)) in
    let of_own = length-map own.rows key_of in
    let of_peer = length-map peer.rows key_of in
    let kept = filter_shorter (lacks own) (keys_of peer.rows) in
    let few : length (map (lesser_row own peer) (keys_of_both own peer)) ≤ most_rows = omega (arith, counted, both, of_own, of_peer, kept, a, b) in
    grind (arith, nat_tests, few)

hours-fit : (t : TableContents) → IsTable t → is_hour_range t.first t.last ≡ true
hours-fit t table = grind (arith, nat_tests, table.begins, table.ordered, table.ends)

rows-distinct : (own peer : TableContents) → IsTable own → IsTable peer → repeats (keys_of (map (lesser_row own peer) (keys_of_both own peer))) ≡ false
rows-distinct own peer a b = ap repeats (keys_of-rows own peer (keys_of_both own peer)) ∙ both-distinct own peer a b

-- the rows of the lesser are in table order
pub rows-sorted : (own peer : TableContents) → IsTable own → IsTable peer → IsStrictlySortedBy key_cmp (keys_of (lesser_of own peer).rows)
unfolding lesser_of
rows-sorted own peer a b = in_order-sorted (map (lesser_row own peer) (keys_of_both own peer)) (rows-distinct own peer a b)

-- what is asked of two tables whose lesser is made
pub record AreMatched (own peer : TableContents) : Type 0 where
  pub own_table : IsTable own
  pub peer_table : IsTable peer
  pub shape : HasShapeOf own peer
  pub own_few : length own.rows ≤ most_processed_rows
  pub peer_few : length peer.rows ≤ most_processed_rows

-- the lesser is a table
pub lesser_of-is_table : (own peer : TableContents) → AreMatched own peer → IsTable (lesser_of own peer)
unfolding lesser_of
lesser_of-is_table own peer m =
    is_table own.first own.last (map (lesser_row own peer) (keys_of_both own peer)) (in_order (map (lesser_row own peer) (keys_of_both own peer))) (hours-fit own m.own_table) (both-few own peer m.own_few m.peer_few) (rows-whole own peer (keys_of_both own peer))
    (rows-known own peer (keys_of_both own peer) m.own_table (λ key h. both-known own peer key m.own_table m.peer_table h)) (in_order-permutation (map (lesser_row own peer) (keys_of_both own peer)))
    (rows-sorted own peer m.own_table m.peer_table)

-- ---- what the lesser reads

in_lesser : (own peer : TableContents) (key : Key) → In key (keys_of_both own peer) → In (lesser_row own peer key) (lesser_of own peer).rows
unfolding lesser_of
in_lesser own peer key h = in_order_in (lesser_row own peer key) (map (lesser_row own peer) (keys_of_both own peer)) (in_map (lesser_row own peer) key (keys_of_both own peer) h)

-- each row of the lesser is for a key of both
row_in_both : (own peer : TableContents) (row : Row) → In row (lesser_of own peer).rows → (key : Key) × (In key (keys_of_both own peer)) × (lesser_row own peer key ≡ row)
unfolding lesser_of
row_in_both own peer row h = from_map (lesser_row own peer) row (keys_of_both own peer) (in_in_order row (map (lesser_row own peer) (keys_of_both own peer)) h)

-- a key of the lesser is a key of both
pub key_in_both : (own peer : TableContents) (key : Key) → In key (keys_of (lesser_of own peer).rows) → In key (keys_of_both own peer)
key_in_both own peer key h =
    let row = from_map key_of key (lesser_of own peer).rows h in
    let made = row_in_both own peer row.0 row.1 in
    let same : made.0 ≡ key = sym (key_of-lesser_row own peer made.0) ∙ ap key_of made.2 ∙ row.2 in
    subst (λ (k : Key). In k (keys_of_both own peer)) same made.1

-- a key of both is a key of the lesser
pub key_in_lesser : (own peer : TableContents) (key : Key) → In key (keys_of_both own peer) → In key (keys_of (lesser_of own peer).rows)
key_in_lesser own peer key h =
    subst (λ (k : Key). In k (keys_of (lesser_of own peer).rows)) (key_of-lesser_row own peer key) (in_map key_of (lesser_row own peer key) (lesser_of own peer).rows (in_lesser own peer key h))

pub both_from_own : (own peer : TableContents) (key : Key) → In key (keys_of own.rows) → In key (keys_of_both own peer)
both_from_own own peer key h = in_append_left key (keys_of own.rows) (filter (lacks own) (keys_of peer.rows)) h

row_found : (t : TableContents) (key : Key) (o : Option Row) → find (is_at key) t.rows ≡ o → is_some o ≡ true → In key (keys_of t.rows)
row_found t key None e some = cc
row_found t key (Some row) e some = let found = found_is t.rows key row e in subst (λ (k : Key). In k (keys_of t.rows)) found.1 (in_map key_of row t.rows found.0)

pub both_from_peer : (own peer : TableContents) (key : Key) → In key (keys_of peer.rows) → In key (keys_of_both own peer)
both_from_peer own peer key h = by_own (has_row own key) refl
  where
    by_own : (b : Bool) → has_row own key ≡ b → In key (keys_of_both own peer)
    by_own true e = both_from_own own peer key (row_found own key (find (is_at key) own.rows) refl e)
    by_own false e = in_append_right key (keys_of own.rows) (filter (lacks own) (keys_of peer.rows)) (in_filter (lacks own) key (keys_of peer.rows) h (ap not e))

hour-lesser_row : (own peer : TableContents) (key : Key) (hour : ℕ) → own.first ≤ hour → hour ≤ own.last
    → slice_index (lesser_row own peer key).hours (hour - own.first) ≡ min (reading own key.pair key.direction hour) (reading peer key.pair key.direction hour)
unfolding lesser_row
hour-lesser_row own peer key hour low high =
    get_or-map-range_with_len (λ h. min (reading own key.pair key.direction h) (reading peer key.pair key.direction h)) own.first (covered own.first own.last) (hour - own.first) hour 0
    (omega arith) (omega arith)

pub shape-lesser : (own peer : TableContents) → ((lesser_of own peer).first ≡ own.first) × ((lesser_of own peer).last ≡ own.last)
unfolding lesser_of
shape-lesser own peer = (refl, refl)

in_or_not : (t : TableContents) (key : Key) (o : Option Row) → find (is_at key) t.rows ≡ o → (In key (keys_of t.rows)) ⊎ (find (is_at key) t.rows ≡ None)
in_or_not t key None e = inr e
in_or_not t key (Some row) e = inl (row_found t key (Some row) e refl)

covers_both : (a b c d hour : ℕ) → a ≡ b → c ≡ d → (nat_le a hour && nat_le hour c) ≡ (nat_le b hour && nat_le hour d)
covers_both a b c d hour e f = λ i. nat_le (e i) hour && nat_le hour (f i)

reads-present : (own peer : TableContents) (pair : Pair) (direction : Direction) (hour : ℕ) → AreMatched own peer → (nat_le own.first hour && nat_le hour own.last) ≡ true
    → In (keyed pair direction) (keys_of_both own peer) → reading (lesser_of own peer) pair direction hour ≡ min (reading own pair direction hour) (reading peer pair direction hour)
reads-present own peer pair direction hour m covers h =
    let shape = shape-lesser own peer in
    let found : find (is_at (keyed pair direction)) (lesser_of own peer).rows ≡ Some (lesser_row own peer (keyed pair direction)) =
    subst (λ (k : Key). find (is_at k) (lesser_of own peer).rows ≡ Some (lesser_row own peer (keyed pair direction))) (key_of-lesser_row own peer (keyed pair direction))
    (find_member (lesser_of own peer).rows (lesser_row own peer (keyed pair direction)) (lesser_of-is_table own peer m).sorted (in_lesser own peer (keyed pair direction) h)) in
    let covered_here = covers_both (lesser_of own peer).first own.first (lesser_of own peer).last own.last hour shape.0 shape.1 ∙ covers in
    let low : own.first ≤ hour = grind (arith, nat_tests, covers) in
    let high : hour ≤ own.last = grind (arith, nat_tests, covers) in
    reading-found (lesser_of own peer) pair direction hour (lesser_row own peer (keyed pair direction)) found covered_here
    ∙ ap (λ first. slice_index (lesser_row own peer (keyed pair direction)).hours (hour - first)) shape.0
    ∙ hour-lesser_row own peer (keyed pair direction) hour low high

reads-absent : (own peer : TableContents) (pair : Pair) (direction : Direction) (hour : ℕ) → (In (keyed pair direction) (keys_of_both own peer) → ⊥)
    → find (is_at (keyed pair direction)) own.rows ≡ None → reading (lesser_of own peer) pair direction hour ≡ min (reading own pair direction hour) (reading peer pair direction hour)
reads-absent own peer pair direction hour never none =
    let absent = find_absent (lesser_of own peer).rows (keyed pair direction) (λ h. never (key_in_both own peer (keyed pair direction) h)) in
    let zero_here = reading-missed (lesser_of own peer) pair direction hour absent in
    let zero_own = reading-missed own pair direction hour none in
    zero_here ∙ (let least : 0 ≡ min (reading own pair direction hour) (reading peer pair direction hour) = omega (arith, zero_own) in least)

-- everywhere the lesser reads the lower of both readings
pub reading-lesser_of : (own peer : TableContents) (pair : Pair) (direction : Direction) (hour : ℕ) → AreMatched own peer
    → reading (lesser_of own peer) pair direction hour ≡ min (reading own pair direction hour) (reading peer pair direction hour)
reading-lesser_of own peer pair direction hour m = by_hour (nat_le own.first hour && nat_le hour own.last) refl
  where
    by_key : (nat_le own.first hour && nat_le hour own.last) ≡ true → (In (keyed pair direction) (keys_of own.rows)) ⊎ (find (is_at (keyed pair direction)) own.rows ≡ None)
        → (In (keyed pair direction) (keys_of peer.rows)) ⊎ (find (is_at (keyed pair direction)) peer.rows ≡ None)
        → reading (lesser_of own peer) pair direction hour ≡ min (reading own pair direction hour) (reading peer pair direction hour)
    by_key covers (inl h) other = reads-present own peer pair direction hour m covers (both_from_own own peer (keyed pair direction) h)
    by_key covers (inr none) (inl h) = reads-present own peer pair direction hour m covers (both_from_peer own peer (keyed pair direction) h)
    by_key covers (inr none) (inr missing) = reads-absent own peer pair direction hour (λ h. elim (in_both own peer (keyed pair direction) h) [ inl k ↦ nothing own none k m.own_table | inr k ↦ nothing peer missing k m.peer_table ]) none
      where
        nothing : (t : TableContents) → find (is_at (keyed pair direction)) t.rows ≡ None → In (keyed pair direction) (keys_of t.rows) → IsTable t → ⊥
        nothing t none h table = let present = has_row-present t (keyed pair direction) table h in let no_row : has_row t (keyed pair direction) ≡ false = ap is_some none in cc

    by_hour : (b : Bool) → (nat_le own.first hour && nat_le hour own.last) ≡ b → reading (lesser_of own peer) pair direction hour ≡ min (reading own pair direction hour) (reading peer pair direction hour)
    by_hour true e = by_key e (in_or_not own (keyed pair direction) (find (is_at (keyed pair direction)) own.rows) refl) (in_or_not peer (keyed pair direction) (find (is_at (keyed pair direction)) peer.rows) refl)
    by_hour false e =
        let shape = shape-lesser own peer in
        let here = reading-outside (lesser_of own peer) pair direction hour (covers_both (lesser_of own peer).first own.first (lesser_of own peer).last own.last hour shape.0 shape.1 ∙ e) in
        let of_own = reading-outside own pair direction hour e in
        here ∙ (let least : 0 ≡ min (reading own pair direction hour) (reading peer pair direction hour) = omega (arith, of_own) in least)

-- the lesser of two tables is the lesser
pub lesser_of-IsLesser : (own peer : TableContents) → AreMatched own peer → IsLesser own peer (lesser_of own peer)
lesser_of-IsLesser own peer m = record {
  table = lesser_of-is_table own peer m;
  first = (shape-lesser own peer).0;
  last = (shape-lesser own peer).1;
  keys = λ key. (
    (λ h. elim (in_both own peer key (key_in_both own peer key (in_from_contains key (keys_of (lesser_of own peer).rows) h))) [ inl k ↦ inl (contains_from_in key (keys_of own.rows) k) | inr k ↦ inr (contains_from_in key (keys_of peer.rows) k) ]),
    (λ h. contains_from_in key (keys_of (lesser_of own peer).rows) (key_in_lesser own peer key (elim h [ inl k ↦ both_from_own own peer key (in_from_contains key (keys_of own.rows) k) | inr k ↦ both_from_peer own peer key (in_from_contains key (keys_of peer.rows) k) ]))),
  );
  reads = λ pair direction hour. reading-lesser_of own peer pair direction hour m;
}
