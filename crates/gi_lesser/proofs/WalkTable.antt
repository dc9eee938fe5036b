-- The rows that the walk over two tables gives are those of their lesser.
use Rattle.std.proofs.Common.{◌≡◌, ℕ, zero, suc, ◌+◌, ◌-◌, ◌<◌, ◌&&◌, List, [], ◌∷◌, length, map, min, zip, find, slice_index, nat_le, true, Option, Some, None, Ok, ◌⊎◌, inl, inr, refl, sym, ap, ◌∙◌, arith, subst}
use Rattle.std.specs.List.{range_with_len}
use Rattle.std.specs.List.Sorted.{IsStrictlySortedBy}
use Rattle.std.proofs.lemmas.Bool.Decides.{nat_tests}
use Rattle.std.proofs.lemmas.List.Sorted.{IsPermutation-refl}
use Rattle.gi_pairs.specs.Key.{key_cmp}
use Rattle.gi_pairs.specs.Row.{key_of}
use Rattle.gi_pairs.specs.Table.{TableContents, IsTable, built, covered, is_at, keys_of, reading}
use Rattle.gi_pairs.specs.declared.key.Key.{Key}
use Rattle.gi_pairs.specs.declared.row.Row.{Row}
use Rattle.gi_pairs.proofs.Building.{In, in_in_order, in_order_in, same_rows}
use Rattle.gi_pairs.proofs.Members.{find_present, found_is, from_map, in_map}
use Rattle.gi_pairs.proofs.Reading.{find_all, reading-found, reading-missed}
use Rattle.gi_pairs.proofs.TableLaws.{built-again}
use Rattle.gi_lesser.specs.Lesser.{keys_of_both, lesser_of, lesser_row}
use Rattle.gi_lesser.specs.Walk.{lesser_rows, lower_at, lower_found, lower_hours, union_of, with_hours}
use Rattle.gi_lesser.proofs.LesserLaws.{AreMatched, both_from_own, both_from_peer, in_both, keys_of-rows, lesser_of-is_table, rows-sorted, shape-lesser}
use Rattle.gi_lesser.proofs.Union.{from_union, sorted_union, union_left, union_right}
use Rattle.gi_lesser.proofs.WalkLaws.{map_in}

-- ---- hours

each_min : (f : ℕ → ℕ) (a n : ℕ) (xs ys : List ℕ) → length xs ≡ n → length ys ≡ n
    → ((i : ℕ) → i < n → f (a + i) ≡ min (slice_index xs i) (slice_index ys i)) → map (λ p. min p.0 p.1) (zip xs ys) ≡ map f (range_with_len a n)
each_min f a zero [] ys d e same = refl
each_min f a zero (x ∷ xs) ys d e same = absurd (omega arith)
each_min f a (suc n) [] ys d e same = absurd (omega arith)
each_min f a (suc n) (x ∷ xs) [] d e same = absurd (omega arith)
each_min f a (suc n) (x ∷ xs) (y ∷ ys) d e same =
    let at : a ≡ a + 0 = omega arith in
    let here : f a ≡ min x y = ap f at ∙ same 0 (omega arith) in
    let rest = each_min f (a + 1) n xs ys (omega arith) (omega arith) (λ i below. let next : a + 1 + i ≡ a + suc i = omega arith in ap f next ∙ same (suc i) (omega arith)) in
    λ i. sym here i ∷ rest i

each_zero : (f : ℕ → ℕ) (a n : ℕ) (xs : List ℕ) → length xs ≡ n → ((i : ℕ) → i < n → f (a + i) ≡ 0) → map (λ _. 0) xs ≡ map f (range_with_len a n)
each_zero f a zero [] d none = refl
each_zero f a zero (x ∷ xs) d none = absurd (omega arith)
each_zero f a (suc n) [] d none = absurd (omega arith)
each_zero f a (suc n) (x ∷ xs) d none =
    let at : a ≡ a + 0 = omega arith in
    let here : f a ≡ 0 = ap f at ∙ none 0 (omega arith) in
    let rest = each_zero f (a + 1) n xs (omega arith) (λ i below. let next : a + 1 + i ≡ a + suc i = omega arith in ap f next ∙ none (suc i) (omega arith)) in
    λ i. sym here i ∷ rest i

-- what the row of a key reads in an hour
reads_at : (t : TableContents) (key : Key) (row : Row) (i : ℕ) → IsTable t → find (is_at key) t.rows ≡ Some row → i < covered t.first t.last
    → reading t key.pair key.direction (t.first + i) ≡ slice_index row.hours i
reads_at t key row i table found below =
    let covers : (nat_le t.first (t.first + i) && nat_le (t.first + i) t.last) ≡ true = grind (arith, nat_tests, below, table.ordered) in
    let place : t.first + i - t.first ≡ i = omega arith in
    reading-found t key.pair key.direction (t.first + i) row found covers ∙ ap (slice_index row.hours) place

hours_of : (t : TableContents) (key : Key) (row : Row) → IsTable t → find (is_at key) t.rows ≡ Some row → length row.hours ≡ covered t.first t.last
hours_of t key row table found = find_all (λ (r : Row). length r.hours ≡ covered t.first t.last) (is_at key) t.rows row table.whole found

-- ---- rows

row_of_both : (own peer : TableContents) (key : Key) (a b : Row) → AreMatched own peer → find (is_at key) own.rows ≡ Some a → find (is_at key) peer.rows ≡ Some b
    → with_hours a (lower_hours a b) ≡ lesser_row own peer key
unfolding lesser_row
row_of_both own peer key a b m of_own of_peer =
    let same : key_of a ≡ key = (found_is own.rows key a of_own).1 in
    let long : length b.hours ≡ covered own.first own.last = hours_of peer key b m.peer_table of_peer ∙ (λ i. covered (sym m.shape.first i) (sym m.shape.last i)) in
    let hours = each_min (λ hour. min (reading own key.pair key.direction hour) (reading peer key.pair key.direction hour)) own.first (covered own.first own.last) a.hours b.hours
    (hours_of own key a m.own_table of_own) long
    (λ i below.
    let ours = reads_at own key a i m.own_table of_own below in
    let within : i < covered peer.first peer.last = omega (arith, below, m.shape.first, m.shape.last) in
    let theirs = ap (λ n. reading peer key.pair key.direction (n + i)) m.shape.first ∙ reads_at peer key b i m.peer_table of_peer within in
    λ j. min (ours j) (theirs j)) in
    λ i. record { pair = (same i).pair; direction = (same i).direction; hours = hours i }

row_of_own_alone : (own peer : TableContents) (key : Key) (a : Row) → AreMatched own peer → find (is_at key) own.rows ≡ Some a → find (is_at key) peer.rows ≡ None
    → with_hours a (map (λ _. 0) a.hours) ≡ lesser_row own peer key
unfolding lesser_row
row_of_own_alone own peer key a m of_own none =
    let same : key_of a ≡ key = (found_is own.rows key a of_own).1 in
    let hours = each_zero (λ hour. min (reading own key.pair key.direction hour) (reading peer key.pair key.direction hour)) own.first (covered own.first own.last) a.hours
    (hours_of own key a m.own_table of_own) (λ i below. let zero_there = reading-missed peer key.pair key.direction (own.first + i) none in omega (arith, zero_there)) in
    λ i. record { pair = (same i).pair; direction = (same i).direction; hours = hours i }

row_of_peer_alone : (own peer : TableContents) (key : Key) (b : Row) → AreMatched own peer → find (is_at key) own.rows ≡ None → find (is_at key) peer.rows ≡ Some b
    → with_hours b (map (λ _. 0) b.hours) ≡ lesser_row own peer key
unfolding lesser_row
row_of_peer_alone own peer key b m none of_peer =
    let same : key_of b ≡ key = (found_is peer.rows key b of_peer).1 in
    let long : length b.hours ≡ covered own.first own.last = hours_of peer key b m.peer_table of_peer ∙ (λ i. covered (sym m.shape.first i) (sym m.shape.last i)) in
    let hours = each_zero (λ hour. min (reading own key.pair key.direction hour) (reading peer key.pair key.direction hour)) own.first (covered own.first own.last) b.hours
    long (λ i below. let zero_here = reading-missed own key.pair key.direction (own.first + i) none in omega (arith, zero_here)) in
    λ i. record { pair = (same i).pair; direction = (same i).direction; hours = hours i }

-- a key that a table has is found there
not_missed : (t : TableContents) (key : Key) → IsTable t → In key (keys_of t.rows) → find (is_at key) t.rows ≡ None → ⊥
not_missed t key table h missed = let found = find_present t.rows key table.sorted h in let row = found.3 in cc

row_is : (own peer : TableContents) (key : Key) → AreMatched own peer → In key (keys_of own.rows) ⊎ In key (keys_of peer.rows)
    → lower_at own.rows peer.rows key ≡ lesser_row own peer key
row_is own peer key m h = by_rows (find (is_at key) own.rows) (find (is_at key) peer.rows) refl refl
  where
    by_rows : (o p : Option Row) → find (is_at key) own.rows ≡ o → find (is_at key) peer.rows ≡ p → lower_found key o p ≡ lesser_row own peer key
    by_rows (Some a) (Some b) e f = row_of_both own peer key a b m e f
    by_rows (Some a) None e f = row_of_own_alone own peer key a m e f
    by_rows None (Some b) e f = row_of_peer_alone own peer key b m e f
    by_rows None None e f = absurd (elim h [ inl i ↦ not_missed own key m.own_table i e | inr i ↦ not_missed peer key m.peer_table i f ])

rows_are : (own peer : TableContents) → AreMatched own peer → lesser_rows own.rows peer.rows ≡ map (lesser_row own peer) (union_of (keys_of own.rows) (keys_of peer.rows))
unfolding lesser_rows
rows_are own peer m =
    map_in (lower_at own.rows peer.rows) (lesser_row own peer) (union_of (keys_of own.rows) (keys_of peer.rows))
    (λ key h. row_is own peer key m (from_union key (keys_of own.rows) (keys_of peer.rows) h))

-- the walk over two tables gives the rows of their lesser
pub walked : (own peer : TableContents) → AreMatched own peer → lesser_rows own.rows peer.rows ≡ (lesser_of own peer).rows
unfolding lesser_of
walked own peer m =
    let keys = union_of (keys_of own.rows) (keys_of peer.rows) in
    let made = λ (key : Key). lesser_row own peer key in
    let sorted : IsStrictlySortedBy key_cmp (keys_of (map made keys)) =
    subst (IsStrictlySortedBy key_cmp) (sym (keys_of-rows own peer keys)) (sorted_union (keys_of own.rows) (keys_of peer.rows) m.peer_table.sorted) in
    rows_are own peer m
    ∙ same_rows (map made keys) (lesser_of own peer).rows sorted (rows-sorted own peer m.own_table m.peer_table)
    (λ r h.
    let from = from_map made r keys h in
    let stands : In from.0 (keys_of_both own peer) = elim (from_union from.0 (keys_of own.rows) (keys_of peer.rows) from.1) [ inl i ↦ both_from_own own peer from.0 i | inr i ↦ both_from_peer own peer from.0 i ] in
    in_order_in r (map made (keys_of_both own peer)) (subst (λ (x : Row). In x (map made (keys_of_both own peer))) from.2 (in_map made from.0 (keys_of_both own peer) stands)))
    (λ r h.
    let from = from_map made r (keys_of_both own peer) (in_in_order r (map made (keys_of_both own peer)) h) in
    let stands : In from.0 keys = elim (in_both own peer from.0 from.1) [ inl i ↦ union_left from.0 (keys_of own.rows) (keys_of peer.rows) i | inr i ↦ union_right from.0 (keys_of own.rows) (keys_of peer.rows) i ] in
    subst (λ (x : Row). In x (map made keys)) from.2 (in_map made from.0 keys stands))

-- and they make it
pub built-walked : (own peer : TableContents) (first last : ℕ) (rows : List Row) → AreMatched own peer → first ≡ own.first → last ≡ own.last
    → rows ≡ lesser_rows own.rows peer.rows → built first last rows ≡ Ok (lesser_of own peer)
built-walked own peer first last rows m from to e =
    let shape = shape-lesser own peer in
    let again = built-again (lesser_of own peer).rows (lesser_of own peer) (lesser_of-is_table own peer m) (IsPermutation-refl (lesser_of own peer).rows) in
    let same : built first last rows ≡ built (lesser_of own peer).first (lesser_of own peer).last (lesser_of own peer).rows =
    λ i. built ((from ∙ sym shape.0) i) ((to ∙ sym shape.1) i) ((e ∙ walked own peer m) i) in
    same ∙ again
