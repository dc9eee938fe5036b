-- Rows of several portfolios are put into the same order, whichever portfolio comes first.
use Rattle.std.proofs.Common.{◌≡◌, ℕ, ◌||◌, List, [], ◌∷◌, ◌++◌, Bool, true, false, if◌then◌else◌, inl, inr, refl, sym, ap, ◌∙◌, subst}
use Rattle.std.specs.declared.cmp.Ordering.{Ordering}
use Rattle.std.specs.declared.cmp.Ordering.TheVariants.{Less, Equal, Greater}
use Rattle.std.specs.List.{IsDistinct, flat_map, list_any}
use Rattle.std.specs.Ordering.{is_eq, is_lt, ordering_reverse}
use Rattle.std.specs.Str.{bytes_eq}
use Rattle.std.proofs.lemmas.List.Sorted.{IsPermutation-sym, list_any-IsPermutation}
use Rattle.std.proofs.lemmas.Map.Keys.{IsDistinct-IsPermutation}
use Rattle.std.proofs.lemmas.Slice.Eq.{bytes_eq-Decides}
use Rattle.gi_pairs.specs.Key.{key_cmp}
use Rattle.gi_pairs.specs.Row.{key_of}
use Rattle.gi_pairs.specs.Table.{in_order, with_row}
use Rattle.gi_pairs.specs.declared.key.Key.{Key}
use Rattle.gi_pairs.specs.declared.row.Row.{Row}
use Rattle.gi_pairs.proofs.Building.{In}
use Rattle.gi_pairs.proofs.KeyOrder.{key_total}
use Rattle.gi_pairs.proofs.Members.{from_map, in_map}
use Rattle.gi_messages.specs.declared.message.Nomint.{Nomint}
use Rattle.gi_processing.specs.Capacity.{Capacity}
use Rattle.gi_processing.specs.Processing.{line_key, lines_in_force, portfolio_rows}
use Rattle.gi_processing.specs.declared.span.Span.{Span}
use Rattle.gi_processing.proofs.PortfolioLaws.{flips, moved_front, none_any, removed, rest_same, same_codes}
use Rattle.gi_processing.proofs.ProcessingRows.{apart, keys_for, keys_of-portfolio}

less_test : (o : Ordering) → o ≡ Less → is_lt o ≡ true
less_test Less e = refl
less_test Equal e = cc
less_test Greater e = cc

less_from : (o : Ordering) → is_lt o ≡ true → o ≡ Less
less_from Less e = refl
less_from Equal e = cc
less_from Greater e = cc

not_less : (o p : Ordering) → o ≡ ordering_reverse p → p ≡ Less → is_lt o ≡ false
not_less o Less e is = ap is_lt e
not_less o Equal e is = cc
not_less o Greater e is = cc

-- a row that comes before another may be put in first or last
less_commute : (a b : Row) (rows : List Row) → key_cmp (key_of a) (key_of b) ≡ Less → with_row a (with_row b rows) ≡ with_row b (with_row a rows)
less_commute a b [] less =
    let ab : is_lt (key_cmp (key_of a) (key_of b)) ≡ true = less_test (key_cmp (key_of a) (key_of b)) less in
    let ba : is_lt (key_cmp (key_of b) (key_of a)) ≡ false = not_less (key_cmp (key_of b) (key_of a)) (key_cmp (key_of a) (key_of b)) (key_total.antisymm (key_of b) (key_of a)) less in
    (λ i. if ab i then a ∷ b ∷ [] else b ∷ a ∷ []) ∙ (λ i. if sym ba i then b ∷ a ∷ [] else a ∷ b ∷ [])
less_commute a b (x ∷ xs) less =
    by_tests (is_lt (key_cmp (key_of a) (key_of x))) (is_lt (key_cmp (key_of b) (key_of x))) refl refl (less_commute a b xs less)
  where
    ab : is_lt (key_cmp (key_of a) (key_of b)) ≡ true
    ab = less_test (key_cmp (key_of a) (key_of b)) less

    ba : is_lt (key_cmp (key_of b) (key_of a)) ≡ false
    ba = not_less (key_cmp (key_of b) (key_of a)) (key_cmp (key_of a) (key_of b)) (key_total.antisymm (key_of b) (key_of a)) less

    by_tests : (ax bx : Bool) → is_lt (key_cmp (key_of a) (key_of x)) ≡ ax → is_lt (key_cmp (key_of b) (key_of x)) ≡ bx → with_row a (with_row b xs) ≡ with_row b (with_row a xs)
        → with_row a (if bx then b ∷ x ∷ xs else x ∷ with_row b xs) ≡ with_row b (if ax then a ∷ x ∷ xs else x ∷ with_row a xs)
    by_tests true true a_is b_is rest =
        (λ i. if ab i then a ∷ b ∷ x ∷ xs else b ∷ with_row a (x ∷ xs))
        ∙ (λ i. a ∷ (if sym b_is i then b ∷ x ∷ xs else x ∷ with_row b xs))
        ∙ (λ i. if sym ba i then b ∷ a ∷ x ∷ xs else a ∷ with_row b (x ∷ xs))
    by_tests false true a_is b_is rest =
        let lower = key_total.trans (key_of a) (key_of b) (key_of x) less (less_from (key_cmp (key_of b) (key_of x)) b_is) in
        let bad : is_lt (key_cmp (key_of a) (key_of x)) ≡ true = less_test (key_cmp (key_of a) (key_of x)) lower in cc
    by_tests true false a_is b_is rest =
        (λ i. if a_is i then a ∷ x ∷ with_row b xs else x ∷ with_row a (with_row b xs))
        ∙ (λ i. a ∷ (if sym b_is i then b ∷ x ∷ xs else x ∷ with_row b xs))
        ∙ (λ i. if sym ba i then b ∷ a ∷ x ∷ xs else a ∷ with_row b (x ∷ xs))
    by_tests false false a_is b_is rest =
        (λ i. if a_is i then a ∷ x ∷ with_row b xs else x ∷ with_row a (with_row b xs))
        ∙ ap (λ (l : List Row). x ∷ l) rest
        ∙ (λ i. if sym b_is i then b ∷ x ∷ with_row a xs else x ∷ with_row b (with_row a xs))

-- so may any two of different keys
commute : (a b : Row) (rows : List Row) → is_eq (key_cmp (key_of a) (key_of b)) ≡ false → with_row a (with_row b rows) ≡ with_row b (with_row a rows)
commute a b rows apart = by_order (key_cmp (key_of a) (key_of b)) refl apart
  where
    by_order : (o : Ordering) → key_cmp (key_of a) (key_of b) ≡ o → is_eq o ≡ false → with_row a (with_row b rows) ≡ with_row b (with_row a rows)
    by_order Less is e = less_commute a b rows is
    by_order Equal is e = cc
    by_order Greater is e = sym (less_commute b a rows (key_total.antisymm (key_of b) (key_of a) ∙ ap ordering_reverse is))

-- ---- several rows

with_rows : List Row → List Row → List Row
with_rows [] rows = rows
with_rows (a ∷ more) rows = with_row a (with_rows more rows)

ordered-append : (xs ys : List Row) → in_order (xs ++ ys) ≡ with_rows xs (in_order ys)
unfolding with_rows
ordered-append [] ys = refl
ordered-append (x ∷ xs) ys = ap (with_row x) (ordered-append xs ys)

-- no key of the ones is a key of the others
abbrev AreApart : List Row → List Row → Type 0
AreApart xs ys = (a b : Row) → In a xs → In b ys → is_eq (key_cmp (key_of a) (key_of b)) ≡ false

one_commutes : (a : Row) (ys rows : List Row) → ((b : Row) → In b ys → is_eq (key_cmp (key_of a) (key_of b)) ≡ false) → with_row a (with_rows ys rows) ≡ with_rows ys (with_row a rows)
unfolding with_rows
one_commutes a [] rows apart = refl
one_commutes a (y ∷ ys) rows apart =
    commute a y (with_rows ys rows) (apart y (inl refl)) ∙ ap (with_row y) (one_commutes a ys rows (λ b h. apart b (inr h)))

all_commute : (xs ys rows : List Row) → AreApart xs ys → with_rows xs (with_rows ys rows) ≡ with_rows ys (with_rows xs rows)
unfolding with_rows
all_commute [] ys rows apart = refl
all_commute (x ∷ xs) ys rows apart =
    ap (with_row x) (all_commute xs ys rows (λ a b h k. apart a b (inr h) k)) ∙ one_commutes x ys (with_rows xs rows) (λ b k. apart x b (inl refl) k)

-- ---- portfolio by portfolio

module _ (f : List ℕ → List Row) (own : (p q : List ℕ) → bytes_eq p q ≡ false → AreApart (f p) (f q)) where
  order_front : (p : List ℕ) (qs : List (List ℕ)) → list_any (bytes_eq p) qs ≡ true → in_order (f p ++ flat_map f (removed p qs)) ≡ in_order (flat_map f qs)
  order_front p [] e = cc
  order_front p (q ∷ qs) e = by_test (bytes_eq p q) refl e (order_front p qs)
    where
      by_test : (b : Bool) → bytes_eq p q ≡ b → (b || list_any (bytes_eq p) qs) ≡ true → (list_any (bytes_eq p) qs ≡ true → in_order (f p ++ flat_map f (removed p qs)) ≡ in_order (flat_map f qs))
          → in_order (f p ++ flat_map f (if b then qs else q ∷ removed p qs)) ≡ in_order (f q ++ flat_map f qs)
      by_test true is any rest = ap (λ (r : List ℕ). in_order (f r ++ flat_map f qs)) ((bytes_eq-Decides p q).0 is)
      by_test false is any rest =
          let behind = flat_map f (removed p qs) in
          ordered-append (f p) (f q ++ behind)
          ∙ ap (with_rows (f p)) (ordered-append (f q) behind)
          ∙ all_commute (f p) (f q) (in_order behind) (own p q is)
          ∙ ap (with_rows (f q)) (sym (ordered-append (f p) behind) ∙ rest any)
          ∙ sym (ordered-append (f q) (flat_map f qs))

  -- the rows of the same portfolios, each once, are put into one order
  pub order-moved : (ps qs : List (List ℕ)) → IsDistinct bytes_eq ps → IsDistinct bytes_eq qs → ((r : List ℕ) → list_any (bytes_eq r) ps ≡ list_any (bytes_eq r) qs)
      → in_order (flat_map f ps) ≡ in_order (flat_map f qs)
  unfolding IsDistinct
  order-moved [] [] d e same = refl
  order-moved [] (q ∷ qs) d e same =
      let found : (bytes_eq q q || list_any (bytes_eq q) qs) ≡ true = ap (λ (b : Bool). b || list_any (bytes_eq q) qs) (same_codes.refl q) in
      let bad : false ≡ true = same q ∙ found in cc
  order-moved (p ∷ ps) qs d e same =
      let has : list_any (bytes_eq p) qs ≡ true = sym (same p) ∙ ap (λ (b : Bool). b || list_any (bytes_eq p) ps) (same_codes.refl p) in
      let front = moved_front p qs has in
      let apart = IsDistinct-IsPermutation bytes_eq flips qs (p ∷ removed p qs) (IsPermutation-sym (p ∷ removed p qs) qs front) e in
      let rest = order-moved ps (removed p qs) d.1 apart.1
      (λ r.
      rest_same r p (bytes_eq r p) ps (removed p qs) refl (none_any p ps d.0) (none_any p (removed p qs) apart.0)
      (same r ∙ sym (list_any-IsPermutation (bytes_eq r) (p ∷ removed p qs) qs front))) in
      ordered-append (f p) (flat_map f ps)
      ∙ ap (with_rows (f p)) rest
      ∙ sym (ordered-append (f p) (flat_map f (removed p qs)))
      ∙ order_front p qs has

-- whose line a row of a portfolio is for
row_key : (capacity : Capacity) (span : Span) (documents : List Nomint) (portfolio : List ℕ) (row : Row) → In row (portfolio_rows capacity span documents portfolio)
    → In (key_of row) (keys_for span.side portfolio (lines_in_force portfolio span.day documents))
row_key capacity span documents portfolio row h =
    subst (λ (ks : List Key). In (key_of row) ks) (keys_of-portfolio capacity span documents portfolio) (in_map key_of row (portfolio_rows capacity span documents portfolio) h)

-- rows of two portfolios have different keys
pub rows-apart : (capacity : Capacity) (span : Span) (documents : List Nomint) (p q : List ℕ) → bytes_eq p q ≡ false
    → (a b : Row) → In a (portfolio_rows capacity span documents p) → In b (portfolio_rows capacity span documents q) → is_eq (key_cmp (key_of a) (key_of b)) ≡ false
rows-apart capacity span documents p q other a b h k =
    let here = from_map (line_key span.side p) (key_of a) (lines_in_force p span.day documents) (row_key capacity span documents p a h) in
    let there = from_map (line_key span.side q) (key_of b) (lines_in_force q span.day documents) (row_key capacity span documents q b k) in
    (λ i. is_eq (key_cmp (sym here.2 i) (sym there.2 i)))
    ∙ apart span.side p q here.0 there.0 (is_eq (key_cmp (line_key span.side p here.0) (line_key span.side q there.0))) refl other
