-- The rows of the processed table make a table.
use Rattle.std.proofs.Common.{◌≡◌, ℕ, ◌+◌, ◌*◌, ◌≤◌, ◌==◌, List, [], ◌∷◌, ◌++◌, length, map, count_by, Bool, true, false, cond, Option, Some, None, inl, inr, refl, sym, ap, ◌∙◌, subst, arith, nat_eq}
use Rattle.std.specs.List.{AllByRecursion, IsDistinct, flat_map}
use Rattle.std.specs.Ordering.{is_eq}
use Rattle.std.specs.Str.{bytes_eq}
use Rattle.std.proofs.lemmas.Bool.{and_from, or_parts}
use Rattle.std.proofs.lemmas.Bool.Decides.{Decides-eqb}
use Rattle.std.proofs.lemmas.List.{length-append, length-map, map-append}
use Rattle.std.proofs.lemmas.List.FromFn.{length-map-range_with_len}
use Rattle.std.proofs.lemmas.List.Sorted.{sum_by-IsPermutation}
use Rattle.std.proofs.lemmas.List.Sums.{count_by-le-length, sum_by-append, sum_by-cons}
use Rattle.std.proofs.lemmas.Slice.Eq.{bytes_eq-Decides}
use Rattle.jiff_core.specs.declared.civil.date.Date.{Date}
use Rattle.gi_day.specs.Cycles.{hour_count}
use Rattle.gi_pairs.specs.Direction.{place_of}
use Rattle.gi_pairs.specs.Key.{key_cmp}
use Rattle.gi_pairs.specs.Pair.{code_at, pair_of}
use Rattle.gi_pairs.specs.Row.{key_of}
use Rattle.gi_pairs.specs.Table.{covered, in_order, keys_of, repeats}
use Rattle.gi_pairs.specs.declared.key.Key.{Key}
use Rattle.gi_pairs.specs.declared.row.Row.{Row}
use Rattle.gi_pairs.specs.declared.side.Side.{Side}
use Rattle.gi_pairs.specs.declared.side.Side.TheVariants.{I, M}
use Rattle.gi_pairs.proofs.Building.{In}
use Rattle.gi_pairs.proofs.KeyOrder.{key_same}
use Rattle.gi_pairs.proofs.Members.{from_append, from_map, in_append_left, in_append_right, repeats_append, repeats_cons}
use Rattle.gi_pairs.proofs.Refusals.{are_whole}
use Rattle.gi_pairs.proofs.TableLaws.{in_order-permutation}
use Rattle.gi_messages.specs.declared.nomination_line.NominationLine.{NominationLine}
use Rattle.gi_messages.specs.declared.message.Nomint.{Nomint}
use Rattle.gi_nominations.specs.Book.{in_force}
use Rattle.gi_nominations.specs.Lines.{has_twin, has_twins, is_twin, most_lines}
use Rattle.gi_nominations.proofs.LinesLaws.{AreLines, without_fault}
use Rattle.gi_processing.specs.Capacity.{Capacity}
use Rattle.gi_processing.specs.Processing.{AreSound, CanProcess, HasFewOfEach, is_row_of, line_key, lines_in_force, lines_of, portfolio_rows, processed_in, processed_row, processed_rows, span_table}
use Rattle.gi_processing.specs.Recording.{portfolios_of}
use Rattle.gi_processing.specs.declared.span.Span.{Span}
use Rattle.gi_processing.proofs.PortfolioLaws.{flips}

-- ---- lists made of lists

pub in_flat_map : {X Y : Type 0} (f : X → List Y) (x : X) (y : Y) (xs : List X) → In x xs → In y (f x) → In y (flat_map f xs)
in_flat_map f x y [] h k = absurd h
in_flat_map f x y (z ∷ zs) (inl is) k = in_append_left y (f z) (flat_map f zs) (subst (λ w. In y (f w)) (sym is) k)
in_flat_map f x y (z ∷ zs) (inr h) k = in_append_right y (f z) (flat_map f zs) (in_flat_map f x y zs h k)

-- ---- the lines in force

-- the lines of a sound nomination, and no lines where there is none
lines_by : (capacity : Capacity) (documents : List Nomint) (day : Date) (portfolio : List ℕ) (held : Option Nomint) → AreSound capacity documents day → in_force portfolio day documents ≡ held → AreLines (hour_count day) (lines_of held)
lines_by capacity documents day portfolio None sound e = record { whole = refl; few = omega arith; distinct = refl }
lines_by capacity documents day portfolio (Some document) sound e = without_fault (hour_count day) document.lines (sound portfolio document e).lines

pub lines_sound : (capacity : Capacity) (documents : List Nomint) (day : Date) (portfolio : List ℕ) → AreSound capacity documents day → AreLines (hour_count day) (lines_in_force portfolio day documents)
unfolding lines_in_force
lines_sound capacity documents day portfolio sound = lines_by capacity documents day portfolio (in_force portfolio day documents) sound refl

-- ---- the rows of a portfolio

pub key_of-row : (capacity : Capacity) (span : Span) (portfolio : List ℕ) (lines : List NominationLine) (line : NominationLine) → key_of (processed_row capacity span portfolio lines line) ≡ line_key span.side portfolio line
unfolding processed_row
key_of-row capacity span portfolio lines line = refl

-- the portfolio of the side itself, in a key
abbrev own_of : Side → Key → List ℕ
own_of I key = key.pair.initiating
own_of M key = key.pair.matching

abbrev other_of : Side → Key → List ℕ
other_of I key = key.pair.matching
other_of M key = key.pair.initiating

own_is : (side : Side) (portfolio : List ℕ) (line : NominationLine) → own_of side (line_key side portfolio line) ≡ portfolio
own_is I portfolio line = refl
own_is M portfolio line = refl

other_is : (side : Side) (portfolio : List ℕ) (line : NominationLine) → other_of side (line_key side portfolio line) ≡ line.counterparty
other_is I portfolio line = refl
other_is M portfolio line = refl

abbrev pub keys_for : Side → List ℕ → List NominationLine → List Key
keys_for side portfolio = map (line_key side portfolio)

keys_of-rows : (capacity : Capacity) (span : Span) (portfolio : List ℕ) (all lines : List NominationLine) → keys_of (map (processed_row capacity span portfolio all) lines) ≡ keys_for span.side portfolio lines
keys_of-rows capacity span portfolio all [] = refl
keys_of-rows capacity span portfolio all (x ∷ xs) = λ i. key_of-row capacity span portfolio all x i ∷ keys_of-rows capacity span portfolio all xs i

not_both : (b : Bool) → b ≡ true → b ≡ false → ⊥
not_both true e f = absurd cc
not_both false e f = absurd cc

-- lines that are no twins have rows of their own
no_twins : (side : Side) (portfolio : List ℕ) (a b : NominationLine) (same : Bool) → is_eq (key_cmp (line_key side portfolio a) (line_key side portfolio b)) ≡ same → is_twin a b ≡ false → same ≡ false
no_twins side portfolio a b false e apart = refl
no_twins side portfolio a b true e apart =
    let keys = key_same (line_key side portfolio a) (line_key side portfolio b) e in
    let counterparty : a.counterparty ≡ b.counterparty = sym (other_is side portfolio a) ∙ ap (other_of side) keys ∙ other_is side portfolio b in
    let direction = ap (λ (k : Key). place_of k.direction) keys in
    let twins = and_from (bytes_eq a.counterparty b.counterparty) (nat_eq (place_of a.direction) (place_of b.direction)) ((bytes_eq-Decides a.counterparty b.counterparty).1 counterparty)
    ((Decides-eqb (place_of a.direction) (place_of b.direction)).1 direction) in
    absurd (not_both (is_twin a b) twins apart)

no_twin_in : (line other : NominationLine) (lines : List NominationLine) → has_twin line lines ≡ false → In other lines → is_twin line other ≡ false
no_twin_in line other [] e h = absurd h
no_twin_in line other (x ∷ xs) e (inl is) = ap (is_twin line) (sym is) ∙ (or_parts _ _ e).0
no_twin_in line other (x ∷ xs) e (inr h) = no_twin_in line other xs ((or_parts _ _ e).1) h

keys_for-distinct : (side : Side) (portfolio : List ℕ) (lines : List NominationLine) → has_twins lines ≡ false → repeats (keys_for side portfolio lines) ≡ false
keys_for-distinct side portfolio [] e = refl
keys_for-distinct side portfolio (x ∷ xs) e =
    repeats_cons (line_key side portfolio x) (keys_for side portfolio xs)
    (λ k h.
    let found = from_map (line_key side portfolio) k xs h in
    subst (λ (l : Key). is_eq (key_cmp (line_key side portfolio x) l) ≡ false) found.2
    (no_twins side portfolio x found.0 (is_eq (key_cmp (line_key side portfolio x) (line_key side portfolio found.0))) refl (no_twin_in x found.0 xs ((or_parts _ _ e).0) found.1)))
    (keys_for-distinct side portfolio xs ((or_parts _ _ e).1))

pub keys_of-portfolio : (capacity : Capacity) (span : Span) (documents : List Nomint) (portfolio : List ℕ) → keys_of (portfolio_rows capacity span documents portfolio) ≡ keys_for span.side portfolio (lines_in_force portfolio span.day documents)
unfolding portfolio_rows
keys_of-portfolio capacity span documents portfolio = keys_of-rows capacity span portfolio (lines_in_force portfolio span.day documents) (lines_in_force portfolio span.day documents)

-- ---- the rows of all portfolios

abbrev rows_for : Capacity → Span → List Nomint → List (List ℕ) → List Row
rows_for capacity span documents = flat_map (portfolio_rows capacity span documents)

keys_of-more : (capacity : Capacity) (span : Span) (documents : List Nomint) (portfolio : List ℕ) (portfolios : List (List ℕ))
    → keys_of (rows_for capacity span documents (portfolio ∷ portfolios)) ≡ keys_for span.side portfolio (lines_in_force portfolio span.day documents) ++ keys_of (rows_for capacity span documents portfolios)
keys_of-more capacity span documents portfolio portfolios =
    map-append key_of (portfolio_rows capacity span documents portfolio) (rows_for capacity span documents portfolios)
    ∙ ap (λ ks. ks ++ keys_of (rows_for capacity span documents portfolios)) (keys_of-portfolio capacity span documents portfolio)

-- whose line a key is for
pub key_in_rows : (capacity : Capacity) (span : Span) (documents : List Nomint) (portfolios : List (List ℕ)) (key : Key) → In key (keys_of (rows_for capacity span documents portfolios))
    → (portfolio : List ℕ) × (In portfolio portfolios) × (line : NominationLine) × (In line (lines_in_force portfolio span.day documents)) × (line_key span.side portfolio line ≡ key)
key_in_rows capacity span documents [] key h = absurd h
key_in_rows capacity span documents (p ∷ ps) key h =
    let lines = lines_in_force p span.day documents in
    elim (from_append key (keys_for span.side p lines) (keys_of (rows_for capacity span documents ps)) (subst (λ (ks : List Key). In key ks) (keys_of-more capacity span documents p ps) h)) [
      | inl here ↦ let found = from_map (line_key span.side p) key lines here in (p, inl refl, found.0, found.1, found.2)
      | inr there ↦ let found = key_in_rows capacity span documents ps key there in (found.0, inr found.1, found.2, found.3, found.4)
    ]

other_portfolio : (p q : List ℕ) (ps : List (List ℕ)) → AllByRecursion (λ y. bytes_eq p y ≡ false) ps → In q ps → bytes_eq p q ≡ false
other_portfolio p q [] h k = absurd k
other_portfolio p q (x ∷ xs) h (inl is) = ap (bytes_eq p) (sym is) ∙ h.0
other_portfolio p q (x ∷ xs) h (inr k) = other_portfolio p q xs h.1 k

-- keys of two portfolios differ
pub apart : (side : Side) (p q : List ℕ) (a b : NominationLine) (same : Bool) → is_eq (key_cmp (line_key side p a) (line_key side q b)) ≡ same → bytes_eq p q ≡ false → same ≡ false
apart side p q a b false e other = refl
apart side p q a b true e other =
    let keys = key_same (line_key side p a) (line_key side q b) e in
    let portfolio : p ≡ q = sym (own_is side p a) ∙ ap (own_of side) keys ∙ own_is side q b in
    absurd (not_both (bytes_eq p q) ((bytes_eq-Decides p q).1 portfolio) other)

pub rows-distinct : (capacity : Capacity) (span : Span) (documents : List Nomint) (portfolios : List (List ℕ)) → AreSound capacity documents span.day → IsDistinct bytes_eq portfolios
    → repeats (keys_of (rows_for capacity span documents portfolios)) ≡ false
unfolding IsDistinct
rows-distinct capacity span documents [] sound distinct = refl
rows-distinct capacity span documents (p ∷ ps) sound distinct =
    let lines = lines_in_force p span.day documents in
    ap repeats (keys_of-more capacity span documents p ps)
    ∙ repeats_append (keys_for span.side p lines) (keys_of (rows_for capacity span documents ps))
    (keys_for-distinct span.side p lines (lines_sound capacity documents span.day p sound).distinct)
    (rows-distinct capacity span documents ps sound distinct.1)
    (λ k l h there.
    let here = from_map (line_key span.side p) k lines h in
    let found = key_in_rows capacity span documents ps l there in
    let no = apart span.side p found.0 here.0 found.2 (is_eq (key_cmp (line_key span.side p here.0) (line_key span.side found.0 found.2))) refl (other_portfolio p found.0 ps distinct.0 found.1) in
    (λ i. is_eq (key_cmp (sym here.2 i) (sym found.4 i))) ∙ no)

-- ---- their hours, and how many they are

hours-row : (capacity : Capacity) (span : Span) (portfolio : List ℕ) (lines : List NominationLine) (line : NominationLine) → length (processed_row capacity span portfolio lines line).hours ≡ covered span.first span.last
unfolding processed_row
hours-row capacity span portfolio lines line = length-map-range_with_len (processed_in span.rule capacity portfolio span.day lines line) span.first (covered span.first span.last)

lines-whole : (capacity : Capacity) (span : Span) (portfolio : List ℕ) (all lines : List NominationLine) (rest : List Row) → are_whole span.first span.last rest ≡ true
    → are_whole span.first span.last (map (processed_row capacity span portfolio all) lines ++ rest) ≡ true
lines-whole capacity span portfolio all [] rest e = e
lines-whole capacity span portfolio all (x ∷ xs) rest e =
    let here : (length (processed_row capacity span portfolio all x).hours == covered span.first span.last) ≡ true =
    (Decides-eqb (length (processed_row capacity span portfolio all x).hours) (covered span.first span.last)).1 (hours-row capacity span portfolio all x) in
    rw here (lines-whole capacity span portfolio all xs rest e)

pub rows-whole : (capacity : Capacity) (span : Span) (documents : List Nomint) (portfolios : List (List ℕ)) → are_whole span.first span.last (rows_for capacity span documents portfolios) ≡ true
unfolding portfolio_rows
rows-whole capacity span documents [] = refl
rows-whole capacity span documents (p ∷ ps) =
    let lines = lines_in_force p span.day documents in lines-whole capacity span p lines lines (rows_for capacity span documents ps) (rows-whole capacity span documents ps)

portfolio-few : (capacity : Capacity) (span : Span) (documents : List Nomint) (portfolio : List ℕ) → AreSound capacity documents span.day → length (portfolio_rows capacity span documents portfolio) ≤ most_lines
unfolding portfolio_rows
portfolio-few capacity span documents portfolio sound =
    let lines = lines_in_force portfolio span.day documents in
    omega (arith, length-map lines (processed_row capacity span portfolio lines), (lines_sound capacity documents span.day portfolio sound).few)

pub rows-few : (capacity : Capacity) (span : Span) (documents : List Nomint) (portfolios : List (List ℕ)) → AreSound capacity documents span.day → length (rows_for capacity span documents portfolios) ≤ length portfolios * most_lines
rows-few capacity span documents [] sound = omega arith
rows-few capacity span documents (p ∷ ps) sound =
    omega (arith, length-append (portfolio_rows capacity span documents p) (rows_for capacity span documents ps), portfolio-few capacity span documents p sound, rows-few capacity span documents ps sound)

-- ---- how many rows each portfolio has

code_is : (side : Side) (portfolio other : List ℕ) → code_at side (pair_of side portfolio other) ≡ portfolio
code_is I portfolio other = refl
code_is M portfolio other = refl

row_code : (capacity : Capacity) (span : Span) (portfolio : List ℕ) (lines : List NominationLine) (line : NominationLine) → code_at span.side (processed_row capacity span portfolio lines line).pair ≡ portfolio
unfolding processed_row
row_code capacity span portfolio lines line = code_is span.side portfolio line.counterparty

-- the lines of another portfolio make no row of it
others_make-none : (capacity : Capacity) (span : Span) (wanted portfolio : List ℕ) (all lines : List NominationLine) → bytes_eq portfolio wanted ≡ false
    → count_by (is_row_of span.side wanted) (map (processed_row capacity span portfolio all) lines) ≡ 0
others_make-none capacity span wanted portfolio all [] other = refl
others_make-none capacity span wanted portfolio all (x ∷ xs) other =
    let row = processed_row capacity span portfolio all x in
    let rows = map (processed_row capacity span portfolio all) xs in
    let here : is_row_of span.side wanted row ≡ false = ap (λ (code : List ℕ). bytes_eq code wanted) (row_code capacity span portfolio all x) ∙ other in
    let rest = others_make-none capacity span wanted portfolio all xs other in
    sum_by-cons (λ (r : Row). cond (is_row_of span.side wanted r) 1 0) row rows ∙ (λ i. cond (here i) 1 0 + rest i)

portfolio-none : (capacity : Capacity) (span : Span) (documents : List Nomint) (wanted portfolio : List ℕ) → bytes_eq portfolio wanted ≡ false
    → count_by (is_row_of span.side wanted) (portfolio_rows capacity span documents portfolio) ≡ 0
unfolding portfolio_rows
portfolio-none capacity span documents wanted portfolio other =
    let lines = lines_in_force portfolio span.day documents in others_make-none capacity span wanted portfolio lines lines other

counted-more : (capacity : Capacity) (span : Span) (documents : List Nomint) (wanted portfolio : List ℕ) (portfolios : List (List ℕ))
    → count_by (is_row_of span.side wanted) (rows_for capacity span documents (portfolio ∷ portfolios))
    ≡ count_by (is_row_of span.side wanted) (portfolio_rows capacity span documents portfolio) + count_by (is_row_of span.side wanted) (rows_for capacity span documents portfolios)
counted-more capacity span documents wanted portfolio portfolios =
    sum_by-append (λ (r : Row). cond (is_row_of span.side wanted r) 1 0) (portfolio_rows capacity span documents portfolio) (rows_for capacity span documents portfolios)

others-none : (capacity : Capacity) (span : Span) (documents : List Nomint) (wanted : List ℕ) (portfolios : List (List ℕ)) → AllByRecursion (λ y. bytes_eq wanted y ≡ false) portfolios
    → count_by (is_row_of span.side wanted) (rows_for capacity span documents portfolios) ≡ 0
others-none capacity span documents wanted [] others = refl
others-none capacity span documents wanted (p ∷ ps) others =
    let here = portfolio-none capacity span documents wanted p (flips p wanted ∙ others.0) in
    let rest = others-none capacity span documents wanted ps others.1 in
    counted-more capacity span documents wanted p ps ∙ (λ i. here i + rest i)

rows-few_of_each : (capacity : Capacity) (span : Span) (documents : List Nomint) (wanted : List ℕ) (portfolios : List (List ℕ)) → AreSound capacity documents span.day → IsDistinct bytes_eq portfolios
    → count_by (is_row_of span.side wanted) (rows_for capacity span documents portfolios) ≤ most_lines
unfolding IsDistinct
rows-few_of_each capacity span documents wanted [] sound distinct = omega arith
rows-few_of_each capacity span documents wanted (p ∷ ps) sound distinct = by_portfolio (bytes_eq p wanted) refl (rows-few_of_each capacity span documents wanted ps sound distinct.1)
  where
    by_portfolio : (same : Bool) → bytes_eq p wanted ≡ same → count_by (is_row_of span.side wanted) (rows_for capacity span documents ps) ≤ most_lines
        → count_by (is_row_of span.side wanted) (rows_for capacity span documents (p ∷ ps)) ≤ most_lines
    by_portfolio true e rest =
        let same = (bytes_eq-Decides p wanted).0 e in
        let others = others-none capacity span documents wanted ps (subst (λ (q : List ℕ). AllByRecursion (λ y. bytes_eq q y ≡ false) ps) same distinct.0) in
        let some = count_by-le-length (is_row_of span.side wanted) (portfolio_rows capacity span documents p) in
        omega (arith, counted-more capacity span documents wanted p ps, others, some, portfolio-few capacity span documents p sound)
    by_portfolio false e rest = omega (arith, counted-more capacity span documents wanted p ps, portfolio-none capacity span documents wanted p e, rest)

-- in the table of all of them each portfolio has few
pub table-few_of_each : (capacity : Capacity) (documents : List Nomint) (span : Span) → CanProcess capacity documents span → HasFewOfEach span.side (span_table capacity span documents)
table-few_of_each capacity documents span kept wanted =
    let rows = processed_rows capacity span documents in
    let moved = sum_by-IsPermutation (λ (r : Row). cond (is_row_of span.side wanted r) 1 0) rows (in_order rows) (in_order-permutation rows) in
    omega (arith, moved, rows-few_of_each capacity span documents wanted (portfolios_of capacity.contracts) kept.sound kept.distinct)
