-- Where two tables differ first.
use Rattle.std.proofs.Common.{◌≡◌, ◌≢◌, ◌<◌, ◌≤◌, ◌+◌, ◌-◌, ◌⊎◌, inl, inr, ℕ, zero, suc, List, [], ◌∷◌, ◌++◌, Bool, true, false, not, nat_eq, cond, Option, Some, None, option_map, refl, sym, ap, ◌∙◌, subst, arith, eq-eqb, eqb-true, true≢false}
use Rattle.std.specs.Prelude.{slice_get}
use Rattle.std.proofs.Math.Nat.{eq-or-lt_of_le}
use Rattle.std.proofs.lemmas.Bool.{and_from}
use Rattle.gi_pairs.specs.Limits.{last_hour}
use Rattle.gi_pairs.specs.Row.{row_eq}
use Rattle.gi_pairs.specs.Table.{HasShapeOf, TableContents, reading}
use Rattle.gi_pairs.specs.declared.key.Key.{Key}
use Rattle.gi_pairs.specs.declared.row.Row.{Row}
use Rattle.gi_facts.proofs.SameLemmas.{tables}
use Rattle.gi_desk.specs.Deciding.{difference, one_later}
use Rattle.gi_desk.proofs.Differing.{row-self}
use Rattle.gi_audit.specs.Laws.{APlaceIsTheFirst, TablesThatDifferHaveAPlace}
use Rattle.gi_audit.specs.Place.{IsFirstPlace, IsFirstRow, IsHourTold, ReadAlikeIn, differing_from, differing_hour, differs_in, first_place, hour_at, key_at, key_by, lower_key, place_at, read_in}
use Rattle.gi_audit.specs.declared.place.Place.{Place}

-- ---- the first row

abbrev of_row : Row → TableContents
of_row row = record { first = 0; last = 0; rows = row ∷ [] }

same_row : (x y : Row) → row_eq x y ≡ true → x ≡ y
same_row x y e =
    let same : of_row x ≡ of_row y = (tables (of_row x) (of_row y)).0 (and_from (row_eq x y) true e refl) in
    let rows : x ∷ [] ≡ y ∷ [] = ap (λ (t : TableContents). t.rows) same in
    cc

other_row : (x y : Row) → row_eq x y ≡ false → Some x ≢ Some y
other_row x y e same = let is : x ≡ y = cc in true≢false (sym (row-self x) ∙ ap (row_eq x) is ∙ e)

-- both lists begin alike, and go on differently from row number n on
record IsSplit (xs ys : List Row) (n : ℕ) : Type 0 where
  before : List Row
  rest : List Row
  others : List Row
  are : xs ≡ before ++ rest
  others_are : ys ≡ before ++ others
  differ : slice_get rest 0 ≢ slice_get others 0
  here : slice_get xs (n - 1) ≡ slice_get rest 0
  there : slice_get ys (n - 1) ≡ slice_get others 0
  from : 1 ≤ n

at_once : (xs ys : List Row) (n : ℕ) → n ≡ 1 → slice_get xs 0 ≢ slice_get ys 0 → IsSplit xs ys n
at_once xs ys n one differ =
    let place : n - 1 ≡ 0 = omega (arith, one) in
    record {
      before = [];
      rest = xs;
      others = ys;
      are = refl;
      others_are = refl;
      differ = differ;
      here = ap (slice_get xs) place;
      there = ap (slice_get ys) place;
      from = omega (arith, one);
    }

later : (x y : Row) (xs ys : List Row) (m n : ℕ) → x ≡ y → n ≡ m + 1 → IsSplit xs ys m → IsSplit (x ∷ xs) (y ∷ ys) n
later x y xs ys m n same next rest =
    let from = rest.from in
    let place : n - 1 ≡ suc (m - 1) = omega (arith, next, from) in
    record {
      before = x ∷ rest.before;
      rest = rest.rest;
      others = rest.others;
      are = ap (λ (rows : List Row). x ∷ rows) rest.are;
      others_are = ap (λ (row : Row). row ∷ ys) (sym same) ∙ ap (λ (rows : List Row). x ∷ rows) rest.others_are;
      differ = rest.differ;
      here = ap (slice_get (x ∷ xs)) place ∙ rest.here;
      there = ap (slice_get (y ∷ ys)) place ∙ rest.there;
      from = omega (arith, next);
    }

later_of : (x y : Row) (xs ys : List Row) (d : Option ℕ) (n : ℕ) → x ≡ y → ((m : ℕ) → d ≡ Some m → IsSplit xs ys m) → one_later d ≡ Some n → IsSplit (x ∷ xs) (y ∷ ys) n
later_of x y xs ys None n same rest e = absurd cc
later_of x y xs ys (Some m) n same rest e =
    let next : m + 1 ≡ n = cc in later x y xs ys m n same (sym next) (rest m refl)

split_by : (x y : Row) (xs ys : List Row) (b : Bool) (n : ℕ) → row_eq x y ≡ b → ((m : ℕ) → difference xs ys ≡ Some m → IsSplit xs ys m)
    → cond b (one_later (difference xs ys)) (Some 1) ≡ Some n → IsSplit (x ∷ xs) (y ∷ ys) n
split_by x y xs ys true n same rest e = later_of x y xs ys (difference xs ys) n (same_row x y same) rest e
split_by x y xs ys false n other rest e =
    let one : 1 ≡ n = cc in at_once (x ∷ xs) (y ∷ ys) n (sym one) (other_row x y other)

split : (xs ys : List Row) (n : ℕ) → difference xs ys ≡ Some n → IsSplit xs ys n
split [] [] n e = absurd cc
split [] (y ∷ ys) n e = let one : 1 ≡ n = cc in at_once [] (y ∷ ys) n (sym one) (λ same. cc)
split (x ∷ xs) [] n e = let one : 1 ≡ n = cc in at_once (x ∷ xs) [] n (sym one) (λ same. cc)
split (x ∷ xs) (y ∷ ys) n e = split_by x y xs ys (row_eq x y) n refl (λ m. split xs ys m) e

none_later : (d : Option ℕ) → one_later d ≡ None → d ≡ None
none_later None e = refl
none_later (Some n) e = absurd cc

same_rows_by : (x y : Row) (xs ys : List Row) (b : Bool) → row_eq x y ≡ b → (difference xs ys ≡ None → xs ≡ ys) → cond b (one_later (difference xs ys)) (Some 1) ≡ None
    → x ∷ xs ≡ y ∷ ys
same_rows_by x y xs ys true same rest e =
    let first = same_row x y same in
    let more = rest (none_later (difference xs ys) e) in
    cc
same_rows_by x y xs ys false other rest e = absurd cc

same_rows : (xs ys : List Row) → difference xs ys ≡ None → xs ≡ ys
same_rows [] [] e = refl
same_rows [] (y ∷ ys) e = absurd cc
same_rows (x ∷ xs) [] e = absurd cc
same_rows (x ∷ xs) (y ∷ ys) e = same_rows_by x y xs ys (row_eq x y) refl (same_rows xs ys) e

some_key : (met written : Option Row) → met ≢ written → (key : Key) × (lower_key met written ≡ Some key)
some_key None None differ = absurd (differ refl)
some_key None (Some written) differ = (_, refl)
some_key (Some met) None differ = (_, refl)
some_key (Some met) (Some written) differ = (_, refl)

key_is : (met written : TableContents) (n : ℕ) (key : Key) → IsSplit met.rows written.rows n → key_by met written (Some n) ≡ Some key → IsFirstRow met written key
key_is met written n key is e = record {
  before = is.before;
  met_rest = is.rest;
  written_rest = is.others;
  met_rows = is.are;
  written_rows = is.others_are;
  differ = is.differ;
  for_key = sym (ap (λ (row : Option Row). lower_key row (slice_get written.rows (n - 1))) is.here ∙ ap (lower_key (slice_get is.rest 0)) is.there) ∙ e;
}

row_by : (met written : TableContents) (d : Option ℕ) (key : Key) → difference met.rows written.rows ≡ d → key_by met written d ≡ Some key → IsFirstRow met written key
row_by met written None key is e = absurd cc
row_by met written (Some n) key is e = key_is met written n key (split met.rows written.rows n is) e

-- ---- the first hour

read_alike : (met written : TableContents) (key : Key) (hour : ℕ) → differs_in met written key hour ≡ false → ReadAlikeIn met written key hour
read_alike met written key hour e = by (nat_eq (reading met key.pair key.direction hour) (reading written key.pair key.direction hour)) refl e
  where
    by : (b : Bool) → nat_eq (reading met key.pair key.direction hour) (reading written key.pair key.direction hour) ≡ b → not b ≡ false → ReadAlikeIn met written key hour
    by true is e = eqb-true (reading met key.pair key.direction hour) (reading written key.pair key.direction hour) is
    by false is e = absurd cc

-- what is found of so many hours from one on
record IsFoundFrom (met written : TableContents) (key : Key) (more from hour : ℕ) : Type 0 where
  after : from ≤ hour
  within : hour < from + more
  differ : differs_in met written key hour ≡ true
  before : (other : ℕ) → from ≤ other → other < hour → ReadAlikeIn met written key other

-- what is so of the first hour, and of all after it
from_first : (Q : ℕ → Type 0) (from other : ℕ) → Q from → ((next : ℕ) → from + 1 ≤ next → Q next) → from ≤ other → Q other
from_first Q from other first rest above = by (eq-or-lt_of_le above)
  where
    by : (from ≡ other) ⊎ (from < other) → Q other
    by (inl same) = subst Q same first
    by (inr below) = rest other (omega (arith, below))

found_by : (met written : TableContents) (key : Key) (more from hour : ℕ) (b : Bool) → differs_in met written key from ≡ b
    → (differing_from met written key more (from + 1) ≡ Some hour → IsFoundFrom met written key more (from + 1) hour)
    → cond b (Some from) (differing_from met written key more (from + 1)) ≡ Some hour → IsFoundFrom met written key (suc more) from hour
found_by met written key more from hour true differs rest e =
    let same : from ≡ hour = cc in
    record {
      after = omega (arith, same);
      within = omega (arith, same);
      differ = ap (differs_in met written key) (sym same) ∙ differs;
      before = λ other above below. absurd (omega (arith, same, above, below));
    }
found_by met written key more from hour false alike rest e =
    let found = rest e in
    let after = found.after in
    let within = found.within in
    record {
      after = omega (arith, after);
      within = omega (arith, within);
      differ = found.differ;
      before = λ other above below. from_first (λ (at : ℕ). at < hour → ReadAlikeIn met written key at) from other
          (λ under. read_alike met written key from alike) (λ next over under. found.before next over under) above below;
    }

found_from : (met written : TableContents) (key : Key) (more from hour : ℕ) → differing_from met written key more from ≡ Some hour → IsFoundFrom met written key more from hour
found_from met written key zero from hour e = absurd cc
found_from met written key (suc more) from hour e =
    found_by met written key more from hour (differs_in met written key from) refl (found_from met written key more (from + 1) hour) e

none_by : (met written : TableContents) (key : Key) (more from : ℕ) (b : Bool) → differs_in met written key from ≡ b
    → (differing_from met written key more (from + 1) ≡ None → (hour : ℕ) → from + 1 ≤ hour → hour < from + 1 + more → ReadAlikeIn met written key hour)
    → cond b (Some from) (differing_from met written key more (from + 1)) ≡ None → (hour : ℕ) → from ≤ hour → hour < from + suc more → ReadAlikeIn met written key hour
none_by met written key more from true differs rest e hour above below = absurd cc
none_by met written key more from false alike rest e hour above below =
    from_first (λ (at : ℕ). at < from + suc more → ReadAlikeIn met written key at) from hour
    (λ under. read_alike met written key from alike) (λ next over under. rest e next over (omega (arith, under))) above below

none_from : (met written : TableContents) (key : Key) (more from : ℕ) → differing_from met written key more from ≡ None
    → (hour : ℕ) → from ≤ hour → hour < from + more → ReadAlikeIn met written key hour
none_from met written key zero from e hour above below = absurd (omega (arith, above, below))
none_from met written key (suc more) from e hour above below =
    none_by met written key more from (differs_in met written key from) refl (none_from met written key more (from + 1)) e hour above below

other_quantity : (a b : ℕ) → not (nat_eq a b) ≡ true → a ≢ b
other_quantity a b e same = true≢false (sym (eq-eqb a b same) ∙ by (nat_eq a b) refl e)
  where
    by : (t : Bool) → nat_eq a b ≡ t → not t ≡ true → nat_eq a b ≡ false
    by true is e = absurd cc
    by false is e = is

told_by : (met written : TableContents) (key : Key) (found : Option ℕ) → differing_from met written key last_hour 1 ≡ found
    → IsHourTold met written key (option_map (read_in met written key) found)
told_by met written key None none = λ hour above below. none_from met written key last_hour 1 none hour above (omega (arith, below))
told_by met written key (Some hour) is =
    let found = found_from met written key last_hour 1 hour is in
    let within = found.within in
    record {
      from = found.after;
      to = omega (arith, within);
      met_reads = refl;
      written_reads = refl;
      differ = other_quantity (reading met key.pair key.direction hour) (reading written key.pair key.direction hour) found.differ;
      before = found.before;
    }

hour_told : (met written : TableContents) (key : Key) → IsHourTold met written key (hour_at met written key)
unfolding differing_hour
hour_told met written key = told_by met written key (differing_from met written key last_hour 1) refl

-- ---- the place

placed : (met written : TableContents) (key : Key) (place : Place) → IsFirstRow met written key → place_at met written key ≡ place → IsFirstPlace met written place
placed met written key place row is =
    let first : IsFirstPlace met written (place_at met written key) = record { row = row; hour = hour_told met written key } in
    subst (IsFirstPlace met written) is first

place_by : (met written : TableContents) (found : Option Key) (place : Place) → key_at met written ≡ found → option_map (place_at met written) found ≡ Some place
    → IsFirstPlace met written place
place_by met written None place is e = absurd cc
place_by met written (Some key) place is e =
    let same : place_at met written key ≡ place = cc in
    placed met written key place (row_by met written (difference met.rows written.rows) key refl is) same

pub place-is-first : APlaceIsTheFirst
place-is-first met written place e = place_by met written (key_at met written) place refl e

abbrev HasPlace : TableContents → TableContents → Type 0
HasPlace met written = (place : Place) × (first_place met written ≡ Some place) × IsFirstPlace met written place

place_of_key : (met written : TableContents) (key : Key) → key_at met written ≡ Some key → HasPlace met written
place_of_key met written key is =
    let e : first_place met written ≡ Some (place_at met written key) = ap (option_map (place_at met written)) is in
    (place_at met written key, e, place-is-first met written (place_at met written key) e)

key_of_split : (met written : TableContents) (n : ℕ) → IsSplit met.rows written.rows n → difference met.rows written.rows ≡ Some n → (key : Key) × (key_at met written ≡ Some key)
key_of_split met written n is e =
    let found = some_key (slice_get is.rest 0) (slice_get is.others 0) is.differ in
    let here : lower_key (slice_get met.rows (n - 1)) (slice_get written.rows (n - 1)) ≡ Some found.0 =
    ap (λ (row : Option Row). lower_key row (slice_get written.rows (n - 1))) is.here ∙ ap (lower_key (slice_get is.rest 0)) is.there ∙ found.1 in
    (found.0, ap (key_by met written) e ∙ here)

place_where : (met written : TableContents) (d : Option ℕ) → HasShapeOf met written → met ≢ written → difference met.rows written.rows ≡ d → HasPlace met written
place_where met written None shape differ e =
    let rows = same_rows met.rows written.rows e in
    let same : met ≡ written = λ i. record { first = shape.first i; last = shape.last i; rows = rows i } in
    absurd (differ same)
place_where met written (Some n) shape differ e =
    let key = key_of_split met written n (split met.rows written.rows n e) e in place_of_key met written key.0 key.1

pub differing-have-a-place : TablesThatDifferHaveAPlace
differing-have-a-place met written shape differ = place_where met written (difference met.rows written.rows) shape differ refl
