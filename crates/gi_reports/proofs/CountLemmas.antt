-- How refused submissions are counted.
use Rattle.std.proofs.Common.{◌≡◌, ◌<◌, ◌≤◌, ◌+◌, ℕ, suc, List, [], ◌∷◌, ◌++◌, length, map, take, filter, get_or, Bool, true, false, not, cond, ◌||◌, Option, Some, None, nat_eq, refl, sym, ap, ◌∙◌, arith, true≢false, unwrap_or, append-nil, add-zero, length-append, subst}
use Rattle.std.specs.Prelude.{Decides}
use Rattle.std.specs.Cmp.Lexicographic.{pointwise}
use Rattle.std.specs.List.{AllByRecursion, IsDistinct, list_any}
use Rattle.std.specs.Map.{lookup}
use Rattle.std.proofs.lemmas.Bool.Decides.{Decides-eqb}
use Rattle.std.proofs.lemmas.List.{take_more}
use Rattle.std.proofs.lemmas.List.Elements.{filter-append}
use Rattle.std.proofs.lemmas.Slice.Eq.{slice_eq-Decides}
use Rattle.indexmap.specs.IndexMap.{insert_entry}
use Rattle.gi_reports.specs.Refused.{first_places, refused_counts, same, times}

abbrev pub Who : Type 0
Who = Option (List ℕ)

abbrev pub Test : Type 0
Test = Who → Bool

-- ---- when two submitters are the same

none_is_not_some : (code : List ℕ) → ◌≡◌ {A = Who} None (Some code) → ⊥
none_is_not_some code e = cc

some_is_not_none : (code : List ℕ) → ◌≡◌ {A = Who} (Some code) None → ⊥
some_is_not_none code e = cc

numbers : (a b : ℕ) → Decides (nat_eq a b) (a ≡ b)
numbers a b = Decides-eqb a b

same_decides : (a b : Who) → Decides (same a b) (a ≡ b)
same_decides None None = (λ _. refl, λ _. refl)
same_decides None (Some b) = (λ e. absurd (true≢false (sym e)), λ e. absurd (none_is_not_some b e))
same_decides (Some a) None = (λ e. absurd (true≢false (sym e)), λ e. absurd (some_is_not_none a e))
same_decides (Some a) (Some b) =
    let codes = slice_eq-Decides numbers a b (pointwise nat_eq a b) refl in (
      λ e. ap Some (codes.0 e),
      λ e. codes.1 (ap (λ (code : Who). unwrap_or code []) e),
    )

pub same_is : (a b : Who) → same a b ≡ true → a ≡ b
same_is a b = (same_decides a b).0

pub same_self : (a : Who) → same a a ≡ true
same_self a = (same_decides a a).1 refl

pub turned : (a b : Who) (answer : Bool) → same a b ≡ answer → same b a ≡ answer
turned a b true e = (same_decides b a).1 (sym (same_is a b e))
turned a b false e = by (same b a) refl
  where
    by : (r : Bool) → same b a ≡ r → same b a ≡ false
    by true t = absurd (true≢false (sym ((same_decides a b).1 (sym (same_is b a t))) ∙ e))
    by false t = t

-- ---- each at its first place

abbrev pub others : Who → Test
others a = λ other. not (same a other)

any_other : (a x : Who) (xs : List Who) → same x a ≡ false → list_any (same x) (filter (others a) xs) ≡ list_any (same x) xs
any_other a x [] differ = refl
any_other a x (y ∷ ys) differ = by (same a y) refl (any_other a x ys differ)
  where
    by : (b : Bool) → same a y ≡ b → list_any (same x) (filter (others a) ys) ≡ list_any (same x) ys
        → list_any (same x) (cond (not b) (y ∷ filter (others a) ys) (filter (others a) ys)) ≡ (same x y || list_any (same x) ys)
    by true e rest = rest ∙ sym (ap (λ (z : Who). same x z || list_any (same x) ys) (sym (same_is a y e)) ∙ ap (λ b. b || list_any (same x) ys) differ)
    by false e rest = ap (λ b. same x y || b) rest

pub stands_first : (x : Who) (xs : List Who) → list_any (same x) (first_places xs) ≡ list_any (same x) xs
unfolding first_places
stands_first x [] = refl
stands_first x (a ∷ later) = by (same x a) refl (stands_first x later)
  where
    by : (b : Bool) → same x a ≡ b → list_any (same x) (first_places later) ≡ list_any (same x) later
        → (b || list_any (same x) (filter (others a) (first_places later))) ≡ (b || list_any (same x) later)
    by true e rest = refl
    by false e rest = any_other a x (first_places later) e ∙ rest

first_more : (x : Who) (xs : List Who) → first_places (xs ++ x ∷ []) ≡ cond (list_any (same x) xs) (first_places xs) (first_places xs ++ x ∷ [])
unfolding first_places
first_more x [] = refl
first_more x (a ∷ later) =
    ap (λ (firsts : List Who). a ∷ filter (others a) firsts) (first_more x later) ∙ by (same x a) (list_any (same x) later) refl
  where
    firsts : List Who
    firsts = first_places later

    joined : (b : Bool) → same x a ≡ b → filter (others a) (firsts ++ x ∷ []) ≡ filter (others a) firsts ++ cond (not b) (x ∷ []) []
    joined b e = filter-append (others a) firsts (x ∷ []) ∙ ap (λ (r : Bool). filter (others a) firsts ++ cond (not r) (x ∷ []) []) (turned x a b e)

    by : (b t : Bool) → same x a ≡ b → a ∷ filter (others a) (cond t firsts (firsts ++ x ∷ []))
        ≡ cond (b || t) (a ∷ filter (others a) firsts) ((a ∷ filter (others a) firsts) ++ x ∷ [])
    by true true e = refl
    by true false e = ap (λ (l : List Who). a ∷ l) (joined true e ∙ append-nil (filter (others a) firsts))
    by false true e = refl
    by false false e = ap (λ (l : List Who). a ∷ l) (joined false e)

-- ---- none stands twice

all_kept : (P : Who → Type 0) (test : Test) (xs : List Who) → AllByRecursion P xs → AllByRecursion P (filter test xs)
all_kept P test [] all = all
all_kept P test (x ∷ xs) all = by (test x) (all_kept P test xs all.1)
  where
    by : (b : Bool) → AllByRecursion P (filter test xs) → AllByRecursion P (cond b (x ∷ filter test xs) (filter test xs))
    by true rest = (all.0, rest)
    by false rest = rest

distinct_kept : (test : Test) (xs : List Who) → IsDistinct same xs → IsDistinct same (filter test xs)
unfolding IsDistinct
distinct_kept test [] all = all
distinct_kept test (x ∷ xs) all = by (test x) (distinct_kept test xs all.1)
  where
    by : (b : Bool) → IsDistinct same (filter test xs) → IsDistinct same (cond b (x ∷ filter test xs) (filter test xs))
    by true rest = (all_kept (λ y. same x y ≡ false) test xs all.0, rest)
    by false rest = rest

all_others : (a : Who) (xs : List Who) → AllByRecursion (λ y. same a y ≡ false) (filter (others a) xs)
all_others a [] = tt
all_others a (x ∷ xs) = by (same a x) refl (all_others a xs)
  where
    by : (b : Bool) → same a x ≡ b → AllByRecursion (λ y. same a y ≡ false) (filter (others a) xs)
        → AllByRecursion (λ y. same a y ≡ false) (cond (not b) (x ∷ filter (others a) xs) (filter (others a) xs))
    by true e rest = rest
    by false e rest = (e, rest)

pub distinct_first : (xs : List Who) → IsDistinct same (first_places xs)
unfolding IsDistinct first_places
distinct_first [] = tt
distinct_first (a ∷ later) = (all_others a (first_places later), distinct_kept (others a) (first_places later) (distinct_first later))

-- ---- counts

times_more : (who x : Who) (xs : List Who) → times who (xs ++ x ∷ []) ≡ times who xs + cond (same who x) 1 0
unfolding times
times_more who x xs = ap length (filter-append (same who) xs (x ∷ [])) ∙ length-append (filter (same who) xs) (filter (same who) (x ∷ []))
    ∙ ap (λ (n : ℕ). length (filter (same who) xs) + n) (one (same who x))
  where
    one : (b : Bool) → length (cond b (x ∷ []) []) ≡ cond b 1 0
    one true = refl
    one false = refl

times_none : (who : Who) (xs : List Who) → list_any (same who) xs ≡ false → times who xs ≡ 0
unfolding times
times_none who [] none = refl
times_none who (x ∷ xs) none = by (same who x) none (λ e. times_none who xs e)
  where
    by : (b : Bool) → (b || list_any (same who) xs) ≡ false → (list_any (same who) xs ≡ false → length (filter (same who) xs) ≡ 0)
        → length (cond b (x ∷ filter (same who) xs) (filter (same who) xs)) ≡ 0
    by true e rest = absurd (true≢false e)
    by false e rest = rest e

pub times_few : (who : Who) (xs : List Who) → times who xs ≤ length xs
unfolding times
times_few who [] = omega arith
times_few who (x ∷ xs) = by (same who x) (times_few who xs)
  where
    by : (b : Bool) → length (filter (same who) xs) ≤ length xs → length (cond b (x ∷ filter (same who) xs) (filter (same who) xs)) ≤ suc (length xs)
    by true rest = omega (arith, rest)
    by false rest = omega (arith, rest)

-- ---- a map from each element to its count

abbrev pub counted_by : (Who → ℕ) → List Who → List (Who × ℕ)
counted_by count xs = map (λ who. (who, count who)) xs

looked : (x : Who) (count : Who → ℕ) (xs : List Who) → lookup (same x) (counted_by count xs) ≡ cond (list_any (same x) xs) (Some (count x)) None
looked x count [] = refl
looked x count (y ∷ ys) = by (same x y) refl (looked x count ys)
  where
    by : (b : Bool) → same x y ≡ b → lookup (same x) (counted_by count ys) ≡ cond (list_any (same x) ys) (Some (count x)) None
        → cond b (Some (count y)) (lookup (same x) (counted_by count ys)) ≡ cond (b || list_any (same x) ys) (Some (count x)) None
    by true e rest = ap (λ (z : Who). Some (count z)) (sym (same_is x y e))
    by false e rest = rest

agree : (count next : Who → ℕ) (x : Who) → ((who : Who) → same who x ≡ false → next who ≡ count who) → (xs : List Who)
    → AllByRecursion (λ y. same x y ≡ false) xs → counted_by count xs ≡ counted_by next xs
agree count next x same_else [] all = refl
agree count next x same_else (y ∷ ys) all =
    let here = same_else y (turned x y false all.0) in
    let rest = agree count next x same_else ys all.1 in
    λ t. (y, sym here t) ∷ rest t

inserted : (x : Who) (v : ℕ) (count next : Who → ℕ) → next x ≡ v → ((who : Who) → same who x ≡ false → next who ≡ count who) → (xs : List Who) → IsDistinct same xs
    → insert_entry same (counted_by count xs) x v ≡ counted_by next (cond (list_any (same x) xs) xs (xs ++ x ∷ []))
unfolding IsDistinct
inserted x v count next here same_else [] all = λ t. (x, sym here t) ∷ []
inserted x v count next here same_else (y ∷ ys) all = by (same x y) (list_any (same x) ys) refl (inserted x v count next here same_else ys all.1)
  where
    by : (b t : Bool) → same x y ≡ b → insert_entry same (counted_by count ys) x v ≡ counted_by next (cond t ys (ys ++ x ∷ []))
        → cond b ((y, v) ∷ counted_by count ys) ((y, count y) ∷ insert_entry same (counted_by count ys) x v)
        ≡ counted_by next (cond (b || t) (y ∷ ys) ((y ∷ ys) ++ x ∷ []))
    by true t e rest =
        let is = same_is x y e in
        let value : v ≡ next y = sym here ∙ ap next is in
        let later = agree count next x same_else ys (subst (λ (z : Who). AllByRecursion (λ w. same z w ≡ false) ys) (sym is) all.0) in
        λ i. (y, value i) ∷ later i
    by false true e rest = λ i. (y, sym (same_else y (turned x y false e)) i) ∷ rest i
    by false false e rest = λ i. (y, sym (same_else y (turned x y false e)) i) ∷ rest i

-- what is found of an element, and what one more of it makes
found : (x : Who) (xs : List Who) → unwrap_or (lookup (same x) (refused_counts xs)) 0 ≡ times x xs
unfolding refused_counts
found x xs = ap (λ (o : Option ℕ). unwrap_or o 0) (looked x (λ who. times who xs) (first_places xs) ∙ ap (λ b. cond b (Some (times x xs)) None) (stands_first x xs))
    ∙ by (list_any (same x) xs) refl
  where
    by : (b : Bool) → list_any (same x) xs ≡ b → unwrap_or (cond b (Some (times x xs)) None) 0 ≡ times x xs
    by true e = refl
    by false e = sym (times_none x xs e)

one_more : (x : Who) (xs : List Who) → insert_entry same (refused_counts xs) x (times x xs + 1) ≡ refused_counts (xs ++ x ∷ [])
unfolding refused_counts
one_more x xs =
    inserted x (times x xs + 1) (λ who. times who xs) (λ who. times who (xs ++ x ∷ []))
    (times_more x x xs ∙ ap (λ b. times x xs + cond b 1 0) (same_self x))
    (λ who differ. times_more who x xs ∙ ap (λ b. times who xs + cond b 1 0) differ ∙ add-zero (times who xs))
    (first_places xs) (distinct_first xs)
    ∙ ap (λ b. counted_by (λ who. times who (xs ++ x ∷ [])) (cond b (first_places xs) (first_places xs ++ x ∷ []))) (stands_first x xs)
    ∙ ap (counted_by (λ who. times who (xs ++ x ∷ []))) (sym (first_more x xs))

pub found_at : (xs : List Who) (i : ℕ) (x : Who) (entries : List (Who × ℕ)) (before : ℕ) → entries ≡ refused_counts (take i xs)
    → before ≡ unwrap_or (lookup (same x) entries) 0 → before ≡ times x (take i xs)
found_at xs i x entries before is looked_up = looked_up ∙ ap (λ es. unwrap_or (lookup (same x) es) 0) is ∙ found x (take i xs)

pub counted_more : (xs : List Who) (i : ℕ) (x : Who) (entries next : List (Who × ℕ)) (before : ℕ) → i < length xs → x ≡ get_or xs i x
    → entries ≡ refused_counts (take i xs) → before ≡ unwrap_or (lookup (same x) entries) 0 → next ≡ insert_entry same entries x (before + 1)
    → next ≡ refused_counts (take (i + 1) xs)
counted_more xs i x entries next before below at is looked_up inserts =
    let count = found_at xs i x entries before is looked_up in
    inserts ∙ (λ t. insert_entry same (is t) x (count t + 1)) ∙ one_more x (take i xs)
    ∙ ap refused_counts (sym (take_more xs i x below ∙ ap (λ (y : Who). take i xs ++ y ∷ []) (sym at)))
