-- Lines by their priorities.
use Rattle.std.proofs.Common.{◌≡◌, ℕ, zero, suc, ◌+◌, ◌-◌, ◌<◌, ◌≤◌, List, [], ◌∷◌, ◌++◌, filter, sum_by, All, true, false, Bool, cond, ◌&&◌, ◌||◌, ◌⊎◌, inl, inr, refl, sym, ap, ◌∙◌, subst, arith}
use Rattle.std.specs.declared.cmp.Ordering.TheVariants.{Less}
use Rattle.std.specs.List.{AllByRecursion}
use Rattle.std.specs.List.Sorted.{IsPermutation, IsStrictlySortedBy}
use Rattle.std.proofs.lemmas.Bool.{cases_lt, or_parts}
use Rattle.std.proofs.lemmas.Bool.Decides.{Decides-eqb, nat_tests}
use Rattle.std.proofs.lemmas.List.Elements.{All-cons, All-head, All-nil, All-tail}
use Rattle.std.proofs.lemmas.List.Sorted.{IsPermutation-cons, IsPermutation-middle, IsPermutation-refl, IsPermutation-trans, sum_by-IsPermutation}
use Rattle.std.proofs.lemmas.List.Sums.{sum_by-append, sum_by-cons}
use Rattle.gi_pairs.specs.Key.{code_cmp}
use Rattle.gi_pairs.specs.declared.direction.Direction.{Direction}
use Rattle.gi_pairs.proofs.Building.{In}
use Rattle.gi_pairs.proofs.Members.{from_filter, in_filter}
use Rattle.gi_messages.specs.declared.nomination_line.NominationLine.{NominationLine}
use Rattle.gi_nominations.specs.Lines.{has_twin, has_twins, is_twin}
use Rattle.gi_processing.specs.declared.rule.Rule.{Rule}
use Rattle.gi_processing.specs.declared.rule.Rule.TheVariants.{One, Two}
use Rattle.gi_processing.specs.Reduction.{AreOrdered, HasNoneBetween, by_counterparty, counterparties, has_priority, in_direction, is_before, is_in, is_served_before, is_served_up_to, is_up_to, left_for, part, part_by, quantity_at, sharing, total}
use Rattle.gi_processing.proofs.Counterparties.{are_ordered}
use Rattle.gi_processing.proofs.ReductionLaws.{part_same, part-permutation, part_whole, parts_sum, parts_whole, sum_by-filter-permutation}

-- ---- lists that pass two tests

pub filters_swap : {X : Type 0} (p q : X → Bool) (xs : List X) → filter p (filter q xs) ≡ filter q (filter p xs)
filters_swap p q [] = refl
filters_swap p q (x ∷ xs) = by_tests (p x) (q x) refl refl (filters_swap p q xs)
  where
    by_tests : (b c : Bool) → p x ≡ b → q x ≡ c → filter p (filter q xs) ≡ filter q (filter p xs) → filter p (cond c (x ∷ filter q xs) (filter q xs)) ≡ filter q (cond b (x ∷ filter p xs) (filter p xs))
    by_tests true true e f rest = rw (e, f) (ap (λ l. x ∷ l) rest)
    by_tests true false e f rest = rw f rest
    by_tests false true e f rest = rw e rest
    by_tests false false e f rest = rest

filter_both : {X : Type 0} (p q : X → Bool) (xs : List X) → filter p (filter q xs) ≡ filter (λ x. q x && p x) xs
filter_both p q [] = refl
filter_both p q (x ∷ xs) = by_tests (p x) (q x) refl (filter_both p q xs)
  where
    by_tests : (b c : Bool) → p x ≡ b → filter p (filter q xs) ≡ filter (λ y. q y && p y) xs
        → filter p (cond c (x ∷ filter q xs) (filter q xs)) ≡ cond (c && p x) (x ∷ filter (λ y. q y && p y) xs) (filter (λ y. q y && p y) xs)
    by_tests true true e rest = rw e (ap (λ l. x ∷ l) rest)
    by_tests false true e rest = rw e rest
    by_tests b false e rest = rest

-- what passes a test passes a weaker one
filter_within : {X : Type 0} (p q : X → Bool) (xs : List X) → ((x : X) → q x ≡ true → p x ≡ true) → filter q (filter p xs) ≡ filter q xs
filter_within p q [] weaker = refl
filter_within p q (x ∷ xs) weaker = by_tests (p x) (q x) refl refl (filter_within p q xs weaker)
  where
    by_tests : (b c : Bool) → p x ≡ b → q x ≡ c → filter q (filter p xs) ≡ filter q xs → filter q (cond b (x ∷ filter p xs) (filter p xs)) ≡ cond c (x ∷ filter q xs) (filter q xs)
    by_tests true true e f rest = rw f (ap (λ l. x ∷ l) rest)
    by_tests true false e f rest = rw f rest
    by_tests false true e f rest = let no = sym e ∙ weaker x f in absurd cc
    by_tests false false e f rest = rest

-- ---- what passes has no twins, and stays in order

no_twin-filter : (p : NominationLine → Bool) (line : NominationLine) (xs : List NominationLine) → has_twin line xs ≡ false → has_twin line (filter p xs) ≡ false
no_twin-filter p line [] e = refl
no_twin-filter p line (x ∷ xs) e = by_test (p x) (no_twin-filter p line xs ((or_parts _ _ e).1))
  where
    by_test : (b : Bool) → has_twin line (filter p xs) ≡ false → has_twin line (cond b (x ∷ filter p xs) (filter p xs)) ≡ false
    by_test true rest = let here : is_twin line x ≡ false = (or_parts _ _ e).0 in λ i. here i || rest i
    by_test false rest = rest

no_twins-filter : (p : NominationLine → Bool) (xs : List NominationLine) → has_twins xs ≡ false → has_twins (filter p xs) ≡ false
no_twins-filter p [] e = refl
no_twins-filter p (x ∷ xs) e = by_test (p x) (no_twins-filter p xs ((or_parts _ _ e).1))
  where
    by_test : (b : Bool) → has_twins (filter p xs) ≡ false → has_twins (cond b (x ∷ filter p xs) (filter p xs)) ≡ false
    by_test true rest = let here = no_twin-filter p x xs ((or_parts _ _ e).0) in λ i. here i || rest i
    by_test false rest = rest

above-filter : (p : NominationLine → Bool) (k : List ℕ) (xs : List NominationLine) → AllByRecursion (λ y. code_cmp k y ≡ Less) (counterparties xs) → AllByRecursion (λ y. code_cmp k y ≡ Less) (counterparties (filter p xs))
above-filter p k [] h = tt
above-filter p k (x ∷ xs) h = by_test (p x) (above-filter p k xs h.1)
  where
    by_test : (b : Bool) → AllByRecursion (λ y. code_cmp k y ≡ Less) (counterparties (filter p xs)) → AllByRecursion (λ y. code_cmp k y ≡ Less) (counterparties (cond b (x ∷ filter p xs) (filter p xs)))
    by_test true rest = (h.0, rest)
    by_test false rest = rest

pub ordered-filter : (p : NominationLine → Bool) (xs : List NominationLine) → AreOrdered xs → AreOrdered (filter p xs)
unfolding IsStrictlySortedBy
ordered-filter p [] s = tt
ordered-filter p (x ∷ xs) s = by_test (p x) (ordered-filter p xs s.1)
  where
    by_test : (b : Bool) → AreOrdered (filter p xs) → AreOrdered (cond b (x ∷ filter p xs) (filter p xs))
    by_test true rest = (above-filter p x.counterparty xs s.0, rest)
    by_test false rest = rest

-- ---- which lines come first

-- those before the next number are those before this one and those of this one
pub before_more : (priority : ℕ) (xs : List NominationLine) → IsPermutation (filter (is_served_before priority) xs ++ filter (has_priority priority) xs) (filter (is_served_before (priority + 1)) xs)
before_more priority [] = IsPermutation-refl []
before_more priority (x ∷ xs) = by_order (cases_lt x.priority priority) (cases_lt priority x.priority) (before_more priority xs)
  where
    before : List NominationLine
    before = filter (is_served_before priority) xs

    own : List NominationLine
    own = filter (has_priority priority) xs

    next : List NominationLine
    next = filter (is_served_before (priority + 1)) xs

    by_order : (x.priority < priority) ⊎ (priority ≤ x.priority) → (priority < x.priority) ⊎ (x.priority ≤ priority) → IsPermutation (before ++ own) next
        → IsPermutation (filter (is_served_before priority) (x ∷ xs) ++ filter (has_priority priority) (x ∷ xs)) (filter (is_served_before (priority + 1)) (x ∷ xs))
    by_order (inl less) other rest =
        let a : is_served_before priority x ≡ true = grind (arith, nat_tests, less) in
        let b : has_priority priority x ≡ false = grind (arith, nat_tests, less) in
        let c : is_served_before (priority + 1) x ≡ true = grind (arith, nat_tests, less) in
        rw (a, b, c) (IsPermutation-cons x (before ++ own) next rest)
    by_order (inr least) (inl more) rest =
        let a : is_served_before priority x ≡ false = grind (arith, nat_tests, more) in
        let b : has_priority priority x ≡ false = grind (arith, nat_tests, more) in
        let c : is_served_before (priority + 1) x ≡ false = grind (arith, nat_tests, more) in
        rw (a, b, c) rest
    by_order (inr least) (inr most) rest =
        let a : is_served_before priority x ≡ false = grind (arith, nat_tests, least) in
        let b : has_priority priority x ≡ true = grind (arith, nat_tests, least, most) in
        let c : is_served_before (priority + 1) x ≡ true = grind (arith, nat_tests, most) in
        rw (a, b, c) (IsPermutation-trans (before ++ x ∷ own) (x ∷ (before ++ own)) (x ∷ next) (IsPermutation-middle before x own) (IsPermutation-cons x (before ++ own) next rest))

-- where no line is between two numbers, the same lines come before both
pub none_between : (first second : ℕ) (xs : List NominationLine) → first ≤ second → HasNoneBetween first second xs → filter (is_served_before second) xs ≡ filter (is_served_before first) xs
none_between first second [] low none = refl
none_between first second (x ∷ xs) low none =
    by_side (All-head (λ (l : NominationLine). (l.priority < first) ⊎ (second ≤ l.priority)) x xs none)
    (none_between first second xs low (All-tail (λ (l : NominationLine). (l.priority < first) ⊎ (second ≤ l.priority)) x xs none))
  where
    by_side : (x.priority < first) ⊎ (second ≤ x.priority) → filter (is_served_before second) xs ≡ filter (is_served_before first) xs
        → filter (is_served_before second) (x ∷ xs) ≡ filter (is_served_before first) (x ∷ xs)
    by_side (inl less) rest =
        let a : is_served_before second x ≡ true = grind (arith, nat_tests, less, low) in
        let b : is_served_before first x ≡ true = grind (arith, nat_tests, less) in
        rw (a, b) (ap (λ l. x ∷ l) rest)
    by_side (inr more) rest =
        let a : is_served_before second x ≡ false = grind (arith, nat_tests, more) in
        let b : is_served_before first x ≡ false = grind (arith, nat_tests, more, low) in
        rw (a, b) rest

-- none comes before 0
pub none_first : (xs : List NominationLine) → filter (is_served_before 0) xs ≡ []
none_first [] = refl
none_first (x ∷ xs) = let here : is_served_before 0 x ≡ false = grind (arith, nat_tests) in rw here (none_first xs)

-- and all before a number that is above theirs
pub all_before : (priority : ℕ) (xs : List NominationLine) → All (λ (line : NominationLine). line.priority < priority) xs → filter (is_served_before priority) xs ≡ xs
all_before priority [] h = refl
all_before priority (x ∷ xs) h =
    let less = All-head (λ (line : NominationLine). line.priority < priority) x xs h in
    let here : is_served_before priority x ≡ true = grind (arith, nat_tests, less) in
    rw here (ap (λ l. x ∷ l) (all_before priority xs (All-tail (λ (line : NominationLine). line.priority < priority) x xs h)))

pub priority_is : (priority : ℕ) (line : NominationLine) → has_priority priority line ≡ true → line.priority ≡ priority
priority_is priority line e = (Decides-eqb line.priority priority).0 e

-- ---- what a rule makes of the lines of a direction

-- who shares with a line is a line, and shares with it
pub in_sharing : (rule : Rule) (priority : ℕ) (lines : List NominationLine) (line : NominationLine) → In line (sharing rule priority lines) → In line lines
in_sharing One priority lines line h = h
in_sharing Two priority lines line h = (from_filter (has_priority priority) line lines h).0

pub sharing_is : (rule : Rule) (priority available index : ℕ) (lines : List NominationLine) (line : NominationLine) → In line (sharing rule priority lines)
    → part_by rule available index lines line ≡ part (left_for rule priority available index lines) index (sharing rule priority lines) line
sharing_is One priority available index lines line h = refl
sharing_is Two priority available index lines line h =
    ap (λ p. part (left_for Two p available index lines) index (sharing Two p lines) line) (priority_is priority line (from_filter (has_priority priority) line lines h).1)

pub shares_itself : (rule : Rule) (lines : List NominationLine) (line : NominationLine) → In line lines → In line (sharing rule line.priority lines)
shares_itself One lines line h = h
shares_itself Two lines line h = in_filter (has_priority line.priority) line lines h ((Decides-eqb line.priority line.priority).1 refl)

-- those that share have an order
pub sharing_ordered : (rule : Rule) (priority : ℕ) (direction : Direction) (lines : List NominationLine) → has_twins lines ≡ false → AreOrdered (by_counterparty (sharing rule priority (in_direction direction lines)))
sharing_ordered One priority direction lines none = are_ordered direction lines none
sharing_ordered Two priority direction lines none =
    subst (λ (xs : List NominationLine). AreOrdered (by_counterparty xs)) (sym (filters_swap (has_priority priority) (is_in direction) lines))
    (are_ordered direction (filter (has_priority priority) lines) (no_twins-filter (has_priority priority) lines none))

-- an order of the lines does not matter
sums_twice : (f : NominationLine → ℕ) (p q : NominationLine → Bool) (xs ys : List NominationLine) → IsPermutation xs ys → sum_by f (filter p (filter q ys)) ≡ sum_by f (filter p (filter q xs))
sums_twice f p q xs ys moved =
    ap (sum_by f) (filter_both p q ys) ∙ sum_by-filter-permutation f (λ x. q x && p x) xs ys moved ∙ ap (sum_by f) (sym (filter_both p q xs))

pub part_by-permutation : (rule : Rule) (available index : ℕ) (xs ys : List NominationLine) (line : NominationLine) → IsPermutation xs ys → part_by rule available index ys line ≡ part_by rule available index xs line
part_by-permutation One available index xs ys line moved = λ i. part-permutation (available - total index []) index xs ys moved i line
part_by-permutation Two available index xs ys line moved =
    let own = has_priority line.priority in
    let left = sum_by-filter-permutation (quantity_at index) (is_served_before line.priority) xs ys moved in
    let parts = λ (a : ℕ). part_same a index (filter own xs) (filter own ys) (sum_by-filter-permutation (quantity_at index) own xs ys moved)
    (λ (l : NominationLine). sums_twice (quantity_at index) (is_up_to l.counterparty) own xs ys moved)
    (λ (l : NominationLine). sums_twice (quantity_at index) (is_before l.counterparty) own xs ys moved) in
    λ i. parts (available - left i) i line

-- ---- all parts together

below_all : (line : NominationLine) (xs : List NominationLine) → In line xs → line.priority ≤ sum_by (λ (l : NominationLine). l.priority) xs
below_all line [] h = absurd h
below_all line (x ∷ xs) (inl is) = omega (arith, sum_by-cons (λ (l : NominationLine). l.priority) x xs, ap (λ (l : NominationLine). l.priority) is)
below_all line (x ∷ xs) (inr h) = omega (arith, sum_by-cons (λ (l : NominationLine). l.priority) x xs, below_all line xs h)

sum_alike : (f g : NominationLine → ℕ) (xs : List NominationLine) → ((x : NominationLine) → In x xs → f x ≡ g x) → sum_by f xs ≡ sum_by g xs
sum_alike f g [] same = refl
sum_alike f g (x ∷ xs) same =
    let here = same x (inl refl) in
    let rest = sum_alike f g xs (λ y h. same y (inr h)) in
    omega (arith, here, rest, sum_by-cons f x xs, sum_by-cons g x xs)

-- so much of a sum is given out of what is left
abbrev IsShared : ℕ → ℕ → ℕ → Type 0
IsShared left sum given = ((sum ≤ left) × (given ≡ sum)) ⊎ ((left < sum) × (given ≡ left))

-- all that came first has its sum, or all that is available; so has all with one group more
sums_step : (a t s t_more p g p_more : ℕ) → t_more ≡ t + s → p_more ≡ p + g → (t ≤ a → p ≡ t) × (a ≤ t → p ≡ a) → IsShared (a - t) s g
    → (t_more ≤ a → p_more ≡ t_more) × (a ≤ t_more → p_more ≡ a)
sums_step a t s t_more p g p_more sums parts so_far (inl (fit, is)) = (
  λ within. omega (arith, sums, parts, is, fit, within, so_far.0 (omega (arith, sums, within))),
  λ over. by_side over (cases_lt a t),
)
  where
    by_side : a ≤ t_more → (a < t) ⊎ (t ≤ a) → p_more ≡ a
    by_side over (inl short) = omega (arith, sums, parts, is, fit, short, so_far.1 (omega (arith, short)))
    by_side over (inr most) = omega (arith, sums, parts, is, fit, over, most, so_far.0 most)
sums_step a t s t_more p g p_more sums parts so_far (inr (short, is)) = (
  λ within. absurd (omega (arith, sums, short, within)),
  λ over. by_side (cases_lt a t),
)
  where
    by_side : (a < t) ⊎ (t ≤ a) → p_more ≡ a
    by_side (inl less) = omega (arith, parts, is, less, so_far.1 (omega (arith, less)))
    by_side (inr most) = omega (arith, parts, is, most, so_far.0 most)

module _ (available index : ℕ) (direction : Direction) (lines : List NominationLine) (none : has_twins lines ≡ false) where
  abbrev all_lines : List NominationLine
  all_lines = in_direction direction lines

  abbrev by_two : NominationLine → ℕ
  by_two = part_by Two available index all_lines

  -- what the lines before a number have of it
  abbrev before_sum : ℕ → ℕ
  before_sum n = total index (filter (is_served_before n) all_lines)

  own_sum : (n : ℕ) → sum_by by_two (filter (has_priority n) all_lines) ≡ sum_by (part (available - before_sum n) index (filter (has_priority n) all_lines)) (filter (has_priority n) all_lines)
  own_sum n = sum_alike by_two (part (available - before_sum n) index (filter (has_priority n) all_lines)) (filter (has_priority n) all_lines) (λ line h. sharing_is Two n available index all_lines line h)

  pub sums_before : (n : ℕ) → (before_sum n ≤ available → sum_by by_two (filter (is_served_before n) all_lines) ≡ before_sum n) × (available ≤ before_sum n → sum_by by_two (filter (is_served_before n) all_lines) ≡ available)
  sums_before zero =
      let none_yet = none_first all_lines in
      let parts : sum_by by_two (filter (is_served_before 0) all_lines) ≡ 0 = ap (sum_by by_two) none_yet in
      let quantities : before_sum 0 ≡ 0 = ap (total index) none_yet in
      (λ fit. omega (arith, parts, quantities), λ short. omega (arith, parts, quantities, short))
  sums_before (suc n) =
      let one : n + 1 ≡ suc n = omega arith in
      let own = filter (has_priority n) all_lines in
      let moved = subst (λ k. IsPermutation (filter (is_served_before n) all_lines ++ own) (filter (is_served_before k) all_lines)) one (before_more n all_lines) in
      let more = λ (f : NominationLine → ℕ). sum_by-IsPermutation f (filter (is_served_before n) all_lines ++ own) (filter (is_served_before (suc n)) all_lines) moved ∙ sum_by-append f (filter (is_served_before n) all_lines) own in
      let quantities = more (quantity_at index) in
      let parts = more by_two in
      let so_far = sums_before n in
      let group = by_group n (cases_lt (available - before_sum n) (total index own)) in
      sums_step available (before_sum n) (total index own) (before_sum (suc n)) (sum_by by_two (filter (is_served_before n) all_lines)) (sum_by by_two own) (sum_by by_two (filter (is_served_before (suc n)) all_lines))
      quantities parts so_far group
    where
      by_group : (n : ℕ) → (available - before_sum n < total index (filter (has_priority n) all_lines)) ⊎ (total index (filter (has_priority n) all_lines) ≤ available - before_sum n)
          → IsShared (available - before_sum n) (total index (filter (has_priority n) all_lines)) (sum_by by_two (filter (has_priority n) all_lines))
      by_group n (inl short) = inr (short, own_sum n ∙ parts_sum (available - before_sum n) index (filter (has_priority n) all_lines) (sharing_ordered Two n direction lines none) short)
      by_group n (inr fit) = inl (fit, own_sum n ∙ parts_whole (available - before_sum n) index (filter (has_priority n) all_lines) fit)

all_from_in : (P : NominationLine → Type 0) (xs : List NominationLine) → ((x : NominationLine) → In x xs → P x) → All P xs
all_from_in P [] h = All-nil P
all_from_in P (x ∷ xs) h = All-cons P x xs (h x (inl refl)) (all_from_in P xs (λ y k. h y (inr k)))

-- where not all fit, the parts are together what is available, by either rule
pub all_given : (rule : Rule) (available index : ℕ) (direction : Direction) (lines : List NominationLine) → has_twins lines ≡ false → available < total index (in_direction direction lines)
    → sum_by (part_by rule available index (in_direction direction lines)) (in_direction direction lines) ≡ available
all_given One available index direction lines none less =
    let whole : available - total index [] ≡ available = omega arith in
    parts_sum (available - total index []) index (in_direction direction lines) (are_ordered direction lines none) (omega (arith, whole, less)) ∙ whole
all_given Two available index direction lines none less =
    let own = in_direction direction lines in
    let most = suc (sum_by (λ (l : NominationLine). l.priority) own) in
    let all = all_before most own (all_from_in (λ (l : NominationLine). l.priority < most) own (λ l h. omega (arith, below_all l own h))) in
    subst (λ (xs : List NominationLine). sum_by (part_by Two available index own) xs ≡ available) all
    ((sums_before available index direction lines none most).1 (omega (arith, less, ap (total index) all)))

-- ---- the laws in the subject's words

-- with one priority alone
pub one_priority : (priority available index : ℕ) (lines : List NominationLine) (line : NominationLine) → All (λ (l : NominationLine). l.priority ≡ priority) lines → line.priority ≡ priority
    → part_by Two available index lines line ≡ part_by One available index lines line
one_priority priority available index lines line all is =
    let same : filter (has_priority line.priority) lines ≡ lines = ap (λ p. filter (has_priority p) lines) is ∙ all_own lines all in
    let none : filter (is_served_before line.priority) lines ≡ [] = ap (λ p. filter (is_served_before p) lines) is ∙ no_others lines all in
    λ i. part (available - total index (none i)) index (same i) line
  where
    all_own : (xs : List NominationLine) → All (λ (l : NominationLine). l.priority ≡ priority) xs → filter (has_priority priority) xs ≡ xs
    all_own [] h = refl
    all_own (x ∷ xs) h =
        let here : has_priority priority x ≡ true = (Decides-eqb x.priority priority).1 (All-head (λ (l : NominationLine). l.priority ≡ priority) x xs h) in
        rw here (ap (λ l. x ∷ l) (all_own xs (All-tail (λ (l : NominationLine). l.priority ≡ priority) x xs h)))

    no_others : (xs : List NominationLine) → All (λ (l : NominationLine). l.priority ≡ priority) xs → filter (is_served_before priority) xs ≡ []
    no_others [] h = refl
    no_others (x ∷ xs) h =
        let own = All-head (λ (l : NominationLine). l.priority ≡ priority) x xs h in
        let here : is_served_before priority x ≡ false = grind (arith, nat_tests, own) in
        rw here (no_others xs (All-tail (λ (l : NominationLine). l.priority ≡ priority) x xs h))

-- lines of higher numbers take nothing
pub higher_take_nothing : (available index : ℕ) (lines others : List NominationLine) (line : NominationLine) → filter (is_served_up_to line.priority) lines ≡ filter (is_served_up_to line.priority) others
    → part_by Two available index lines line ≡ part_by Two available index others line
higher_take_nothing available index lines others line same =
    let up_to = is_served_up_to line.priority in
    let own = has_priority line.priority in
    let before = is_served_before line.priority in
    let own_too = λ (x : NominationLine) (e : own x ≡ true). own_served x e in
    let before_too = λ (x : NominationLine) (e : before x ≡ true). before_served x e in
    let owns : filter own lines ≡ filter own others = sym (filter_within up_to own lines own_too) ∙ ap (filter own) same ∙ filter_within up_to own others own_too in
    let befores : filter before lines ≡ filter before others = sym (filter_within up_to before lines before_too) ∙ ap (filter before) same ∙ filter_within up_to before others before_too in
    λ i. part (available - total index (befores i)) index (owns i) line
  where
    own_served : (x : NominationLine) → has_priority line.priority x ≡ true → is_served_up_to line.priority x ≡ true
    own_served x e = let is = priority_is line.priority x e in grind (arith, nat_tests, is)

    before_served : (x : NominationLine) → is_served_before line.priority x ≡ true → is_served_up_to line.priority x ≡ true
    before_served x e = grind (arith, nat_tests, e)

-- and where all fit, each has its quantity, by either rule
pub all_whole : (rule : Rule) (available index : ℕ) (lines : List NominationLine) (line : NominationLine) → total index lines ≤ available → part_by rule available index lines line ≡ quantity_at index line
all_whole One available index lines line fit = part_whole (available - total index []) index lines line (omega (arith, fit))
all_whole Two available index lines line fit =
    let before = filter (is_served_before line.priority) lines in
    let own = filter (has_priority line.priority) lines in
    let next = filter (is_served_before (line.priority + 1)) lines in
    let sums : total index next ≡ total index (before ++ own) = sum_by-IsPermutation (quantity_at index) (before ++ own) next (before_more line.priority lines) in
    part_whole (available - total index before) index own line (omega (arith, fit, sums, sum_by-append (quantity_at index) before own, some_of (is_served_before (line.priority + 1)) lines))
  where
    some_of : (p : NominationLine → Bool) (xs : List NominationLine) → total index (filter p xs) ≤ total index xs
    some_of p [] = omega arith
    some_of p (x ∷ xs) = by_test (p x) (some_of p xs)
      where
        by_test : (b : Bool) → total index (filter p xs) ≤ total index xs → total index (cond b (x ∷ filter p xs) (filter p xs)) ≤ total index (x ∷ xs)
        by_test true rest = omega (arith, rest, sum_by-cons (quantity_at index) x (filter p xs), sum_by-cons (quantity_at index) x xs)
        by_test false rest = omega (arith, rest, sum_by-cons (quantity_at index) x xs)
