-- One pass over lines in order of counterparty.
use Rattle.std.proofs.Common.{◌≡◌, ℕ, zero, suc, ◌+◌, ◌-◌, ◌*◌, ◌/◌, ◌<◌, ◌≤◌, List, [], ◌∷◌, ◌++◌, length, map, take, drop, get_or, All, false, ◌⊎◌, inl, inr, refl, sym, ap, ◌∙◌, subst, arith}
use Rattle.std.specs.Borrow.{Bor}
use Rattle.std.specs.declared.cmp.Ordering.{Ordering}
use Rattle.std.specs.declared.cmp.Ordering.TheVariants.{Less, Equal, Greater}
use Rattle.std.specs.List.{IsDistinct}
use Rattle.std.specs.List.Sorted.{IsPermutation, IsSortedByKey, IsStrictlySortedBy}
use Rattle.std.specs.Ordering.{eq_by_cmp, is_eq, is_lt, ordering_reverse}
use Rattle.std.proofs.lemmas.Bool.{cases_lt}
use Rattle.std.proofs.lemmas.List.{get_or-map, length-map, map_more}
use Rattle.std.proofs.lemmas.List.Elements.{All-head, All-tail}
use Rattle.std.proofs.lemmas.List.Sorted.{IsPermutation-map, IsPermutation-sym, IsPermutation-trans}
use Rattle.std.proofs.lemmas.List.Sums.{sum_by-append, sum_by-cons}
use Rattle.std.proofs.lemmas.Map.Keys.{IsDistinct-from_sorted, IsDistinct-IsPermutation, sorted_from_all_adjacent}
use Rattle.gi_pairs.specs.Key.{code_cmp}
use Rattle.gi_pairs.specs.declared.direction.Direction.{Direction}
use Rattle.gi_messages.specs.declared.nomination_line.NominationLine.{NominationLine}
use Rattle.gi_nominations.specs.Lines.{has_twins}
use Rattle.gi_processing.specs.Reduction.{AreOrdered, by_counterparty, counterparties, in_direction, part, quantity_at, quotient, referred, total}
use Rattle.gi_processing.proofs.Counterparties.{are_ordered, by_counterparty-permutation, code_total, less_from_not}
use Rattle.gi_processing.proofs.ReductionLaws.{fits, fits_not, part_middle, part_whole, scaled_grows, scaled_within, total_push}

-- ---- what is carried along

pub quotient_whole : (a b s : ℕ) → s ≤ a → quotient a b s ≡ b
quotient_whole a b s fit = let here = fits s a fit in rw here refl

pub quotient_scaled : (a b s : ℕ) → a < s → quotient a b s ≡ a * b / s
quotient_scaled a b s short = let here = fits_not s a short in rw here refl

-- it grows, and by no more than the sum
pub quotient_grows : (a b n s : ℕ) → quotient a b s ≤ quotient a (b + n) s
quotient_grows a b n s = by_order (cases_lt a s)
  where
    by_order : (a < s) ⊎ (s ≤ a) → quotient a b s ≤ quotient a (b + n) s
    by_order (inr fit) = let low = quotient_whole a b s fit in let high = quotient_whole a (b + n) s fit in omega (arith, low, high)
    by_order (inl short) =
        let low = quotient_scaled a b s short in
        let high = quotient_scaled a (b + n) s short in
        omega (arith, low, high, scaled_grows a b n s (omega (arith, short)))

pub quotient_within : (a b n s : ℕ) → quotient a (b + n) s ≤ quotient a b s + n
quotient_within a b n s = by_order (cases_lt a s)
  where
    by_order : (a < s) ⊎ (s ≤ a) → quotient a (b + n) s ≤ quotient a b s + n
    by_order (inr fit) = let low = quotient_whole a b s fit in let high = quotient_whole a (b + n) s fit in omega (arith, low, high)
    by_order (inl short) =
        let low = quotient_scaled a b s short in
        let high = quotient_scaled a (b + n) s short in
        omega (arith, low, high, scaled_within a b n s (omega (arith, short)) (omega (arith, short)))

-- a line's part is by how much it grows there
part_carried : (available index : ℕ) (all front : List NominationLine) (line : NominationLine) (back : List NominationLine) → all ≡ front ++ line ∷ back → AreOrdered all
    → part available index all line ≡ quotient available (total index front + quantity_at index line) (total index all) - quotient available (total index front) (total index all)
part_carried available index all front line back is ordered = by_order (cases_lt available (total index all))
  where
    by_order : (available < total index all) ⊎ (total index all ≤ available)
        → part available index all line ≡ quotient available (total index front + quantity_at index line) (total index all) - quotient available (total index front) (total index all)
    by_order (inl short) =
        let up_to = sym (quotient_scaled available (total index front + quantity_at index line) (total index all) short) in
        let before = sym (quotient_scaled available (total index front) (total index all) short) in
        part_middle available index all front line back is ordered short ∙ (λ i. up_to i - before i)
    by_order (inr fit) =
        let up_to = quotient_whole available (total index front + quantity_at index line) (total index all) fit in
        let before = quotient_whole available (total index front) (total index all) fit in
        part_whole available index all line fit ∙ omega (arith, up_to, before)

-- ---- lines by their places

referred_split : (xs : List (Bor NominationLine)) (i : ℕ) (d : Bor NominationLine) → i < length xs → referred xs ≡ referred (take i xs) ++ (get_or xs i d).now ∷ referred (drop (suc i) xs)
referred_split [] i d below = absurd (omega arith)
referred_split (x ∷ xs) zero d below = refl
referred_split (x ∷ xs) (suc i) d below = ap (λ (l : List NominationLine). x.now ∷ l) (referred_split xs i d (omega arith))

-- what holds of all that is made of a list holds at each place
pub all_mapped : {X Y : Type 0} (P : Y → Type 0) (f : X → Y) (xs : List X) (i : ℕ) (d : X) → i < length xs → All P (map f xs) → P (f (get_or xs i d))
all_mapped P f [] i d below all = absurd (omega arith)
all_mapped P f (x ∷ xs) zero d below all = All-head P (f x) (map f xs) all
all_mapped P f (x ∷ xs) (suc i) d below all = all_mapped P f xs i d (omega arith) (All-tail P (f x) (map f xs) all)

pub total_more : (index : ℕ) (xs : List (Bor NominationLine)) (i : ℕ) (d : Bor NominationLine) → i < length xs
    → total index (referred (take (i + 1) xs)) ≡ total index (referred (take i xs)) + quantity_at index (get_or xs i d).now
total_more index xs i d below =
    ap (total index) (map_more (λ (line : Bor NominationLine). line.now) xs i d below) ∙ total_push index (referred (take i xs)) (get_or xs i d).now

pub total_within : (index : ℕ) (xs : List (Bor NominationLine)) (i : ℕ) (d : Bor NominationLine) → i < length xs
    → total index (referred (take i xs)) + quantity_at index (get_or xs i d).now ≤ total index (referred xs)
total_within index xs i d below =
    let front = referred (take i xs) in
    let line = (get_or xs i d).now in
    let back = referred (drop (suc i) xs) in
    let all = ap (total index) (referred_split xs i d below) in
    omega (arith, all, sum_by-append (quantity_at index) front (line ∷ back), sum_by-cons (quantity_at index) line back)

pub part_at : (available index : ℕ) (xs : List (Bor NominationLine)) (i : ℕ) (d : Bor NominationLine) → i < length xs → AreOrdered (referred xs)
    → part available index (referred xs) (get_or xs i d).now
    ≡ quotient available (total index (referred (take i xs)) + quantity_at index (get_or xs i d).now) (total index (referred xs)) - quotient available (total index (referred (take i xs))) (total index (referred xs))
part_at available index xs i d below ordered =
    part_carried available index (referred xs) (referred (take i xs)) (get_or xs i d).now (referred (drop (suc i) xs)) (referred_split xs i d below) ordered

-- ---- lines that were sorted

eq_reversed : (o : Ordering) → is_eq (ordering_reverse o) ≡ is_eq o
eq_reversed Less = refl
eq_reversed Equal = refl
eq_reversed Greater = refl

eq_flips : (a b : List ℕ) → is_eq (code_cmp a b) ≡ is_eq (code_cmp b a)
eq_flips a b = ap is_eq (code_total.antisymm a b) ∙ eq_reversed (code_cmp b a)

distinct_at : (ks : List (List ℕ)) (k : ℕ) (d : List ℕ) → IsDistinct (eq_by_cmp code_cmp) ks → k + 1 < length ks → is_eq (code_cmp (get_or ks k d) (get_or ks (k + 1) d)) ≡ false
unfolding IsDistinct
distinct_at [] k d apart below = absurd (omega arith)
distinct_at (x ∷ []) k d apart below = absurd (omega arith)
distinct_at (x ∷ y ∷ ys) zero d apart below = apart.0.0
distinct_at (x ∷ y ∷ ys) (suc k) d apart below =
    let one : k + 1 ≡ suc k = omega arith in
    let next : suc k + 1 ≡ suc (k + 1) = omega arith in
    let rest = distinct_at (y ∷ ys) k d apart.1 (omega arith) in
    (λ i. is_eq (code_cmp (get_or (x ∷ y ∷ ys) (suc k) d) (get_or (x ∷ y ∷ ys) (next i) d))) ∙ rest

-- lines that do not fall, of counterparties that differ, ascend
ascend : (xs : List (Bor NominationLine)) → IsSortedByKey (λ (line : Bor NominationLine). line.now.counterparty) code_cmp xs → IsDistinct (eq_by_cmp code_cmp) (counterparties (referred xs)) → AreOrdered (referred xs)
unfolding IsStrictlySortedBy
ascend [] sorted apart = tt
ascend (x ∷ xs) sorted apart = sorted_from_all_adjacent code_total (counterparties (referred (x ∷ xs))) x.now.counterparty less
  where
    at : (k : ℕ) → k < length (x ∷ xs) → get_or (counterparties (referred (x ∷ xs))) k x.now.counterparty ≡ (get_or (x ∷ xs) k x).now.counterparty
    at k below =
        get_or-map (λ (line : NominationLine). line.counterparty) (referred (x ∷ xs)) k x.now x.now.counterparty (omega (arith, length-map (x ∷ xs) (λ (line : Bor NominationLine). line.now), below))
        ∙ ap (λ (line : NominationLine). line.counterparty) (get_or-map (λ (line : Bor NominationLine). line.now) (x ∷ xs) k x x.now below)

    less : (k : ℕ) → k + 1 < length (counterparties (referred (x ∷ xs)))
        → code_cmp (get_or (counterparties (referred (x ∷ xs))) k x.now.counterparty) (get_or (counterparties (referred (x ∷ xs))) (k + 1) x.now.counterparty) ≡ Less
    less k below =
        let here : k + 1 < length (x ∷ xs) = omega (arith, below, length-map (referred (x ∷ xs)) (λ (line : NominationLine). line.counterparty), length-map (x ∷ xs) (λ (line : Bor NominationLine). line.now)) in
        let a = get_or (counterparties (referred (x ∷ xs))) k x.now.counterparty in
        let b = get_or (counterparties (referred (x ∷ xs))) (k + 1) x.now.counterparty in
        let no_fall : is_lt (code_cmp b a) ≡ false = (λ i. is_lt (code_cmp (at (k + 1) here i) (at k (omega (arith, here)) i))) ∙ sorted k x (omega arith) here in
        less_from_not b a (code_cmp b a) refl no_fall (eq_flips b a ∙ distinct_at (counterparties (referred (x ∷ xs))) k x.now.counterparty apart below)

pub sorted_lines : (direction : Direction) (lines : List NominationLine) (kept sorted : List (Bor NominationLine)) → referred kept ≡ in_direction direction lines → IsPermutation kept sorted
    → IsPermutation (in_direction direction lines) (referred sorted)
sorted_lines direction lines kept sorted is moved =
    subst (λ (xs : List NominationLine). IsPermutation xs (referred sorted)) is (IsPermutation-map (λ (line : Bor NominationLine). line.now) kept sorted moved)

pub sorted_ascend : (direction : Direction) (lines : List NominationLine) (kept sorted : List (Bor NominationLine)) → has_twins lines ≡ false → referred kept ≡ in_direction direction lines → IsPermutation kept sorted
    → IsSortedByKey (λ (line : Bor NominationLine). line.now.counterparty) code_cmp sorted → AreOrdered (referred sorted)
sorted_ascend direction lines kept sorted none is moved order =
    let own = in_direction direction lines in
    let moves = IsPermutation-trans (by_counterparty own) own (referred sorted) (IsPermutation-sym own (by_counterparty own) (by_counterparty-permutation own)) (sorted_lines direction lines kept sorted is moved) in
    let codes = IsPermutation-map (λ (line : NominationLine). line.counterparty) (by_counterparty own) (referred sorted) moves in
    let apart = IsDistinct-from_sorted code_cmp (counterparties (by_counterparty own)) (are_ordered direction lines none) in
    ascend sorted order (IsDistinct-IsPermutation (eq_by_cmp code_cmp) eq_flips (counterparties (by_counterparty own)) (counterparties (referred sorted)) codes apart)
