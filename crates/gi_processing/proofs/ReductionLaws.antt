-- Parts make a reduction: none exceeds its quantity, and together they are what is available.
use Rattle.std.proofs.Common.{◌≡◌, ℕ, zero, suc, ◌+◌, ◌-◌, ◌*◌, ◌/◌, ◌<◌, ◌≤◌, List, [], ◌∷◌, ◌++◌, length, map, filter, take, sum, sum_by, nat_le, true, false, Bool, cond, ◌⊎◌, inl, inr, Contains, refl, sym, ap, ◌∙◌, subst, arith, add-zero, zero-add, if◌then◌else◌}
use Rattle.std.specs.declared.cmp.Ordering.TheVariants.{Less}
use Rattle.std.specs.List.{AllByRecursion}
use Rattle.std.specs.List.Sorted.{IsPermutation, IsStrictlySortedBy}
use Rattle.std.specs.Ordering.{is_le, is_lt}
use Rattle.std.proofs.Math.Nat.{add-mul-div_left, div-mul-le_self, mul-div_cancel, mul-le-mul_left, mul-le-mul_right, zero-div}
use Rattle.std.proofs.Math.Seq.{take-length}
use Rattle.std.proofs.lemmas.Bool.{cases_lt}
use Rattle.std.proofs.lemmas.Nat.{le-div}
use Rattle.std.proofs.lemmas.Bool.Decides.{nat_tests}
use Rattle.std.proofs.lemmas.List.{length-map, append_assoc}
use Rattle.std.proofs.lemmas.List.Sorted.{sum_by-IsPermutation, Contains-permutation}
use Rattle.std.proofs.lemmas.List.Sums.{sum_by-cons, sum_by-append, sum-map}
use Rattle.gi_pairs.specs.Key.{code_cmp}
use Rattle.gi_pairs.proofs.Building.{In, in_from_contains}
use Rattle.gi_messages.specs.declared.nomination_line.NominationLine.{NominationLine}
use Rattle.gi_processing.specs.Reduction.{AreOrdered, by_counterparty, counterparties, is_before, is_up_to, part, quantity_at, sum_before, sum_up_to, total, IsReduction}
use Rattle.gi_processing.proofs.Counterparties.{by_counterparty-permutation, code_above, code_refl}

-- ---- which lines come before one, where lines ascend

none_below : (line : NominationLine) (xs : List NominationLine) → AllByRecursion (λ y. code_cmp line.counterparty y ≡ Less) (counterparties xs) → filter (is_before line.counterparty) xs ≡ []
none_below line [] h = refl
none_below line (x ∷ xs) h =
    let here : is_before line.counterparty x ≡ false = ap is_lt (code_above line.counterparty x.counterparty h.0) in
    rw here (none_below line xs h.1)

none_up_to : (line : NominationLine) (xs : List NominationLine) → AllByRecursion (λ y. code_cmp line.counterparty y ≡ Less) (counterparties xs) → filter (is_up_to line.counterparty) xs ≡ []
none_up_to line [] h = refl
none_up_to line (x ∷ xs) h =
    let here : is_up_to line.counterparty x ≡ false = ap is_le (code_above line.counterparty x.counterparty h.0) in
    rw here (none_up_to line xs h.1)

below_middle : (k : List ℕ) (front : List NominationLine) (line : NominationLine) (back : List NominationLine) → AllByRecursion (λ y. code_cmp k y ≡ Less) (counterparties (front ++ line ∷ back)) → code_cmp k line.counterparty ≡ Less
below_middle k [] line back h = h.0
below_middle k (x ∷ xs) line back h = below_middle k xs line back h.1

pub before_middle : (front : List NominationLine) (line : NominationLine) (back : List NominationLine) → AreOrdered (front ++ line ∷ back) → filter (is_before line.counterparty) (front ++ line ∷ back) ≡ front
unfolding IsStrictlySortedBy
before_middle [] line back s =
    let here : is_before line.counterparty line ≡ false = ap is_lt (code_refl line.counterparty) in
    rw here (none_below line back s.0)
before_middle (x ∷ xs) line back s =
    let here : is_before line.counterparty x ≡ true = ap is_lt (below_middle x.counterparty xs line back s.0) in
    rw here (ap (λ l. x ∷ l) (before_middle xs line back s.1))

pub up_to_middle : (front : List NominationLine) (line : NominationLine) (back : List NominationLine) → AreOrdered (front ++ line ∷ back) → filter (is_up_to line.counterparty) (front ++ line ∷ back) ≡ front ++ line ∷ []
unfolding IsStrictlySortedBy
up_to_middle [] line back s =
    let here : is_up_to line.counterparty line ≡ true = ap is_le (code_refl line.counterparty) in
    rw here (ap (λ l. line ∷ l) (none_up_to line back s.0))
up_to_middle (x ∷ xs) line back s =
    let here : is_up_to line.counterparty x ≡ true = ap is_le (below_middle x.counterparty xs line back s.0) in
    rw here (ap (λ l. x ∷ l) (up_to_middle xs line back s.1))

-- ---- what a line's part is, where it stands among lines that ascend

pub fits_not : (s a : ℕ) → a < s → nat_le s a ≡ false
fits_not s a less = grind (arith, nat_tests)

pub fits : (s a : ℕ) → s ≤ a → nat_le s a ≡ true
fits s a less = grind (arith, nat_tests)

pub total_push : (index : ℕ) (front : List NominationLine) (line : NominationLine) → total index (front ++ line ∷ []) ≡ total index front + quantity_at index line
total_push index front line = sum_by-append (quantity_at index) front (line ∷ []) ∙ ap (λ n. total index front + n) (sum_by-cons (quantity_at index) line [] ∙ add-zero (quantity_at index line))

-- where all fit, it is the quantity
pub part_whole : (available index : ℕ) (lines : List NominationLine) (line : NominationLine) → total index lines ≤ available → part available index lines line ≡ quantity_at index line
unfolding part
part_whole available index lines line less = let here = fits (total index lines) available less in rw here refl

-- elsewhere the scaled sums differ by it
pub part_middle : (available index : ℕ) (all front : List NominationLine) (line : NominationLine) (back : List NominationLine) → all ≡ front ++ line ∷ back → AreOrdered all → available < total index all
    → part available index all line ≡ available * (total index front + quantity_at index line) / total index all - available * total index front / total index all
unfolding part
part_middle available index all front line back is ordered less =
    let here = fits_not (total index all) available less in
    let ascend : AreOrdered (front ++ line ∷ back) = subst (λ (l : List NominationLine). AreOrdered l) is ordered in
    let before : sum_before line.counterparty index all ≡ total index front = ap (λ (l : List NominationLine). sum_before line.counterparty index l) is ∙ ap (total index) (before_middle front line back ascend) in
    let up_to : sum_up_to line.counterparty index all ≡ total index front + quantity_at index line =
    ap (λ (l : List NominationLine). sum_up_to line.counterparty index l) is ∙ ap (total index) (up_to_middle front line back ascend) ∙ total_push index front line in
    rw here (λ i. available * up_to i / total index all - available * before i / total index all)

-- ---- sums scaled

pub div_grows : (x y s : ℕ) → 0 < s → x ≤ y → x / s ≤ y / s
div_grows x y s some less = le-div (x / s) y s some (omega (arith, div-mul-le_self x s))

pub scaled_grows : (a b n s : ℕ) → 0 < s → a * b / s ≤ a * (b + n) / s
scaled_grows a b n s some =
    let more : b ≤ b + n = omega arith in
    div_grows (a * b) (a * (b + n)) s some (mul-le-mul_left a more)

-- a sum scaled grows by no more than the sum
pub scaled_within : (a b n s : ℕ) → 0 < s → a ≤ s → a * (b + n) / s ≤ a * b / s + n
scaled_within a b n s some less =
    let wide : a * (b + n) ≤ a * b + s * n = omega (arith, mul-le-mul_right n less) in
    let most = div_grows (a * (b + n)) (a * b + s * n) s some wide in
    omega (arith, most, add-mul-div_left (a * b) n some)

-- what the differences of scaled sums are, one by one, where so much came before
abbrev parts_after : ℕ → ℕ → ℕ → List ℕ → List ℕ
parts_after a s b [] = []
parts_after a s b (n ∷ ns) = (a * (b + n) / s - a * b / s) ∷ parts_after a s (b + n) ns

none_more : (a s b : ℕ) → sum [] + a * b / s ≡ a * (b + sum []) / s
none_more a s b = zero-add (a * b / s) ∙ ap (λ n. a * n / s) (sym (add-zero b))

-- the first so many of them make up the scaled sum of the first so many
sum-parts_after : (a s b : ℕ) (ns : List ℕ) (count : ℕ) → 0 < s → sum (take count (parts_after a s b ns)) + a * b / s ≡ a * (b + sum (take count ns)) / s
sum-parts_after a s b ns zero some = none_more a s b
sum-parts_after a s b [] (suc count) some = none_more a s b
sum-parts_after a s b (n ∷ ns) (suc count) some =
    let rest = sum-parts_after a s (b + n) ns count some in
    let parts = sum_by-cons (λ x. x) (a * (b + n) / s - a * b / s) (take count (parts_after a s (b + n) ns)) in
    let quantities : b + n + sum (take count ns) ≡ b + sum (n ∷ take count ns) = omega (arith, sum_by-cons (λ x. x) n (take count ns)) in
    let joined : sum ((a * (b + n) / s - a * b / s) ∷ take count (parts_after a s (b + n) ns)) + a * b / s ≡ sum (take count (parts_after a s (b + n) ns)) + a * (b + n) / s = omega (arith, scaled_grows a b n s some, parts) in
    joined ∙ rest ∙ ap (λ m. a * m / s) quantities

-- ---- the parts of lines that ascend

parts_of_rest : (available index : ℕ) (all front rest : List NominationLine) → all ≡ front ++ rest → AreOrdered all → available < total index all
    → map (part available index all) rest ≡ parts_after available (total index all) (total index front) (map (quantity_at index) rest)
parts_of_rest available index all front [] is ordered less = refl
parts_of_rest available index all front (x ∷ xs) is ordered less =
    let here = part_middle available index all front x xs is ordered less in
    let rest = parts_of_rest available index all (front ++ x ∷ []) xs (is ∙ sym (append_assoc front (x ∷ []) xs)) ordered less in
    let there : parts_after available (total index all) (total index (front ++ x ∷ [])) (map (quantity_at index) xs) ≡ parts_after available (total index all) (total index front + quantity_at index x) (map (quantity_at index) xs) =
    ap (λ b. parts_after available (total index all) b (map (quantity_at index) xs)) (total_push index front x) in
    let tail = rest ∙ there in
    λ i. here i ∷ tail i

parts_in_order : (available index : ℕ) (all : List NominationLine) → AreOrdered all → available < total index all
    → map (part available index all) all ≡ parts_after available (total index all) 0 (map (quantity_at index) all)
parts_in_order available index all ordered less = parts_of_rest available index all [] all refl ordered less

pub all_fit : (available index : ℕ) (all lines : List NominationLine) → total index all ≤ available → map (part available index all) lines ≡ map (quantity_at index) lines
all_fit available index all [] less = refl
all_fit available index all (x ∷ xs) less = λ i. part_whole available index all x less i ∷ all_fit available index all xs less i

pub total-map : (index : ℕ) (lines : List NominationLine) → sum (map (quantity_at index) lines) ≡ total index lines
total-map index lines = sum-map (quantity_at index) lines

-- lines that ascend are reduced
ordered_reduction : (available index : ℕ) (all : List NominationLine) → AreOrdered all → IsReduction available (map (quantity_at index) all) (map (part available index all) all)
ordered_reduction available index all ordered = record {
  each = simp length-map;
  whole = λ less. all_fit available index all all (omega (arith, total-map index all));
  scaled = λ less count. scaled_sums less count;
}
  where
    scaled_sums : available < sum (map (quantity_at index) all) → (count : ℕ)
        → sum (take count (map (part available index all) all)) ≡ available * sum (take count (map (quantity_at index) all)) / sum (map (quantity_at index) all)
    scaled_sums less count =
        let short : available < total index all = omega (arith, total-map index all) in
        let some : 0 < total index all = omega arith in
        let sums = sum-parts_after available (total index all) 0 (map (quantity_at index) all) count some in
        let quantities = sum (take count (map (quantity_at index) all)) in
        let none : available * 0 / total index all ≡ 0 = omega (arith, div_grows (available * 0) 0 (total index all) some (omega arith), zero-div (total index all)) in
        let first : sum (take count (parts_after available (total index all) 0 (map (quantity_at index) all))) ≡ available * quantities / total index all = omega (arith, sums, none, ap (λ n. available * n / total index all) (zero-add quantities)) in
        ap (λ (l : List ℕ). sum (take count l)) (parts_in_order available index all ordered short) ∙ first ∙ ap (λ n. available * quantities / n) (sym (total-map index all))

-- ---- an order of the lines does not matter

sum_by-filter : {X : Type 0} (f : X → ℕ) (p : X → Bool) (xs : List X) → sum_by f (filter p xs) ≡ sum_by (λ x. cond (p x) (f x) 0) xs
sum_by-filter f p [] = refl
sum_by-filter f p (x ∷ xs) = by_test (p x) (sum_by-filter f p xs) ∙ sym (sum_by-cons (λ y. cond (p y) (f y) 0) x xs)
  where
    by_test : (b : Bool) → sum_by f (filter p xs) ≡ sum_by (λ y. cond (p y) (f y) 0) xs → sum_by f (cond b (x ∷ filter p xs) (filter p xs)) ≡ cond b (f x) 0 + sum_by (λ y. cond (p y) (f y) 0) xs
    by_test true e = sum_by-cons f x (filter p xs) ∙ ap (λ n. f x + n) e
    by_test false e = e ∙ sym (zero-add (sum_by (λ y. cond (p y) (f y) 0) xs))

pub sum_by-filter-permutation : {X : Type 0} (f : X → ℕ) (p : X → Bool) (xs ys : List X) → IsPermutation xs ys → sum_by f (filter p ys) ≡ sum_by f (filter p xs)
sum_by-filter-permutation f p xs ys moved = sum_by-filter f p ys ∙ sum_by-IsPermutation (λ x. cond (p x) (f x) 0) xs ys moved ∙ sym (sum_by-filter f p xs)

-- a part depends on the sums alone
pub part_same : (available index : ℕ) (xs ys : List NominationLine) → total index ys ≡ total index xs
    → ((line : NominationLine) → sum_up_to line.counterparty index ys ≡ sum_up_to line.counterparty index xs)
    → ((line : NominationLine) → sum_before line.counterparty index ys ≡ sum_before line.counterparty index xs)
    → part available index ys ≡ part available index xs
unfolding part
part_same available index xs ys all up_to before =
    λ i line. if nat_le (all i) available then quantity_at index line else available * up_to line i / all i - available * before line i / all i

pub part-permutation : (available index : ℕ) (xs ys : List NominationLine) → IsPermutation xs ys → part available index ys ≡ part available index xs
part-permutation available index xs ys moved =
    part_same available index xs ys (sum_by-IsPermutation (quantity_at index) xs ys moved)
    (λ line. sum_by-filter-permutation (quantity_at index) (is_up_to line.counterparty) xs ys moved)
    (λ line. sum_by-filter-permutation (quantity_at index) (is_before line.counterparty) xs ys moved)

-- ---- the laws of lines that can be put into order

-- a line stands somewhere in the list
split_at : {X : Type 0} (x : X) (xs : List X) → In x xs → (front : List X) × (back : List X) × (xs ≡ front ++ x ∷ back)
split_at x [] h = absurd h
split_at x (y ∷ ys) (inl is) = ([], ys, λ i. is i ∷ ys)
split_at x (y ∷ ys) (inr h) = let found = split_at x ys h in (y ∷ found.0, found.1, λ i. y ∷ found.2 i)

ordered_within : (available index : ℕ) (all : List NominationLine) (line : NominationLine) → AreOrdered all → In line all → part available index all line ≤ quantity_at index line
ordered_within available index all line ordered h = by_order (cases_lt available (total index all))
  where
    by_order : (available < total index all) ⊎ (total index all ≤ available) → part available index all line ≤ quantity_at index line
    by_order (inr less) = omega (arith, part_whole available index all line less)
    by_order (inl less) =
        let found = split_at line all h in
        let is = part_middle available index all found.0 line found.1 found.2 ordered less in
        let within = scaled_within available (total index found.0) (quantity_at index line) (total index all) (omega arith) (omega arith) in
        omega (arith, is, within)

-- no part exceeds its quantity
pub no_part_exceeds : (available index : ℕ) (lines : List NominationLine) (line : NominationLine) → AreOrdered (by_counterparty lines) → Contains lines line
    → part available index lines line ≤ quantity_at index line
no_part_exceeds available index lines line ordered stands =
    let moved = by_counterparty-permutation lines in
    let there = in_from_contains line (by_counterparty lines) (Contains-permutation lines (by_counterparty lines) line moved stands) in
    subst (λ (p : NominationLine → ℕ). p line ≤ quantity_at index line) (part-permutation available index lines (by_counterparty lines) moved)
    (ordered_within available index (by_counterparty lines) line ordered there)

-- the parts in order of counterparty are the quantities, reduced
pub is_reduction : (available index : ℕ) (lines : List NominationLine) → AreOrdered (by_counterparty lines)
    → IsReduction available (map (quantity_at index) (by_counterparty lines)) (map (part available index lines) (by_counterparty lines))
is_reduction available index lines ordered =
    subst (λ (p : NominationLine → ℕ). IsReduction available (map (quantity_at index) (by_counterparty lines)) (map p (by_counterparty lines)))
    (part-permutation available index lines (by_counterparty lines) (by_counterparty-permutation lines))
    (ordered_reduction available index (by_counterparty lines) ordered)

-- a reduction gives out all that is available
sum-reduction : (available : ℕ) (quantities parts : List ℕ) → IsReduction available quantities parts → available < sum quantities → sum parts ≡ available
sum-reduction available quantities parts r less =
    let some : 0 < sum quantities = omega arith in
    let scaled = r.scaled less (length quantities) in
    let all_parts : take (length quantities) parts ≡ parts = ap (λ n. take n parts) (sym r.each) ∙ take-length parts in
    ap sum (sym all_parts) ∙ scaled ∙ ap (λ (l : List ℕ). available * sum l / sum quantities) (take-length quantities) ∙ mul-div_cancel available some

-- where not all fit, the parts are together what is available
pub parts_sum : (available index : ℕ) (lines : List NominationLine) → AreOrdered (by_counterparty lines) → available < total index lines
    → sum_by (part available index lines) lines ≡ available
parts_sum available index lines ordered less =
    let moved = by_counterparty-permutation lines in
    let quantities : sum (map (quantity_at index) (by_counterparty lines)) ≡ total index lines =
    total-map index (by_counterparty lines) ∙ sum_by-IsPermutation (quantity_at index) lines (by_counterparty lines) moved in
    sym (sum_by-IsPermutation (part available index lines) lines (by_counterparty lines) moved) ∙ sym (sum-map (part available index lines) (by_counterparty lines))
    ∙ sum-reduction available _ _ (is_reduction available index lines ordered) (omega (arith, quantities))

-- and where all fit, they are all that is nominated
pub parts_whole : (available index : ℕ) (lines : List NominationLine) → total index lines ≤ available → sum_by (part available index lines) lines ≡ total index lines
parts_whole available index lines fit =
    sym (sum-map (part available index lines) lines) ∙ ap sum (all_fit available index lines lines fit) ∙ total-map index lines
