-- The rows that are made direction by direction are the rows of all lines.
use Rattle.std.proofs.Common.{◌≡◌, ℕ, ◌+◌, ◌-◌, ◌<◌, ◌≤◌, ◌==◌, List, [], ◌∷◌, ◌++◌, cond, filter, length, map, get_or, slice_index, All, Ok, true, false, Bool, nat_eq, nat_lt, refl, sym, ap, ◌∙◌, subst, arith}
use Rattle.std.specs.Borrow.{Bor}
use Rattle.std.specs.List.{range_with_len}
use Rattle.std.specs.List.Sorted.{IsPermutation}
use Rattle.std.proofs.lemmas.Bool.Decides.{nat_tests}
use Rattle.std.proofs.lemmas.List.{append_assoc, get_or-map, length-map, map-append}
use Rattle.std.proofs.lemmas.List.Elements.{All-cons, All-nil}
use Rattle.std.proofs.lemmas.List.FromFn.{map-range_with_len_more}
use Rattle.std.proofs.lemmas.List.Sorted.{All-permutation, Contains-permutation, IsPermutation-append_left, IsPermutation-append_right, IsPermutation-cons, IsPermutation-map, IsPermutation-middle, IsPermutation-refl, IsPermutation-sym, IsPermutation-trans, length_permutation}
use Rattle.std.proofs.lemmas.List.Sums.{AllPass-from_list_all, list_all-from_AllPass}
use Rattle.gi_pairs.specs.Direction.{place_of}
use Rattle.gi_pairs.specs.Limits.{most_processed_rows, most_rows}
use Rattle.gi_pairs.specs.Table.{built, covered, in_order, is_hour_range, keys_of, repeats}
use Rattle.gi_pairs.specs.declared.direction.Direction.{Direction}
use Rattle.gi_pairs.specs.declared.direction.Direction.TheVariants.{IM, MI}
use Rattle.gi_pairs.specs.declared.row.Row.{Row}
use Rattle.gi_pairs.proofs.Building.{contains_from_in, in_from_contains, in_order-sorted, in_order_is, repeats-permutation}
use Rattle.gi_pairs.proofs.Members.{from_filter}
use Rattle.gi_pairs.proofs.Refusals.{accepted, are_whole}
use Rattle.gi_pairs.proofs.TableLaws.{in_order-permutation}
use Rattle.gi_messages.specs.declared.nomination_line.NominationLine.{NominationLine}
use Rattle.gi_messages.specs.declared.message.Nomint.{Nomint}
use Rattle.gi_nominations.specs.Lines.{has_hours}
use Rattle.gi_processing.specs.Capacity.{Capacity}
use Rattle.gi_processing.specs.Processing.{CanProcess, available_to, columns, group_row, processed_in, processed_row, processed_rows, row_at, ruled_row, span_table}
use Rattle.gi_processing.specs.Recording.{portfolios_of}
use Rattle.gi_processing.specs.Reduction.{has_priority, in_direction, is_in, is_served_before, part, part_by, parts, referred, total}
use Rattle.gi_processing.specs.declared.rule.Rule.TheVariants.{One, Two}
use Rattle.gi_processing.specs.declared.span.Span.{Span}
use Rattle.gi_processing.proofs.ProcessingLaws.{direction_is, map_alike, processed_rows-few}
use Rattle.gi_processing.proofs.ProcessingLemmas.{kept_whole}
use Rattle.gi_processing.proofs.ProcessingRows.{rows-distinct, rows-whole}
use Rattle.gi_processing.proofs.PriorityLaws.{part_by-permutation, priority_is}

-- ---- one row

pub map_twice : {X Y Z : Type 0} (g : Y → Z) (f : X → Y) (xs : List X) → map g (map f xs) ≡ map (λ x. g (f x)) xs
map_twice g f [] = refl
map_twice g f (x ∷ xs) = ap (λ l. g (f x) ∷ l) (map_twice g f xs)

-- the row in the columns of the lines that it shares with is the line's row among them
pub row_is : (capacity : Capacity) (span : Span) (portfolio : List ℕ) (direction : Direction) (before lines : List NominationLine) (of_hours : List (List ℕ)) (place : ℕ) (line : NominationLine)
    → of_hours ≡ columns capacity span portfolio direction before lines → place < length lines → get_or lines place line ≡ line
    → row_at span portfolio line of_hours place ≡ group_row capacity span portfolio direction before lines line
unfolding group_row
row_is capacity span portfolio direction before lines of_hours place line columns_are below is =
    let hours = range_with_len span.first (covered span.first span.last) in
    let left = λ (hour : ℕ). available_to capacity portfolio span.day direction hour - total (hour - 1) before in
    let column = λ (hour : ℕ). parts (left hour) (hour - 1) lines in
    let hours_are : map (λ (c : List ℕ). slice_index c place) of_hours ≡ map (λ hour. part (left hour) (hour - 1) lines line) hours =
    ap (map (λ (c : List ℕ). slice_index c place)) columns_are
    ∙ map_twice (λ (c : List ℕ). slice_index c place) column hours
    ∙ map_alike (λ (hour : ℕ). slice_index (column hour) place) (λ hour. part (left hour) (hour - 1) lines line) hours
    (λ hour h. get_or-map (part (left hour) (hour - 1) lines) lines place line 0 below ∙ ap (part (left hour) (hour - 1) lines) is) in
    λ i. record { pair = (row_at span portfolio line of_hours place).pair; direction = line.direction; hours = hours_are i }

-- lines of a priority have the rows that rule 2 gives them
pub rows_by_two : (capacity : Capacity) (span : Span) (portfolio : List ℕ) (direction : Direction) (lines : List NominationLine) (priority : ℕ)
    → map (group_row capacity span portfolio direction (filter (is_served_before priority) lines) (filter (has_priority priority) lines)) (filter (has_priority priority) lines)
    ≡ map (ruled_row Two capacity span portfolio direction lines) (filter (has_priority priority) lines)
unfolding group_row ruled_row
rows_by_two capacity span portfolio direction lines priority =
    map_alike (group_row capacity span portfolio direction (filter (is_served_before priority) lines) (filter (has_priority priority) lines)) (ruled_row Two capacity span portfolio direction lines)
    (filter (has_priority priority) lines)
    (λ line h.
    let is = priority_is priority line (from_filter (has_priority priority) line lines h).1 in
    ap (λ p. group_row capacity span portfolio direction (filter (is_served_before p) lines) (filter (has_priority p) lines) line) (sym is))

-- and by rule 1 all lines of the direction share all
pub rows_by_one : (capacity : Capacity) (span : Span) (portfolio : List ℕ) (direction : Direction) (lines : List NominationLine)
    → map (group_row capacity span portfolio direction [] lines) lines ≡ map (ruled_row One capacity span portfolio direction lines) lines
unfolding group_row ruled_row
rows_by_one capacity span portfolio direction lines = refl

-- in whatever order they stand, they have the rows of the lines of the direction
pub rows_of_direction : (capacity : Capacity) (span : Span) (portfolio : List ℕ) (direction : Direction) (lines ordered : List NominationLine) → IsPermutation (in_direction direction lines) ordered
    → IsPermutation (map (processed_row capacity span portfolio lines) (in_direction direction lines)) (map (ruled_row span.rule capacity span portfolio direction ordered) ordered)
unfolding ruled_row processed_row processed_in
rows_of_direction capacity span portfolio direction lines ordered moved =
    let own = in_direction direction lines in
    let row = processed_row capacity span portfolio lines in
    let hours = range_with_len span.first (covered span.first span.last) in
    let rows : map row ordered ≡ map (ruled_row span.rule capacity span portfolio direction ordered) ordered =
    map_alike row (ruled_row span.rule capacity span portfolio direction ordered) ordered
    (λ line h.
    let there = from_filter (is_in direction) line lines (in_from_contains line own (Contains-permutation ordered own line (IsPermutation-sym own ordered moved) (contains_from_in line ordered h))) in
    let way = direction_is direction line there.1 in
    let hours_are : map (processed_in span.rule capacity portfolio span.day lines line) hours ≡ map (λ hour. part_by span.rule (available_to capacity portfolio span.day direction hour) (hour - 1) ordered line) hours =
    map_alike (processed_in span.rule capacity portfolio span.day lines line) (λ hour. part_by span.rule (available_to capacity portfolio span.day direction hour) (hour - 1) ordered line) hours
    (λ hour k.
    ap (λ (d : Direction). part_by span.rule (available_to capacity portfolio span.day d hour) (hour - 1) (in_direction d lines) line) way
    ∙ sym (part_by-permutation span.rule (available_to capacity portfolio span.day direction hour) (hour - 1) own ordered line moved)) in
    λ i. record { pair = (row line).pair; direction = line.direction; hours = hours_are i }) in
    subst (IsPermutation (map row own)) rows (IsPermutation-map row own ordered moved)

pub kept_few : {X : Type 0} (p : X → Bool) (xs : List X) → length (filter p xs) ≤ length xs
kept_few p [] = omega arith
kept_few p (x ∷ xs) = by_test (p x) (kept_few p xs)
  where
    by_test : (b : Bool) → length (filter p xs) ≤ length xs → length (cond b (x ∷ filter p xs) (filter p xs)) ≤ length (x ∷ xs)
    by_test true few = omega (arith, few)
    by_test false few = omega (arith, few)

-- no more lines are of one direction than there are
pub few_of : (direction : Direction) (lines : List NominationLine) (refs : List (Bor NominationLine)) → IsPermutation (in_direction direction lines) (referred refs) → length refs ≤ length lines
few_of direction lines refs moved =
    omega (arith, kept_few (is_in direction) lines, length_permutation (in_direction direction lines) (referred refs) moved, length-map refs (λ (line : Bor NominationLine). line.now))

-- and each has the hours that all have
pub whole_of : (direction : Direction) (hours : ℕ) (lines ordered : List NominationLine) → has_hours hours lines ≡ true → IsPermutation (in_direction direction lines) ordered
    → All (λ (line : NominationLine). length line.hours ≡ hours) ordered
whole_of direction hours lines ordered whole moved =
    All-permutation (λ (line : NominationLine). length line.hours ≡ hours) (in_direction direction lines) ordered moved (kept_whole (is_in direction) hours lines whole)

-- each column has a place for each line
pub columns-long : (capacity : Capacity) (span : Span) (portfolio : List ℕ) (direction : Direction) (before lines : List NominationLine) (place : ℕ) → place < length lines
    → All (λ (column : List ℕ). place < length column) (columns capacity span portfolio direction before lines)
columns-long capacity span portfolio direction before lines place below = long (range_with_len span.first (covered span.first span.last))
  where
    left : ℕ → ℕ
    left hour = available_to capacity portfolio span.day direction hour - total (hour - 1) before

    column : ℕ → List ℕ
    column hour = parts (left hour) (hour - 1) lines

    long : (hours : List ℕ) → All (λ (column : List ℕ). place < length column) (map column hours)
    long [] = All-nil (λ (column : List ℕ). place < length column)
    long (hour ∷ hours) =
        All-cons (λ (column : List ℕ). place < length column) (column hour) (map column hours)
        (omega (arith, below, length-map lines (part (left hour) (hour - 1) lines))) (long hours)

-- one more hour
pub column_step : {X : Type 0} (f : ℕ → X) (first hour : ℕ) (items more : List X) (x : X) → first ≤ hour → items ≡ map f (range_with_len first (hour - first)) → x ≡ f hour
    → more ≡ items ++ x ∷ [] → more ≡ map f (range_with_len first (hour + 1 - first))
column_step f first hour items more x low so_far is pushed =
    let here : items ++ x ∷ [] ≡ map f (range_with_len first (hour - first)) ++ f hour ∷ [] = λ i. so_far i ++ is i ∷ [] in
    let next = map-range_with_len_more f first (hour - first) hour (omega arith) in
    let count : hour - first + 1 ≡ hour + 1 - first = omega arith in
    pushed ∙ here ∙ sym next ∙ ap (λ n. map f (range_with_len first n)) count

-- ---- both directions

both_directions : (lines : List NominationLine) → IsPermutation lines (in_direction IM lines ++ in_direction MI lines)
both_directions [] = IsPermutation-refl []
both_directions (x ∷ xs) = by_way x.direction refl (both_directions xs)
  where
    by_way : (d : Direction) → x.direction ≡ d → IsPermutation xs (in_direction IM xs ++ in_direction MI xs) → IsPermutation (x ∷ xs) (in_direction IM (x ∷ xs) ++ in_direction MI (x ∷ xs))
    by_way IM e rest =
        let im : is_in IM x ≡ true = ap (λ (d : Direction). nat_eq (place_of d) (place_of IM)) e in
        let mi : is_in MI x ≡ false = ap (λ (d : Direction). nat_eq (place_of d) (place_of MI)) e in
        rw (im, mi) (IsPermutation-cons x xs (in_direction IM xs ++ in_direction MI xs) rest)
    by_way MI e rest =
        let im : is_in IM x ≡ false = ap (λ (d : Direction). nat_eq (place_of d) (place_of IM)) e in
        let mi : is_in MI x ≡ true = ap (λ (d : Direction). nat_eq (place_of d) (place_of MI)) e in
        rw (im, mi) (IsPermutation-trans (x ∷ xs) (x ∷ (in_direction IM xs ++ in_direction MI xs)) (in_direction IM xs ++ x ∷ in_direction MI xs)
        (IsPermutation-cons x xs (in_direction IM xs ++ in_direction MI xs) rest)
        (IsPermutation-sym (in_direction IM xs ++ x ∷ in_direction MI xs) (x ∷ (in_direction IM xs ++ in_direction MI xs)) (IsPermutation-middle (in_direction IM xs) x (in_direction MI xs))))

-- rows added to rows that stand in some order
pub added_after : {X : Type 0} (old first second mid new : List X) → IsPermutation (old ++ first) mid → IsPermutation (mid ++ second) new → IsPermutation (old ++ (first ++ second)) new
added_after old first second mid new a b =
    subst (λ xs. IsPermutation xs new) (append_assoc old first second)
    (IsPermutation-trans ((old ++ first) ++ second) (mid ++ second) new (IsPermutation-append_left second (old ++ first) mid a) b)

-- rows of some lines, and then those of others, are those of both
pub added_after_in : (row : NominationLine → Row) (old : List Row) (before own more : List NominationLine) (mid new : List Row) → IsPermutation (old ++ map row before) mid → new ≡ mid ++ map row own
    → IsPermutation (before ++ own) more → IsPermutation (old ++ map row more) new
added_after_in row old before own more mid new so_far added moved =
    let both : IsPermutation (map row more) (map row before ++ map row own) =
    subst (IsPermutation (map row more)) (map-append row before own) (IsPermutation-map row more (before ++ own) (IsPermutation-sym (before ++ own) more moved)) in
    IsPermutation-trans (old ++ map row more) (old ++ (map row before ++ map row own)) new
    (IsPermutation-append_right old (map row more) (map row before ++ map row own) both)
    (added_after old (map row before) (map row own) mid new so_far (subst (IsPermutation (mid ++ map row own)) (sym added) (IsPermutation-refl (mid ++ map row own))))

-- the rows of one direction, and then those of the other, are those of all lines
pub rows_of_both : (row : NominationLine → Row) (lines : List NominationLine) (old mid new : List Row) → IsPermutation (old ++ map row (in_direction IM lines)) mid
    → IsPermutation (mid ++ map row (in_direction MI lines)) new → IsPermutation (old ++ map row lines) new
rows_of_both row lines old mid new a b =
    let im = in_direction IM lines in
    let mi = in_direction MI lines in
    let apart : IsPermutation (map row lines) (map row im ++ map row mi) =
    subst (IsPermutation (map row lines)) (map-append row im mi) (IsPermutation-map row lines (im ++ mi) (both_directions lines)) in
    IsPermutation-trans (old ++ map row lines) (old ++ (map row im ++ map row mi)) new
    (IsPermutation-append_right old (map row lines) (map row im ++ map row mi) apart) (added_after old (map row im) (map row mi) mid new a b)

-- ---- the table

-- rows in another order make the same table
built-moved : (first last : ℕ) (rows moved : List Row) → is_hour_range first last ≡ true → length rows ≤ most_processed_rows → are_whole first last rows ≡ true
    → repeats (keys_of rows) ≡ false → IsPermutation rows moved → built first last moved ≡ Ok (record { first = first; last = last; rows = in_order rows })
built-moved first last rows moved hours few whole distinct moves =
    let few_moved : nat_lt most_rows (length moved) ≡ false = grind (arith, nat_tests, few, length_permutation rows moved moves) in
    let whole_moved : are_whole first last moved ≡ true =
    list_all-from_AllPass (λ (row : Row). length row.hours == covered first last) moved
    (All-permutation (λ (row : Row). (length row.hours == covered first last) ≡ true) rows moved moves (AllPass-from_list_all (λ (row : Row). length row.hours == covered first last) rows whole)) in
    let distinct_moved : repeats (keys_of moved) ≡ false = repeats-permutation rows moved moves ∙ distinct in
    let to_order = IsPermutation-trans moved rows (in_order rows) (IsPermutation-sym rows moved moves) (in_order-permutation rows) in
    let order : in_order rows ≡ in_order moved = in_order_is moved (in_order rows) to_order (in_order-sorted rows distinct) in
    sym (accepted first last moved hours few_moved whole_moved distinct_moved) ∙ (λ i. Ok (record { first = first; last = last; rows = sym order i }))

pub moved-built : (capacity : Capacity) (documents : List Nomint) (span : Span) (rows : List Row) → CanProcess capacity documents span
    → IsPermutation (processed_rows capacity span documents) rows → built span.first span.last rows ≡ Ok (span_table capacity span documents)
moved-built capacity documents span rows kept moved =
    let s = kept.hours in
    let range : is_hour_range span.first span.last ≡ true = grind (arith, nat_tests, s.from, s.ordered, s.ends) in
    built-moved span.first span.last (processed_rows capacity span documents) rows range (processed_rows-few capacity documents span kept)
    (rows-whole capacity span documents (portfolios_of capacity.contracts)) (rows-distinct capacity span documents (portfolios_of capacity.contracts) kept.sound kept.distinct) moved

pub moved-few : (capacity : Capacity) (documents : List Nomint) (span : Span) (rows : List Row) → CanProcess capacity documents span
    → IsPermutation (processed_rows capacity span documents) rows → length rows ≤ most_processed_rows
moved-few capacity documents span rows kept moved =
    omega (arith, processed_rows-few capacity documents span kept, length_permutation (processed_rows capacity span documents) rows moved)
