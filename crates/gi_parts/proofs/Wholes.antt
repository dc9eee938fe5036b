-- Tables that are split and gathered again: the parts go together, and all of them make the tables.
use Rattle.std.proofs.Common.{arith, ◌≡◌, ◌<◌, ◌≤◌, ◌+◌, ◌*◌, ◌-◌, ◌==◌, ◌∙◌, ℕ, List, [], ◌∷◌, ◌++◌, length, append-nil, All, Bool, true, false, not, cond, ◌||◌, nat_eq, nat_lt, Option, Some, None, refl, sym, ap, subst}
use Rattle.std.specs.Prelude.{IfSome, option_map}
use Rattle.std.specs.Int.{IsInRange}
use Rattle.std.specs.List.{IsDistinct, flat_map, range_with_len}
use Rattle.std.specs.List.Sorted.{IsPermutation}
use Rattle.std.specs.Cmp.Lexicographic.{pointwise}
use Rattle.std.proofs.lemmas.Bool.{and_from, and_parts, eq-eqb, eqb-true, le-ltb, ltb-false, or_from, or_parts}
use Rattle.std.proofs.lemmas.Cmp.{nat_eq_equiv}
use Rattle.std.proofs.lemmas.List.{length-append, length-map}
use Rattle.std.proofs.lemmas.List.Concat.{flat_map-append}
use Rattle.std.proofs.lemmas.List.Elements.{All-head, All-map, All-push, All-tail, All-weaker}
use Rattle.std.proofs.lemmas.List.Sorted.{length_permutation}
use Rattle.std.proofs.lemmas.Map.Keys.{IsDistinct-from_sorted, IsDistinct-push}
use Rattle.gi_pairs.specs.Key.{key_cmp}
use Rattle.gi_pairs.specs.Limits.{most_processed_rows, most_rows}
use Rattle.gi_pairs.specs.Row.{row_eq}
use Rattle.gi_pairs.specs.Table.{HasShapeOf, IsTable, TableContents, in_order, keys_of, repeats, same_hours}
use Rattle.gi_pairs.specs.declared.row.Row.{Row}
use Rattle.gi_pairs.proofs.Building.{in_order_is, repeats-permutation, repeats_from_distinct}
use Rattle.gi_pairs.proofs.Slices.{length-slice}
use Rattle.gi_messages.specs.Limits.{most_confirmed_elements, most_part_elements, most_parts, most_processed_elements}
use Rattle.gi_facts.proofs.SameLemmas.{tables}
use Rattle.gi_parts.specs.Gathering.{all_rows, are_too_many, gathered_with, go_together, goes_with, is_awaiting, is_whole, joined_with, overlap, same_rows, whole_of}
use Rattle.gi_parts.specs.Laws.{SendsReadableParts}
use Rattle.gi_parts.specs.Parts.{AreSome, IsSent, is_there, rows_in, rows_of}
use Rattle.gi_parts.specs.Splitting.{IsPartOf, IsSendable, part_of_table, part_of_whole, parts_of_whole}
use Rattle.gi_parts.specs.declared.gathered.Gathered.{Gathered}
use Rattle.gi_parts.specs.declared.gathered.Gathered.TheVariants.{Complete, Keep, Refused}
use Rattle.gi_parts.specs.declared.gathered.PartFault.TheVariants.{PartDiffers, PartsOverlap, TooManyRows}
use Rattle.gi_parts.specs.declared.part.Array.{Array}
use Rattle.gi_parts.specs.declared.part.Array.TheVariants.{Processed, Confirmed}
use Rattle.gi_parts.specs.declared.part.Part.{Part}
use Rattle.gi_parts.specs.declared.part.Whole.{Whole}
use Rattle.gi_parts.proofs.Keeping.{numbers, there-is}
use Rattle.gi_parts.proofs.Numbers.{IsWithin, few_numbers, range_in_any_order}
use Rattle.gi_parts.proofs.Splits.{carries-all_rows, carries-confirmed, few-parts, room-parts}

-- ---- the parts of the same tables go together

rows-self : (rows : List Row) → pointwise row_eq rows rows ≡ true
rows-self rows = let table : TableContents = record { first = 0; last = 0; rows = rows } in (and_parts (same_hours table table) (pointwise row_eq rows rows) ((tables table table).1 refl)).1

same-self : (part : Part) → same_rows part part ≡ true
same-self part = and_from _ _ (rows-self (rows_in Processed part)) (rows-self (rows_in Confirmed part))

same_by : (whole : Whole) (n m : ℕ) (b : Bool) → (n == m) ≡ b → (not b || same_rows (part_of_whole whole n) (part_of_whole whole m)) ≡ true
same_by whole n m false is = refl
same_by whole n m true is = subst (λ (k : ℕ). same_rows (part_of_whole whole n) (part_of_whole whole k) ≡ true) (eqb-true n m is) (same-self (part_of_whole whole n))

goes_numbers : (whole : Whole) (n m : ℕ) → goes_with (part_of_whole whole n) (part_of_whole whole m) ≡ true
goes_numbers whole n m =
    and_from _ _ (and_from _ _ (eq-eqb whole.processed.first whole.processed.first refl) (eq-eqb whole.processed.last whole.processed.last refl))
    (and_from _ _ (eq-eqb (parts_of_whole whole) (parts_of_whole whole) refl) (same_by whole n m (n == m) refl))

goes : (whole : Whole) (part one : Part) → IsPartOf whole part → IsPartOf whole one → goes_with part one ≡ true
goes whole part one is other =
    (λ i. goes_with (is.is i) (other.is i)) ∙ goes_numbers whole part.number one.number

pub go-together : (whole : Whole) (part : Part) (others : List Part) → IsPartOf whole part → All (IsPartOf whole) others → go_together part others ≡ true
go-together whole part [] is all = refl
go-together whole part (one ∷ others) is all =
    and_from (goes_with part one) (go_together part others) (goes whole part one is (All-head (IsPartOf whole) one others all)) (go-together whole part others is (All-tail (IsPartOf whole) one others all))

-- ---- what they carry

abbrev rows_at : Array → Whole → ℕ → List Row
rows_at array whole number = rows_in array (part_of_whole whole number)

abbrev rows_whole : Array → Whole → List Row
rows_whole Processed whole = whole.processed.rows
rows_whole Confirmed whole = rows_of whole.confirmed

rows_of_parts : (array : Array) (whole : Whole) (others : List Part) → All (IsPartOf whole) others → flat_map (rows_in array) others ≡ flat_map (rows_at array whole) (numbers others)
rows_of_parts array whole [] all = refl
rows_of_parts array whole (one ∷ others) all =
    let here : rows_in array one ≡ rows_at array whole one.number = ap (rows_in array) (All-head (IsPartOf whole) one others all).is in
    let later = rows_of_parts array whole others (All-tail (IsPartOf whole) one others all) in
    λ i. here i ++ later i

rows-all : (array : Array) (whole : Whole) (part : Part) (others : List Part) → IsPartOf whole part → All (IsPartOf whole) others
    → all_rows array part others ≡ flat_map (rows_at array whole) (numbers others ++ part.number ∷ [])
rows-all array whole part others is all =
    let earlier = rows_of_parts array whole others all in
    let last : rows_in array part ≡ rows_at array whole part.number ++ [] = ap (rows_in array) is.is ∙ sym (append-nil (rows_at array whole part.number)) in
    (λ i. earlier i ++ last i) ∙ sym (flat_map-append (rows_at array whole) (numbers others) (part.number ∷ []))

-- there is room for all rows of both tables
room_by : (processed : TableContents) (confirmed : Option TableContents) → let whole : Whole = record { processed = processed; confirmed = confirmed } in
    IsSendable whole → length processed.rows ≤ most_part_elements * parts_of_whole whole
room_by processed None sendable = room-parts (length processed.rows)
room_by processed (Some table) sendable = let room = room-parts (length table.rows) in let fewer = sendable.no_fewer in omega (arith, room, fewer)

confirmed_by : (processed : TableContents) (confirmed : Option TableContents) → let whole : Whole = record { processed = processed; confirmed = confirmed } in
    IfSome confirmed (λ table. length table.rows ≤ most_part_elements * parts_of_whole whole)
confirmed_by processed None = tt
confirmed_by processed (Some table) = room-parts (length table.rows)

carried : (array : Array) (whole : Whole) → IsSendable whole → flat_map (rows_at array whole) (range_with_len 1 (parts_of_whole whole)) ≡ rows_whole array whole
carried Processed whole sendable = carries-all_rows whole.processed (parts_of_whole whole) (room_by whole.processed whole.confirmed sendable)
carried Confirmed whole sendable = carries-confirmed whole.confirmed (parts_of_whole whole) (confirmed_by whole.processed whole.confirmed)

-- ---- all parts

-- with this part none is missing
pub record AreAll (whole : Whole) (part : Part) (others : List Part) : Type 0 where
  pub here : IsPartOf whole part
  pub there : All (IsPartOf whole) others
  pub distinct : IsDistinct nat_eq (numbers others ++ part.number ∷ [])
  pub within : All (IsWithin 1 (parts_of_whole whole)) (numbers others ++ part.number ∷ [])
  pub counted : length (numbers others ++ part.number ∷ []) ≡ parts_of_whole whole

moved : (array : Array) (whole : Whole) (part : Part) (others : List Part) → IsSendable whole → AreAll whole part others → IsPermutation (all_rows array part others) (rows_whole array whole)
moved array whole part others sendable all =
    let parts = parts_of_whole whole in
    let ns = numbers others ++ part.number ∷ [] in
    subst (λ (rows : List Row). IsPermutation rows (rows_whole array whole)) (sym (rows-all array whole part others all.here all.there))
    (subst (λ (rows : List Row). IsPermutation (flat_map (rows_at array whole) ns) rows) (carried array whole sendable)
    (range_in_any_order (rows_at array whole) parts 1 ns all.distinct all.within all.counted))

-- a table's rows in any order
record MakeTable (rows : List Row) (table : TableContents) : Type 0 where
  distinct : repeats (keys_of rows) ≡ false
  order : in_order rows ≡ table.rows
  few : length rows ≡ length table.rows

make_table : (rows : List Row) (table : TableContents) → IsTable table → IsPermutation rows table.rows → MakeTable rows table
make_table rows table is moved = record {
  distinct = sym (repeats-permutation rows table.rows moved) ∙ repeats_from_distinct (keys_of table.rows) (IsDistinct-from_sorted key_cmp (keys_of table.rows) is.sorted);
  order = sym (in_order_is rows table.rows moved is.sorted);
  few = sym (length_permutation rows table.rows moved);
}

-- and the rows of what is confirmed, where something is
record MakeConfirmed (rows : List Row) (processed : TableContents) (confirmed : Option TableContents) (number : ℕ) : Type 0 where
  distinct : repeats (keys_of rows) ≡ false
  few : length rows ≤ most_rows
  table : option_map (λ one. record { first = processed.first; last = processed.last; rows = in_order rows }) (option_map (part_of_table number) confirmed) ≡ confirmed

none_are : (rows : List Row) → IsPermutation rows [] → rows ≡ []
none_are [] moved = refl
none_are (row ∷ rows) moved = absurd (let counted = length_permutation (row ∷ rows) [] moved in omega (arith, counted))

make_confirmed : (rows : List Row) (processed : TableContents) (confirmed : Option TableContents) (number : ℕ) → IfSome confirmed IsTable → IfSome confirmed (HasShapeOf processed)
    → IsPermutation rows (rows_of confirmed) → MakeConfirmed rows processed confirmed number
make_confirmed rows processed None number is shape moved =
    let none = none_are rows moved in
    record { distinct = ap (λ (rows : List Row). repeats (keys_of rows)) none; few = let counted = ap length none in omega (arith, counted); table = refl }
make_confirmed rows processed (Some table) number is shape moved =
    let made = make_table rows table is moved in
    let few = is.few in
    record {
      distinct = made.distinct;
      few = let counted = made.few in omega (arith, few, counted);
      table = λ i. Some (record { first = shape.first i; last = shape.last i; rows = made.order i });
    }

joined_when : (part : Part) (processed confirmed : List Row) → overlap processed confirmed ≡ false → are_too_many processed confirmed ≡ false
    → joined_with part processed confirmed ≡ Complete (whole_of part processed confirmed)
joined_when part processed confirmed apart few =
    ap (λ (b : Bool). cond b (Refused PartsOverlap) (cond (are_too_many processed confirmed) (Refused TooManyRows) (Complete (whole_of part processed confirmed)))) apart
    ∙ ap (λ (b : Bool). cond b (Refused TooManyRows) (Complete (whole_of part processed confirmed))) few

whole-again : (whole : Whole) (number : ℕ) (processed confirmed : List Row) → IsSendable whole → IsPermutation processed whole.processed.rows → IsPermutation confirmed (rows_of whole.confirmed)
    → joined_with (part_of_whole whole number) processed confirmed ≡ Complete whole
whole-again whole number processed confirmed sendable moved also =
    let first = make_table processed whole.processed sendable.processed moved in
    let second = make_confirmed confirmed whole.processed whole.confirmed number sendable.confirmed sendable.same_hours also in
    let few = sendable.few in
    let counted = first.few in
    let fewer = second.few in
    joined_when (part_of_whole whole number) processed confirmed (or_from (repeats (keys_of processed)) (repeats (keys_of confirmed)) first.distinct second.distinct)
    (or_from (nat_lt most_processed_rows (length processed)) (nat_lt most_rows (length confirmed)) (le-ltb most_processed_rows (length processed) (omega (arith, few, counted)))
    (le-ltb most_rows (length confirmed) fewer))
    ∙ (λ i. Complete (record { processed = record { first = whole.processed.first; last = whole.processed.last; rows = first.order i }; confirmed = second.table i }))

pub joined-again : (whole : Whole) (part : Part) (others : List Part) → IsSendable whole → AreAll whole part others
    → joined_with part (all_rows Processed part others) (all_rows Confirmed part others) ≡ Complete whole
joined-again whole part others sendable all =
    let processed = all_rows Processed part others in
    let confirmed = all_rows Confirmed part others in
    ap (λ (one : Part). joined_with one processed confirmed) all.here.is
    ∙ whole-again whole part.number processed confirmed sendable (moved Processed whole part others sendable all) (moved Confirmed whole part others sendable all)

-- ---- none is missing where none is awaited

pub within_range : (whole : Whole) (one : Part) → IsPartOf whole one → IsWithin 1 (parts_of_whole whole) one.number
within_range whole one is = let range = is.number in record { least = range.0; most = omega (arith, range.1) }

as_whole : (whole : Whole) (one : Part) → IsPartOf whole one → one.parts ≡ parts_of_whole whole
as_whole whole one is = ap (λ (one : Part). one.parts) is.is

pub all-there : (whole : Whole) (part : Part) (others : List Part) → AreSome others → All (IsPartOf whole) others → IsPartOf whole part → is_awaiting part others ≡ false → AreAll whole part others
all-there whole part others some all here awaiting =
    let tests = or_parts (is_there part others) (nat_lt (length others + 1) part.parts) awaiting in
    let ns = numbers others ++ part.number ∷ [] in
    let distinct = IsDistinct-push nat_eq_equiv (numbers others) part.number some.distinct (sym (there-is part others) ∙ tests.0) in
    let within = All-push (IsWithin 1 (parts_of_whole whole)) (numbers others) part.number
    (All-map (IsWithin 1 (parts_of_whole whole)) (λ (one : Part). one.number) others
    (All-weaker (IsPartOf whole) (λ one. IsWithin 1 (parts_of_whole whole) one.number) (λ one is. within_range whole one is) others all))
    (within_range whole part here) in
    let few = few_numbers (parts_of_whole whole) 1 ns distinct within in
    let enough = ltb-false (length others + 1) part.parts tests.1 in
    let same = as_whole whole part here in
    let longer = length-append (numbers others) (part.number ∷ []) in
    let counted = length-map others (λ (one : Part). one.number) in
    record { here = here; there = all; distinct = distinct; within = within; counted = omega (arith, few, enough, same, longer, counted) }

-- ---- a whole message

none_besides : (whole : Whole) (others : List Part) → AreSome others → All (IsPartOf whole) others → parts_of_whole whole ≡ 1 → others ≡ []
none_besides whole [] some all one = refl
none_besides whole (other ∷ others) some all one =
    absurd (let missing = All-head (λ one. length (other ∷ others) < one.parts) other others some.missing in
    let same = as_whole whole other (All-head (IsPartOf whole) other others all) in
    omega (arith, missing, same, one))

unsplit : (whole : Whole) (part : Part) → IsSendable whole → IsPartOf whole part → parts_of_whole whole ≡ 1 → record { processed = part.processed; confirmed = part.confirmed } ≡ whole
unsplit whole part sendable here one =
    let range = here.number in
    let first : part.number ≡ 1 = omega (arith, range.0, range.1, one) in
    let rows : part.processed.rows ≡ whole.processed.rows =
    ap (λ (part : Part). part.processed.rows) here.is ∙ ap (λ (n : ℕ). (part_of_table n whole.processed).rows) first
    ∙ sym (append-nil (part_of_table 1 whole.processed).rows) ∙ carries-all_rows whole.processed 1 (let room = room_by whole.processed whole.confirmed sendable in omega (arith, room, one)) in
    let confirmed : part.confirmed ≡ whole.confirmed =
    ap (λ (part : Part). part.confirmed) here.is ∙ ap (λ (n : ℕ). option_map (part_of_table n) whole.confirmed) first
    ∙ confirmed_again whole.processed whole.confirmed one in
    λ i. record {
      processed = record { first = first_is i; last = last_is i; rows = rows i };
      confirmed = confirmed i;
    }
  where
    first_is : part.processed.first ≡ whole.processed.first
    first_is = ap (λ (part : Part). part.processed.first) here.is

    last_is : part.processed.last ≡ whole.processed.last
    last_is = ap (λ (part : Part). part.processed.last) here.is

    confirmed_again : (processed : TableContents) (confirmed : Option TableContents) → parts_of_whole (record { processed = processed; confirmed = confirmed }) ≡ 1
        → option_map (part_of_table 1) confirmed ≡ confirmed
    confirmed_again processed None one = refl
    confirmed_again processed (Some table) one =
        let rows : (part_of_table 1 table).rows ≡ table.rows =
        sym (append-nil (part_of_table 1 table).rows) ∙ carries-all_rows table 1 (let room = room-parts (length table.rows) in omega (arith, room, one)) in
        λ i. Some (record { first = table.first; last = table.last; rows = rows i })

-- ---- what a part comes to

when_whole : (whole part_parts : ℕ) → whole ≡ 1 → part_parts ≡ whole → nat_lt 1 part_parts ≡ false
when_whole whole part_parts one same = ap (nat_lt 1) (same ∙ one)

by_kind : (whole : Whole) (part : Part) (others : List Part) (b : Bool) → is_whole part ≡ b → IsSendable whole → AreSome others → All (IsPartOf whole) others → IsPartOf whole part
    → cond b (Complete (record { processed = part.processed; confirmed = part.confirmed }))
    (cond (not (go_together part others)) (Refused (PartDiffers part.number))
    (cond (is_awaiting part others) (Keep part) (joined_with part (all_rows Processed part others) (all_rows Confirmed part others))))
    ≡ cond (is_awaiting part others) (Keep part) (Complete whole)
by_kind whole part others true is sendable some all here =
    let same = as_whole whole part here in
    let one : parts_of_whole whole ≡ 1 = sym same ∙ eqb-true part.parts 1 is in
    let none = none_besides whole others some all one in
    let awaiting : is_awaiting part others ≡ false = ap (is_awaiting part) none ∙ when_whole (parts_of_whole whole) part.parts one same in
    ap Complete (unsplit whole part sendable here one) ∙ sym (ap (λ (b : Bool). cond b (Keep part) (Complete whole)) awaiting)
by_kind whole part others false is sendable some all here =
    ap (λ (b : Bool). cond (not b) (Refused (PartDiffers part.number)) (cond (is_awaiting part others) (Keep part) (joined_with part (all_rows Processed part others) (all_rows Confirmed part others))))
    (go-together whole part others here all)
    ∙ by_awaiting (is_awaiting part others) (joined_with part (all_rows Processed part others) (all_rows Confirmed part others))
    (λ awaiting. joined-again whole part others sendable (all-there whole part others some all here awaiting))
  where
    by_awaiting : (b : Bool) (joined : Gathered) → (b ≡ false → joined ≡ Complete whole) → cond b (Keep part) joined ≡ cond b (Keep part) (Complete whole)
    by_awaiting true joined last = refl
    by_awaiting false joined last = last refl

pub gathers-split : (whole : Whole) (part : Part) (others : List Part) → IsSendable whole → AreSome others → All (IsPartOf whole) others → IsPartOf whole part
    → gathered_with part others ≡ cond (is_awaiting part others) (Keep part) (Complete whole)
gathers-split whole part others sendable some all here = by_kind whole part others (is_whole part) refl sendable some all here

-- ---- each part can be read

few_by : (processed : TableContents) (confirmed : Option TableContents) → let whole : Whole = record { processed = processed; confirmed = confirmed } in IsSendable whole → parts_of_whole whole ≤ most_parts
few_by processed None sendable = let few = sendable.few in few-parts (length processed.rows) (omega (arith, few))
few_by processed (Some table) sendable = let few = sendable.confirmed.few in few-parts (length table.rows) (omega (arith, few))

elements_by : (most parts : ℕ) (b : Bool) → most_part_elements ≤ most → most_part_elements ≤ cond b most most_part_elements
elements_by most parts true enough = enough
elements_by most parts false enough = omega arith

short : (number : ℕ) (table : TableContents) → length (part_of_table number table).rows ≤ most_part_elements
short number table = let counted = length-slice (most_part_elements * (number - 1)) most_part_elements table in omega (arith, counted)

short_confirmed : (number : ℕ) (confirmed : Option TableContents) → length (rows_of (option_map (part_of_table number) confirmed)) ≤ most_part_elements
short_confirmed number None = omega arith
short_confirmed number (Some table) = short number table

same_shape : (processed : TableContents) (confirmed : Option TableContents) (number : ℕ) → IfSome confirmed (HasShapeOf processed)
    → IfSome (option_map (part_of_table number) confirmed) (HasShapeOf (part_of_table number processed))
same_shape processed None number shape = tt
same_shape processed (Some table) number shape = record { first = shape.first; last = shape.last }

sent_number : (whole : Whole) (number : ℕ) → IsSendable whole → IsInRange 1 (parts_of_whole whole) number → IsSent (part_of_whole whole number)
sent_number whole number sendable range =
    let parts = parts_of_whole whole in
    let few = elements_by most_processed_elements parts (parts == 1) (omega arith) in
    let few_confirmed = elements_by most_confirmed_elements parts (parts == 1) (omega arith) in
    let length = short number whole.processed in
    let length_confirmed = short_confirmed number whole.confirmed in
    record {
      from = range.0;
      to = range.1;
      few_parts = few_by whole.processed whole.confirmed sendable;
      few = omega (arith, few, length);
      few_confirmed = omega (arith, few_confirmed, length_confirmed);
      same_hours = same_shape whole.processed whole.confirmed number sendable.same_hours;
    }

pub sends-readable : SendsReadableParts
sends-readable whole part sendable is = subst IsSent (sym is.is) (sent_number whole part.number sendable is.number)
