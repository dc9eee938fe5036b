-- What a part comes to with those that are kept, by the tests that it takes, and the rows of all parts.
use Rattle.std.proofs.Common.{arith, ◌≡◌, ◌≤◌, ◌<◌, ◌+◌, ◌∙◌, ℕ, List, [], ◌∷◌, ◌++◌, length, map, filter, count_by, take, get_or, append-nil, All, Bool, true, false, cond, not, ◌&&◌, ◌||◌, nat_eq, nat_lt, Option, Some, None, Result, Ok, Err, refl, sym, ap, subst}
use Rattle.std.specs.Prelude.{IfOk, IfSome, IsTrue, option_map}
use Rattle.std.specs.List.{flat_map, list_all, list_any}
use Rattle.std.proofs.lemmas.Bool.{and_parts, eqb-true}
use Rattle.std.proofs.lemmas.List.{length-map, take_more}
use Rattle.std.proofs.lemmas.List.Concat.{flat_map-append}
use Rattle.std.proofs.lemmas.List.Elements.{All-append, All-cons, All-get_or, All-head, All-nil, All-tail}
use Rattle.std.proofs.lemmas.List.Sums.{length-filter}
use Rattle.gi_pairs.specs.Limits.{most_processed_rows, most_rows}
use Rattle.gi_pairs.specs.Row.{IsRow}
use Rattle.gi_pairs.specs.Table.{HasShapeOf, IsTable, TableContents, covered, join_refusal, joined, keys_of, ok_unless, repeats, same_hours}
use Rattle.gi_pairs.specs.declared.cycle_id.CycleId.{CycleId}
use Rattle.gi_pairs.specs.declared.join_fault.JoinFault.TheVariants.{Overlap, TooMany}
use Rattle.gi_pairs.specs.declared.row.Row.{Row}
use Rattle.gi_parts.specs.Gathering.{all_rows, gathered_with, go_together, goes_with, is_awaiting, is_whole, joined_with, table_of}
use Rattle.gi_parts.specs.Hours.{AreRowsFor, IsPartFor}
use Rattle.gi_parts.specs.Joining.{both}
use Rattle.gi_parts.specs.Parts.{IsSent, count_of, is_of, parts_of, rows_in}
use Rattle.gi_parts.specs.Walks.{rows_if}
use Rattle.gi_parts.specs.declared.gathered.Gathered.{Gathered}
use Rattle.gi_parts.specs.declared.gathered.Gathered.TheVariants.{Complete, Keep, Refused}
use Rattle.gi_parts.specs.declared.gathered.PartFault.TheVariants.{PartDiffers, PartsOverlap, TooManyRows}
use Rattle.gi_parts.specs.declared.kept_parts.KeptPart.{KeptPart}
use Rattle.gi_parts.specs.declared.part.Array.{Array}
use Rattle.gi_parts.specs.declared.part.Array.TheVariants.{Processed, Confirmed}
use Rattle.gi_parts.specs.declared.part.Part.{Part}
use Rattle.gi_parts.proofs.Keeping.{all_from}

-- ---- tests of the parts of a cycle

all_step : (test : Part → Bool) (one : KeptPart) (rest : List KeptPart) (later b : Bool) → later ≡ list_all test (map (λ one. one.part) rest)
    → ((not b || test one.part) && later) ≡ list_all test (map (λ one. one.part) (cond b (one ∷ rest) rest))
all_step test one rest later true is = ap (λ (more : Bool). test one.part && more) is
all_step test one rest later false is = is

pub all_of_cycle : (test : Part → Bool) (id : CycleId) (kept : List KeptPart) → list_all (λ one. not (is_of id one) || test one.part) kept ≡ list_all test (parts_of id kept)
all_of_cycle test id [] = refl
all_of_cycle test id (one ∷ kept) =
    all_step test one (filter (is_of id) kept) (list_all (λ one. not (is_of id one) || test one.part) kept) (is_of id one) (all_of_cycle test id kept)

any_step : (test : Part → Bool) (one : KeptPart) (rest : List KeptPart) (later b : Bool) → later ≡ list_any test (map (λ one. one.part) rest)
    → ((b && test one.part) || later) ≡ list_any test (map (λ one. one.part) (cond b (one ∷ rest) rest))
any_step test one rest later true is = ap (λ (more : Bool). test one.part || more) is
any_step test one rest later false is = is

pub any_of_cycle : (test : Part → Bool) (id : CycleId) (kept : List KeptPart) → list_any (λ one. is_of id one && test one.part) kept ≡ list_any test (parts_of id kept)
any_of_cycle test id [] = refl
any_of_cycle test id (one ∷ kept) =
    any_step test one (filter (is_of id) kept) (list_any (λ one. is_of id one && test one.part) kept) (is_of id one) (any_of_cycle test id kept)

pub counted : (id : CycleId) (kept : List KeptPart) → count_by (is_of id) kept ≡ count_of id kept
counted id kept = sym (length-map (filter (is_of id) kept) (λ (one : KeptPart). one.part) ∙ length-filter (is_of id) kept)

fewer_by : (m : ℕ) (one : KeptPart) (rest : List KeptPart) (b : Bool) → length (map (λ (one : KeptPart). one.part) rest) ≤ m → length (map (λ (one : KeptPart). one.part) (cond b (one ∷ rest) rest)) ≤ m + 1
fewer_by m one rest true few = omega (arith, few)
fewer_by m one rest false few = omega (arith, few)

pub few_of_all : (id : CycleId) (kept : List KeptPart) → count_of id kept ≤ length kept
few_of_all id [] = omega arith
few_of_all id (one ∷ kept) = let few = fewer_by (length kept) one (filter (is_of id) kept) (is_of id one) (few_of_all id kept) in omega (arith, few)

-- ---- rows for the hours of a table

pub rows_fit : (own table : TableContents) → HasShapeOf own table → IsTable table → AreRowsFor own table.rows
rows_fit own table shape is = record {
  known = is.all;
  whole = subst (λ (n : ℕ). All (λ row. length row.hours ≡ n) table.rows) (λ t. covered (sym shape.first t) (sym shape.last t)) is.whole;
}

pub none_fit : (own : TableContents) → AreRowsFor own []
none_fit own = record { known = All-nil IsRow; whole = All-nil (λ row. length row.hours ≡ covered own.first own.last) }

pub more_fit : (own : TableContents) (rows more all : List Row) → all ≡ rows ++ more → AreRowsFor own rows → AreRowsFor own more → AreRowsFor own all
more_fit own rows more all is fit later =
    subst (λ (all : List Row). AreRowsFor own all) (sym is)
    (record { known = All-append IsRow rows more fit.known later.known; whole = All-append (λ row. length row.hours ≡ covered own.first own.last) rows more fit.whole later.whole })

-- the rows of a part, where it is of the cycle
pub if_of : (array : Array) (id : CycleId) (one : KeptPart) → is_of id one ≡ true → rows_if array id one ≡ rows_in array one.part
if_of array id one is = ap (λ (b : Bool). cond b (rows_in array one.part) []) is

pub if_other : (array : Array) (id : CycleId) (one : KeptPart) → is_of id one ≡ false → rows_if array id one ≡ []
if_other array id one is = ap (λ (b : Bool). cond b (rows_in array one.part) []) is

-- those of all parts of the cycle
all_by : (array : Array) (one : KeptPart) (rest : List KeptPart) (later : List Row) (b : Bool) → later ≡ flat_map (rows_in array) (map (λ one. one.part) rest)
    → cond b (rows_in array one.part) [] ++ later ≡ flat_map (rows_in array) (map (λ one. one.part) (cond b (one ∷ rest) rest))
all_by array one rest later true is = ap (λ (rows : List Row). rows_in array one.part ++ rows) is
all_by array one rest later false is = is

pub rows_of_cycle : (array : Array) (id : CycleId) (kept : List KeptPart) → flat_map (rows_if array id) kept ≡ flat_map (rows_in array) (parts_of id kept)
rows_of_cycle array id [] = refl
rows_of_cycle array id (one ∷ kept) = all_by array one (filter (is_of id) kept) (flat_map (rows_if array id) kept) (is_of id one) (rows_of_cycle array id kept)

-- and of the parts so far, with one more
pub flat_more : (f : KeptPart → List Row) (kept : List KeptPart) (i : ℕ) (one : KeptPart) → i < length kept → one ≡ get_or kept i one → flat_map f (take (i + 1) kept) ≡ flat_map f (take i kept) ++ f one
flat_more f kept i one below is =
    ap (flat_map f) (take_more kept i one below) ∙ flat_map-append f (take i kept) (get_or kept i one ∷ [])
    ∙ ap (λ (rows : List Row). flat_map f (take i kept) ++ rows) (append-nil (f (get_or kept i one)) ∙ ap f (sym is))

-- what holds of the parts of a cycle holds of each part that is kept of it
abbrev pub IfOf : (Part → Type 0) → CycleId → KeptPart → Type 0
IfOf P id one = IsTrue (is_of id one) → P one.part

each_by : (P : Part → Type 0) (one : KeptPart) (rest : List KeptPart) (b : Bool) → All P (map (λ one. one.part) (cond b (one ∷ rest) rest)) → (IsTrue b → P one.part) × All P (map (λ one. one.part) rest)
each_by P one rest true all = ((λ is. All-head P one.part (map (λ one. one.part) rest) all), All-tail P one.part (map (λ one. one.part) rest) all)
each_by P one rest false all = ((λ is. let none : false ≡ true = is in absurd cc), all)

pub each_of_cycle : (P : Part → Type 0) (id : CycleId) (kept : List KeptPart) → All P (parts_of id kept) → All (IfOf P id) kept
each_of_cycle P id [] all = All-nil (IfOf P id)
each_of_cycle P id (one ∷ kept) all = let both = each_by P one (filter (is_of id) kept) (is_of id one) all in All-cons (IfOf P id) one kept both.0 (each_of_cycle P id kept both.1)

pub for_at : (id : CycleId) (own : TableContents) (kept : List KeptPart) (i : ℕ) (one : KeptPart) → i < length kept → one ≡ get_or kept i one → All (IsPartFor own) (parts_of id kept)
    → IsTrue (is_of id one) → IsPartFor own one.part
for_at id own kept i one below is are =
    subst (λ (one : KeptPart). IsTrue (is_of id one) → IsPartFor own one.part) (sym is) (All-get_or (IfOf (IsPartFor own) id) kept i one below (each_of_cycle (IsPartFor own) id kept are))

-- ---- parts that go together are for the same hours

confirmed_along : (own other : TableContents) (o : Option TableContents) → HasShapeOf own other → IfSome o (HasShapeOf other) → IfSome o (HasShapeOf own)
confirmed_along own other None same is = tt
confirmed_along own other (Some table) same is = record { first = same.first ∙ is.first; last = same.last ∙ is.last }

shape_from : (a b : TableContents) → same_hours a b ≡ true → HasShapeOf a b
shape_from a b same = let both = and_parts (nat_eq a.first b.first) (nat_eq a.last b.last) same in record { first = eqb-true a.first b.first both.0; last = eqb-true a.last b.last both.1 }

for_one : (part one : Part) → goes_with part one ≡ true → IsSent one → IsPartFor part.processed one
for_one part one goes sent =
    let shape = shape_from part.processed one.processed (and_parts (same_hours part.processed one.processed) _ goes).0 in
    record { processed = shape; confirmed = confirmed_along part.processed one.processed one.confirmed shape sent.same_hours }

for_each : (part : Part) (others : List Part) → All (λ one. goes_with part one ≡ true) others → All IsSent others → All (IsPartFor part.processed) others
for_each part [] goes sent = All-nil (IsPartFor part.processed)
for_each part (one ∷ others) goes sent =
    let Goes : Part → Type 0 = λ one. goes_with part one ≡ true in
    All-cons (IsPartFor part.processed) one others (for_one part one (All-head Goes one others goes) (All-head IsSent one others sent))
    (for_each part others (All-tail Goes one others goes) (All-tail IsSent one others sent))

pub for_others : (part : Part) (others : List Part) → go_together part others ≡ true → All IsSent others → All (IsPartFor part.processed) others
for_others part others together sent = for_each part others (all_from (goes_with part) others together) sent

pub for_itself : (part : Part) → IsSent part → IsPartFor part.processed part
for_itself part sent = record { processed = record { first = refl; last = refl }; confirmed = sent.same_hours }

-- ---- both tables

both_by : (part : Part) (first second : TableContents) (overlaps many overlapping more : Bool)
    → both (ok_unless (cond overlaps (Some Overlap) (cond many (Some TooMany) None)) first) (ok_unless (cond overlapping (Some Overlap) (cond more (Some TooMany) None)) second) part
    ≡ cond (overlaps || overlapping) (Refused PartsOverlap)
    (cond (many || more) (Refused TooManyRows) (Complete (record { processed = first; confirmed = option_map (λ one. second) part.confirmed })))
both_by part first second true many overlapping more = refl
both_by part first second false true true more = refl
both_by part first second false false true more = refl
both_by part first second false true false true = refl
both_by part first second false true false false = refl
both_by part first second false false false true = refl
both_by part first second false false false false = refl

pub both_joined : (part : Part) (processed confirmed : List Row)
    → both (joined part.processed.first part.processed.last most_processed_rows processed) (joined part.processed.first part.processed.last most_rows confirmed) part ≡ joined_with part processed confirmed
unfolding joined join_refusal
both_joined part processed confirmed =
    both_by part (table_of part processed) (table_of part confirmed) (repeats (keys_of processed)) (nat_lt most_processed_rows (length processed))
    (repeats (keys_of confirmed)) (nat_lt most_rows (length confirmed))

-- ---- what is gathered

by_wholeness : (whole : Bool) (first later : Gathered) → whole ≡ true → first ≡ cond whole first later
by_wholeness true first later w = refl
by_wholeness false first later w = absurd cc

pub gathered_whole : (part : Part) (others : List Part) → is_whole part ≡ true → Complete (record { processed = part.processed; confirmed = part.confirmed }) ≡ gathered_with part others
gathered_whole part others whole = by_wholeness (is_whole part) _ _ whole

by_differing : (whole together awaiting : Bool) (first differs keeps last : Gathered) → whole ≡ false → together ≡ false
    → differs ≡ cond whole first (cond (not together) differs (cond awaiting keeps last))
by_differing true together awaiting first differs keeps last w t = absurd cc
by_differing false true awaiting first differs keeps last w t = absurd cc
by_differing false false awaiting first differs keeps last w t = refl

by_keeping : (whole together awaiting : Bool) (first differs keeps last : Gathered) → whole ≡ false → together ≡ true → awaiting ≡ true
    → keeps ≡ cond whole first (cond (not together) differs (cond awaiting keeps last))
by_keeping true together awaiting first differs keeps last w t a = absurd cc
by_keeping false false awaiting first differs keeps last w t a = absurd cc
by_keeping false true false first differs keeps last w t a = absurd cc
by_keeping false true true first differs keeps last w t a = refl

by_joining : (whole together awaiting : Bool) (first differs keeps last : Gathered) → whole ≡ false → together ≡ true → awaiting ≡ false
    → last ≡ cond whole first (cond (not together) differs (cond awaiting keeps last))
by_joining true together awaiting first differs keeps last w t a = absurd cc
by_joining false false awaiting first differs keeps last w t a = absurd cc
by_joining false true true first differs keeps last w t a = absurd cc
by_joining false true false first differs keeps last w t a = refl

pub gathered_differs : (part : Part) (others : List Part) → is_whole part ≡ false → go_together part others ≡ false → Refused (PartDiffers part.number) ≡ gathered_with part others
gathered_differs part others whole together = by_differing (is_whole part) (go_together part others) (is_awaiting part others) _ _ _ _ whole together

pub gathered_keeps : (part : Part) (others : List Part) → is_whole part ≡ false → go_together part others ≡ true → is_awaiting part others ≡ true → Keep part ≡ gathered_with part others
gathered_keeps part others whole together awaiting = by_keeping (is_whole part) (go_together part others) (is_awaiting part others) _ _ _ _ whole together awaiting

pub gathered_joins : (part : Part) (others : List Part) (last : Gathered) → is_whole part ≡ false → go_together part others ≡ true → is_awaiting part others ≡ false
    → last ≡ joined_with part (all_rows Processed part others) (all_rows Confirmed part others)
    → last ≡ gathered_with part others
gathered_joins part others last whole together awaiting is = is ∙ by_joining (is_whole part) (go_together part others) (is_awaiting part others) _ _ _ _ whole together awaiting

-- ---- results and tests

pub on_ok : {X E P Q : Type 0} (r : Result X E) → (P → Q) → IfOk r (λ x. P) → IfOk r (λ x. Q)
on_ok (Ok x) follows is = follows is
on_ok (Err fault) follows is = tt

pub is_so : (b : Bool) → false ≡ not b → b ≡ true
is_so true e = refl
is_so false e = absurd cc

pub is_not_so : (b : Bool) → true ≡ not b → b ≡ false
is_not_so true e = absurd cc
is_not_so false e = refl
