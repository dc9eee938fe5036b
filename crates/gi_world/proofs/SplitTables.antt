-- A part of tables: its rows stand among theirs, and where they go out whole it is all of them.
use Rattle.std.proofs.Common.{◌≡◌, ◌*◌, ◌-◌, ◌||◌, ℕ, List, [], ◌∷◌, ◌++◌, drop, filter, map, take, All, Bool, true, false, cond, Option, Some, None, refl, sym, ap, ◌∙◌}
use Rattle.std.specs.Prelude.{option_map}
use Rattle.std.specs.List.{list_any}
use Rattle.std.proofs.lemmas.Bool.{and_from, and_parts}
use Rattle.std.proofs.lemmas.List.{append_assoc, take-append-drop}
use Rattle.std.proofs.lemmas.List.Elements.{All-cons, All-head, All-nil, All-tail}
use Rattle.gi_pairs.specs.Row.{row_eq}
use Rattle.gi_pairs.specs.Table.{TableContents}
use Rattle.gi_pairs.specs.declared.cycle_id.CycleId.{CycleId}
use Rattle.gi_pairs.specs.declared.row.Row.{Row}
use Rattle.gi_messages.specs.Limits.{most_part_elements}
use Rattle.gi_facts.specs.Same.{same_cycle}
use Rattle.gi_facts.proofs.SameLemmas.{same_cycle-is}
use Rattle.gi_parts.specs.Gathering.{gathered, is_awaiting, is_whole}
use Rattle.gi_parts.specs.Parts.{AreKept, is_of, parts_of, rows_of}
use Rattle.gi_parts.specs.Splitting.{IsPartOf, IsSendable, part_of_table}
use Rattle.gi_parts.specs.declared.gathered.Gathered.{Gathered}
use Rattle.gi_parts.specs.declared.gathered.Gathered.TheVariants.{Complete, Keep}
use Rattle.gi_parts.specs.declared.kept_parts.KeptPart.{KeptPart}
use Rattle.gi_parts.specs.declared.part.Part.{Part}
use Rattle.gi_parts.specs.declared.part.Whole.{Whole}
use Rattle.gi_parts.proofs.AnyOrder.{gathers-what_was_split}
use Rattle.gi_parts.proofs.Keeping.{kept-none}
use Rattle.gi_desk.specs.Deciding.{are_among}
use Rattle.gi_desk.proofs.Differing.{row-self}

-- ---- rows among others

-- a row that stands there is found
found : (row : Row) (before later : List Row) → list_any (λ other. row_eq other row) (before ++ row ∷ later) ≡ true
found row [] later = ap (λ (b : Bool). b || list_any (λ other. row_eq other row) later) (row-self row)
found row (x ∷ before) later = either (row_eq x row) (found row before later)
  where
    either : (b : Bool) → list_any (λ other. row_eq other row) (before ++ row ∷ later) ≡ true → (b || list_any (λ other. row_eq other row) (before ++ row ∷ later)) ≡ true
    either true e = refl
    either false e = e

-- the last rows stand among all
last_among : (before rows : List Row) → are_among rows (before ++ rows) ≡ true
last_among before [] = refl
last_among before (row ∷ rows) =
    let rest : are_among rows (before ++ row ∷ rows) ≡ true = ap (are_among rows) (sym (append_assoc before (row ∷ []) rows)) ∙ last_among (before ++ row ∷ []) rows in
    and_from (list_any (λ other. row_eq other row) (before ++ row ∷ rows)) (are_among rows (before ++ row ∷ rows)) (found row before rows) rest

-- and so do the first of them
first_among : (rows later others : List Row) → are_among (rows ++ later) others ≡ true → are_among rows others ≡ true
first_among [] later others e = refl
first_among (row ∷ rows) later others e =
    let parts = and_parts (list_any (λ other. row_eq other row) others) (are_among (rows ++ later) others) e in
    and_from (list_any (λ other. row_eq other row) others) (are_among rows others) parts.0 (first_among rows later others parts.1)

slice_among : (from most : ℕ) (rows : List Row) → are_among (take most (drop from rows)) rows ≡ true
slice_among from most rows =
    let left = drop from rows in
    let all : are_among left rows ≡ true = ap (are_among left) (sym (take-append-drop from rows)) ∙ last_among (take from rows) left in
    first_among (take most left) (drop most left) rows (ap (λ (ys : List Row). are_among ys rows) (take-append-drop most left) ∙ all)

confirmed_among : (number : ℕ) (confirmed : Option TableContents) → are_among (rows_of (option_map (part_of_table number) confirmed)) (rows_of confirmed) ≡ true
confirmed_among number None = refl
confirmed_among number (Some table) = slice_among (most_part_elements * (number - 1)) most_part_elements table.rows

-- the rows of a part stand among those of the tables
pub part_among : (whole : Whole) (part : Part) → IsPartOf whole part → are_among part.processed.rows whole.processed.rows ≡ true
part_among whole part is =
    ap (λ (p : Part). are_among p.processed.rows whole.processed.rows) is.is ∙ slice_among (most_part_elements * (part.number - 1)) most_part_elements whole.processed.rows

pub part_confirms_among : (whole : Whole) (part : Part) → IsPartOf whole part → are_among (rows_of part.confirmed) (rows_of whole.confirmed) ≡ true
part_confirms_among whole part is = ap (λ (p : Part). are_among (rows_of p.confirmed) (rows_of whole.confirmed)) is.is ∙ confirmed_among part.number whole.confirmed

-- ---- the parts that are kept of a cycle

one_more : (P : Part → Type 0) (id : CycleId) (one : KeptPart) (rest : List KeptPart) (b : Bool) → same_cycle one.id id ≡ b → (one.id ≡ id → P one.part) → All P (map (λ one. one.part) rest)
    → All P (map (λ one. one.part) (cond b (one ∷ rest) rest))
one_more P id one rest true e is all = All-cons P one.part (map (λ one. one.part) rest) (is (same_cycle-is one.id id e)) all
one_more P id one rest false e is all = all

pub parts_all : (P : Part → Type 0) (id : CycleId) (kept : List KeptPart) → All (λ one. one.id ≡ id → P one.part) kept → All P (parts_of id kept)
parts_all P id [] all = All-nil P
parts_all P id (one ∷ kept) all =
    one_more P id one (filter (is_of id) kept) (is_of id one) refl (All-head (λ one. one.id ≡ id → P one.part) one kept all)
    (parts_all P id kept (All-tail (λ one. one.id ≡ id → P one.part) one kept all))

-- ---- what a part comes to

-- one more part of the same tables is kept, or comes to them
pub gathers : (whole : Whole) (id : CycleId) (kept : List KeptPart) (part : Part) → IsSendable whole → AreKept kept → All (IsPartOf whole) (parts_of id kept) → IsPartOf whole part
    → gathered id kept part ≡ cond (is_awaiting part (parts_of id kept)) (Keep part) (Complete whole)
gathers whole id kept part sendable are all is = gathers-what_was_split whole id kept part sendable are all is

-- where it is whole, it is all of them
pub record IsAll (whole : Whole) (part : Part) : Type 0 where
  pub processed : part.processed ≡ whole.processed
  pub confirmed : part.confirmed ≡ whole.confirmed

all_by : (whole : Whole) (part : Part) (b : Bool) → Complete (record { processed = part.processed; confirmed = part.confirmed }) ≡ cond b (Keep part) (Complete whole) → IsAll whole part
all_by whole part true e = absurd cc
all_by whole part false e =
    let own : Whole = record { processed = part.processed; confirmed = part.confirmed } in
    let same : own ≡ whole = cc in
    record { processed = ap (λ (w : Whole). w.processed) same; confirmed = ap (λ (w : Whole). w.confirmed) same }

first_of : (b : Bool) (x y : Gathered) → b ≡ true → cond b x y ≡ x
first_of true x y e = refl
first_of false x y e = absurd cc

pub whole_part : (whole : Whole) (id : CycleId) (part : Part) → IsSendable whole → IsPartOf whole part → is_whole part ≡ true → IsAll whole part
whole_part whole id part sendable is one =
    let alone : gathered id [] part ≡ Complete (record { processed = part.processed; confirmed = part.confirmed }) = first_of (is_whole part) _ _ one in
    all_by whole part (is_awaiting part []) (sym alone ∙ gathers whole id [] part sendable kept-none (All-nil (IsPartOf whole)) is)
