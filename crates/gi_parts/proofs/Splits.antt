-- A table in parts: how many there are, and that one after the other they have its rows.
use Rattle.std.proofs.Common.{◌≡◌, ◌+◌, ◌-◌, ◌*◌, ◌<◌, ◌≤◌, ◌∙◌, ℕ, zero, suc, List, [], ◌++◌, drop, length, nat_le, take, Bool, true, false, cond, Option, Some, None, leb-true, refl, sym, ap, arith}
use Rattle.std.specs.Int.{div_ceil}
use Rattle.std.specs.List.{flat_map, range_with_len}
use Rattle.std.specs.Prelude.{IfSome, option_map}
use Rattle.std.proofs.lemmas.Bool.Decides.{nat_tests}
use Rattle.std.proofs.lemmas.Grind.{div_ceil_times}
use Rattle.std.proofs.lemmas.List.{drop-drop, drop_all, take-append-drop}
use Rattle.std.proofs.lemmas.List.Concat.{flat_map-cons}
use Rattle.gi_pairs.specs.Table.{TableContents}
use Rattle.gi_pairs.specs.declared.row.Row.{Row}
use Rattle.gi_messages.specs.Limits.{most_part_elements, most_parts}
use Rattle.gi_parts.specs.Laws.{CarriesAllRows}
use Rattle.gi_parts.specs.Parts.{rows_of}
use Rattle.gi_parts.specs.Splitting.{part_of_table, parts_for}

-- ---- how many parts

-- there is a part, there is room for all rows, and where there are at most 66,000 rows there are at most 66 parts
record AreEnough (rows parts : ℕ) : Type 0 where
  some : 1 ≤ parts
  room : rows ≤ most_part_elements * parts
  few : rows ≤ most_parts * most_part_elements → parts ≤ most_parts

enough_by : (rows : ℕ) (b : Bool) → nat_le rows most_part_elements ≡ b → AreEnough rows (cond b 1 (div_ceil rows most_part_elements))
enough_by rows true is = record { some = omega arith; room = leb-true rows most_part_elements is; few = λ few. omega arith }
enough_by rows false is =
    let many : most_part_elements < rows = grind (arith, nat_tests, is) in
    let times = div_ceil_times rows most_part_elements (omega arith) in
    record { some = omega (arith, many, times.0); room = omega (arith, times.0); few = λ few. omega (arith, times.1, few) }

enough : (rows : ℕ) → AreEnough rows (parts_for rows)
enough rows = enough_by rows (nat_le rows most_part_elements) refl

pub some-parts : (rows : ℕ) → 1 ≤ parts_for rows
some-parts rows = (enough rows).some

pub room-parts : (rows : ℕ) → rows ≤ most_part_elements * parts_for rows
room-parts rows = (enough rows).room

pub few-parts : (rows : ℕ) → rows ≤ most_parts * most_part_elements → parts_for rows ≤ most_parts
few-parts rows few = (enough rows).few few

-- ---- their rows

abbrev rows_of_part : TableContents → ℕ → List Row
rows_of_part table number = (part_of_table number table).rows

-- the rows of the parts behind the first so many are the rows behind theirs
rows_from : (table : TableContents) (before parts : ℕ) → length table.rows ≤ most_part_elements * (before + parts)
    → flat_map (rows_of_part table) (range_with_len (before + 1) parts) ≡ drop (most_part_elements * before) table.rows
rows_from table before zero room = sym (drop_all (most_part_elements * before) table.rows (omega (arith, room)))
rows_from table before (suc parts) room =
    let rest = rows_from table (before + 1) parts (omega (arith, room)) in
    let left = drop (most_part_elements * before) table.rows in
    let number : before + 1 - 1 ≡ before = omega arith in
    let here : rows_of_part table (before + 1) ≡ take most_part_elements left = ap (λ n. take most_part_elements (drop (most_part_elements * n) table.rows)) number in
    let place : most_part_elements * before + most_part_elements ≡ most_part_elements * (before + 1) = omega arith in
    let later : drop most_part_elements left ≡ drop (most_part_elements * (before + 1)) table.rows =
    drop-drop most_part_elements (most_part_elements * before) table.rows ∙ ap (λ n. drop n table.rows) place in
    flat_map-cons (rows_of_part table) (before + 1) (range_with_len (before + 1 + 1) parts)
    ∙ ap (λ rows. rows_of_part table (before + 1) ++ rows) (rest ∙ sym later)
    ∙ ap (λ rows. rows ++ drop most_part_elements left) here
    ∙ take-append-drop most_part_elements left

-- where there is room for all rows
pub carries-all_rows : CarriesAllRows
carries-all_rows table parts room = rows_from table 0 parts (omega (arith, room))

nothing_carried : (from parts : ℕ) → flat_map (λ (number : ℕ). rows_of (option_map (part_of_table number) None)) (range_with_len from parts) ≡ []
nothing_carried from zero = refl
nothing_carried from (suc parts) = nothing_carried (from + 1) parts

-- and so of what is confirmed
pub carries-confirmed : (confirmed : Option TableContents) (parts : ℕ) → IfSome confirmed (λ table. length table.rows ≤ most_part_elements * parts)
    → flat_map (λ (number : ℕ). rows_of (option_map (part_of_table number) confirmed)) (range_with_len 1 parts) ≡ rows_of confirmed
carries-confirmed None parts room = nothing_carried 1 parts
carries-confirmed (Some table) parts room = carries-all_rows table parts room
