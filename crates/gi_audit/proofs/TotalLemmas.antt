-- Sums of quantities fit.
use Rattle.std.proofs.Common.{◌≡◌, ◌<◌, ◌≤◌, ◌+◌, ◌*◌, ◌^◌, ℕ, List, length, take, get_or, sum, All, Bool, true, false, cond, nat_eq, ap, ◌∙◌, arith}
use Rattle.std.specs.List.{sum_by}
use Rattle.std.proofs.lemmas.List.Sums.{sum_by-le, sum_by_more_le}
use Rattle.gi_pairs.specs.Direction.{place_of}
use Rattle.gi_pairs.specs.Limits.{last_hour}
use Rattle.gi_pairs.specs.Quantity.{IsQuantity, most_quantity}
use Rattle.gi_pairs.specs.Table.{IsTable, TableContents, covered}
use Rattle.gi_pairs.specs.declared.direction.Direction.{Direction}
use Rattle.gi_pairs.specs.declared.row.Row.{Row}
use Rattle.gi_audit.specs.Finding.{row_total}

-- what all hours of a row have at most
abbrev most_of_row : ℕ
most_of_row = last_hour * most_quantity

pub hours_within : (hours : List ℕ) → All IsQuantity hours → length hours ≤ last_hour → sum hours ≤ most_of_row
hours_within hours all few =
    let bound = sum_by-le (λ (n : ℕ). n) most_quantity hours all in omega (arith, bound, few)

pub hours_fit : (hours : List ℕ) (i n : ℕ) → All IsQuantity hours → length hours ≤ last_hour → i < length hours → n ≡ get_or hours i 0 → sum (take i hours) + n < 2 ^ 64
hours_fit hours i n all few below is =
    let within = hours_within hours all few in
    let step = sum_by_more_le (λ (n : ℕ). n) hours i 0 below in
    omega (arith, within, step, is)

row_by : (b : Bool) (hours : List ℕ) → sum hours ≤ most_of_row → cond b (sum hours) 0 ≤ most_of_row
row_by true hours within = within
row_by false hours within = omega arith

record IsLimited (t : TableContents) (row : Row) : Type 0 where
  quantities : All IsQuantity row.hours
  hours : length row.hours ≤ last_hour

row_within : (direction : Direction) (row : Row) → All IsQuantity row.hours → length row.hours ≤ last_hour → row_total direction row ≤ most_of_row
row_within direction row all few = row_by (nat_eq (place_of row.direction) (place_of direction)) row.hours (hours_within row.hours all few)

covered_few : (t : TableContents) → IsTable t → covered t.first t.last ≤ last_hour
covered_few t is = let ends = is.ends in let begins = is.begins in omega (arith, ends, begins)

-- a row of a table has at most 25 hours
pub row_hours : (t : TableContents) (i : ℕ) (row : Row) → IsTable t → i < length t.rows → row ≡ get_or t.rows i row → length row.hours ≤ last_hour
row_hours t i row is below there =
    let whole : length row.hours ≡ covered t.first t.last = ap (λ (r : Row). length r.hours) there ∙ is.whole i row below in
    let few = covered_few t is in
    omega (arith, whole, few)

all_within : (direction : Direction) (t : TableContents) → IsTable t → All (λ row. row_total direction row ≤ most_of_row) t.rows
all_within direction t is i row below =
    let quantities = (is.all i row below).quantities in
    let whole = is.whole i row below in
    let few = covered_few t is in
    row_within direction (get_or t.rows i row) quantities (omega (arith, whole, few))

pub rows_fit : (direction : Direction) (t : TableContents) (i n : ℕ) (row : Row) → IsTable t → i < length t.rows → n ≡ row_total direction (get_or t.rows i row)
    → sum_by (row_total direction) (take i t.rows) + n < 2 ^ 64
rows_fit direction t i n row is below told =
    let within = sum_by-le (row_total direction) most_of_row t.rows (all_within direction t is) in
    let few = is.few in
    let step = sum_by_more_le (row_total direction) t.rows i row below in
    omega (arith, within, few, step, told)
