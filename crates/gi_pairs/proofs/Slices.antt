-- Some rows of a table, one after the other, make a table.
use Rattle.std.proofs.Common.{◌≡◌, ◌-◌, ℕ, zero, suc, List, [], ◌∷◌, drop, length, length-drop, length-take, min, take, All, arith}
use Rattle.std.specs.declared.cmp.Ordering.TheVariants.{Less}
use Rattle.std.specs.List.{AllByRecursion}
use Rattle.std.specs.List.Sorted.{IsStrictlySortedBy}
use Rattle.std.proofs.lemmas.List.Elements.{All-drop, All-take}
use Rattle.gi_pairs.specs.Key.{key_cmp}
use Rattle.gi_pairs.specs.Row.{IsRow, key_of}
use Rattle.gi_pairs.specs.Slices.{slice_of}
use Rattle.gi_pairs.specs.Table.{IsTable, TableContents, covered, keys_of}
use Rattle.gi_pairs.specs.declared.key.Key.{Key}
use Rattle.gi_pairs.specs.declared.row.Row.{Row}

sorted-drop : (n : ℕ) (rows : List Row) → IsStrictlySortedBy key_cmp (keys_of rows) → IsStrictlySortedBy key_cmp (keys_of (drop n rows))
unfolding IsStrictlySortedBy
sorted-drop zero rows sorted = sorted
sorted-drop (suc n) [] sorted = sorted
sorted-drop (suc n) (row ∷ rows) sorted = sorted-drop n rows sorted.1

less-take : (key : Key) (n : ℕ) (rows : List Row) → AllByRecursion (λ y. key_cmp key y ≡ Less) (keys_of rows) → AllByRecursion (λ y. key_cmp key y ≡ Less) (keys_of (take n rows))
less-take key zero rows less = tt
less-take key (suc n) [] less = tt
less-take key (suc n) (row ∷ rows) less = (less.0, less-take key n rows less.1)

sorted-take : (n : ℕ) (rows : List Row) → IsStrictlySortedBy key_cmp (keys_of rows) → IsStrictlySortedBy key_cmp (keys_of (take n rows))
unfolding IsStrictlySortedBy
sorted-take zero rows sorted = tt
sorted-take (suc n) [] sorted = sorted
sorted-take (suc n) (row ∷ rows) sorted = (less-take (key_of row) n rows sorted.0, sorted-take n rows sorted.1)

-- it has at most so many rows, and no more than the table
pub length-slice : (from most : ℕ) (table : TableContents) → length (slice_of from most table).rows ≡ min most (length table.rows - from)
length-slice from most table = grind (arith, length-take, length-drop)

pub slice-is_table : (from most : ℕ) (table : TableContents) → IsTable table → IsTable (slice_of from most table)
slice-is_table from most table is = record {
  begins = is.begins;
  ordered = is.ordered;
  ends = is.ends;
  few = omega (arith, length-slice from most table, is.few);
  all = All-take IsRow most (drop from table.rows) (All-drop IsRow from table.rows is.all);
  whole = let fits = λ (row : Row). length row.hours ≡ covered table.first table.last in All-take fits most (drop from table.rows) (All-drop fits from table.rows is.whole);
  sorted = sorted-take most (drop from table.rows) (sorted-drop from table.rows is.sorted);
}
