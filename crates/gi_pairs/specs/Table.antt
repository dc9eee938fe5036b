-- Tables: what they hold, how they read, and which rows make one.
use Rattle.std.specs.Prelude.{◌≡◌, ℕ, ◌+◌, ◌-◌, ◌≤◌, ◌==◌, List, [], ◌∷◌, length, map, find, slice_index, nat_eq, Bool, false, not, ◌&&◌, ◌||◌, nat_lt, nat_le, if◌then◌else◌, Option, Some, None, Result, Ok, Err, All}
use Rattle.std.specs.List.{list_all, list_any}
use Rattle.std.specs.List.Sorted.{IsStrictlySortedBy}
use Rattle.std.specs.Cmp.Lexicographic.{pointwise}
use Rattle.std.specs.Ordering.{eq_of_both, is_eq, is_lt, on}
use Rattle.gi_pairs.specs.Key.{key_cmp}
use Rattle.gi_pairs.specs.Row.{key_of, row_eq, IsRow}
use Rattle.gi_pairs.specs.declared.direction.Direction.{Direction}
use Rattle.gi_pairs.specs.declared.join_fault.JoinFault.{JoinFault}
use Rattle.gi_pairs.specs.declared.join_fault.JoinFault.TheVariants.{Overlap, TooMany}
use Rattle.gi_pairs.specs.declared.key.Key.{Key}
use Rattle.gi_pairs.specs.declared.pair.Pair.{Pair}
use Rattle.gi_pairs.specs.declared.row.Row.{Row}
use Rattle.gi_pairs.specs.Limits.{last_hour, most_rows}
use Rattle.gi_pairs.specs.declared.table.TableFault.{TableFault}
use Rattle.gi_pairs.specs.declared.table.TableFault.TheVariants.{HourRange, TooManyRows, UnequalHours, Duplicate}

-- the hours from first to last, and rows in table order
pub record TableContents : Type 0 where
  pub first : ℕ
  pub last : ℕ
  pub rows : List Row

-- the two cover the same hours
pub record HasShapeOf (own peer : TableContents) : Type 0 where
  pub first : own.first ≡ peer.first
  pub last : own.last ≡ peer.last

abbrev pub same_hours : TableContents → TableContents → Bool
same_hours a b = nat_eq a.first b.first && nat_eq a.last b.last

-- how many hours there are from first to last
abbrev pub covered : ℕ → ℕ → ℕ
covered first last = last + 1 - first

abbrev pub keys_of : List Row → List Key
keys_of = map key_of

-- hours are numbered from 1, and a gas day has at most 25
abbrev pub is_hour_range : ℕ → ℕ → Bool
is_hour_range first last = nat_le 1 first && nat_le first last && nat_le last last_hour

-- what holds of every table
pub record IsTable (t : TableContents) : Type 0 where
  pub begins : 1 ≤ t.first
  pub ordered : t.first ≤ t.last
  pub ends : t.last ≤ last_hour
  pub few : length t.rows ≤ most_rows
  pub all : All IsRow t.rows
  pub whole : All (λ row. length row.hours ≡ covered t.first t.last) t.rows
  pub sorted : IsStrictlySortedBy key_cmp (keys_of t.rows)

-- whether a row is for the key
abbrev pub is_at : Key → Row → Bool
is_at key row = is_eq (key_cmp (key_of row) key)

-- what a row, if there is one, has for an hour, where the hour is covered, and 0 elsewhere
abbrev pub quantity_of : TableContents → ℕ → Option Row → ℕ
quantity_of t hour None = 0
quantity_of t hour (Some row) = if nat_le t.first hour && nat_le hour t.last then slice_index row.hours (hour - t.first) else 0

-- The reading of a table: the quantity of the row of the pair and direction, where that covers the hour, and 0 elsewhere.
unfoldable pub reading : TableContents → Pair → Direction → ℕ → ℕ
reading t pair direction hour = quantity_of t hour (find (is_at (record { pair = pair; direction = direction })) t.rows)

-- whether a key stands twice
abbrev pub repeats : List Key → Bool
repeats [] = false
repeats (k ∷ ks) = list_any (λ other. is_eq (key_cmp k other)) ks || repeats ks

-- the first fault of rows that are to cover the hours from first to last
unfoldable pub refusal : ℕ → ℕ → List Row → Option TableFault
refusal first last rows =
    if not (is_hour_range first last) then Some HourRange
    else (if nat_lt most_rows (length rows) then Some TooManyRows
    else (if not (list_all (λ row. length row.hours == covered first last) rows) then Some UnequalHours
    else (if repeats (keys_of rows) then Some Duplicate else None)))

-- rows with one more, before the first of a greater key
abbrev pub with_row : Row → List Row → List Row
with_row row [] = row ∷ []
with_row row (x ∷ xs) = if is_lt (key_cmp (key_of row) (key_of x)) then row ∷ x ∷ xs else x ∷ with_row row xs

-- the rows in table order
abbrev pub in_order : List Row → List Row
in_order [] = []
in_order (row ∷ rows) = with_row row (in_order rows)

-- the value, unless there is a fault
abbrev pub ok_unless : {T E : Type 0} → Option E → T → Result T E
ok_unless None x = Ok x
ok_unless (Some e) x = Err e

-- the table that rows make, or their first fault
unfoldable pub built : ℕ → ℕ → List Row → Result TableContents TableFault
built first last rows = ok_unless (refusal first last rows) (record { first = first; last = last; rows = in_order rows })

-- the first fault of the rows of several parts, which are to be at most so many: a key that stands twice, then their number
unfoldable pub join_refusal : ℕ → List Row → Option JoinFault
join_refusal most rows = if repeats (keys_of rows) then Some Overlap else (if nat_lt most (length rows) then Some TooMany else None)

-- the table that the rows of several parts make, or their first fault
unfoldable pub joined : ℕ → ℕ → ℕ → List Row → Result TableContents JoinFault
joined first last most rows = ok_unless (join_refusal most rows) (record { first = first; last = last; rows = in_order rows })

-- they cover the same hours, and their rows are equal
abbrev pub table_eq : TableContents → TableContents → Bool
table_eq = eq_of_both (eq_of_both (on (λ t. t.first) nat_eq) (on (λ t. t.last) nat_eq)) (on (λ t. t.rows) (pointwise row_eq))
