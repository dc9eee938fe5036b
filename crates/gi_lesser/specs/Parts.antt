-- The lesser of two lists of rows, in a part for each row of the first.
use Rattle.std.specs.Prelude.{ℕ, zero, suc, ◌+◌, List, [], ◌∷◌, length, take, drop, Option, Some, None, slice_get, if◌then◌else◌}
use Rattle.std.specs.Ordering.{is_lt}
use Rattle.gi_pairs.specs.Key.{key_cmp}
use Rattle.gi_pairs.specs.Row.{key_of}
use Rattle.gi_pairs.specs.declared.key.Key.{Key}
use Rattle.gi_pairs.specs.declared.row.Row.{Row}
use Rattle.gi_lesser.specs.Walk.{lesser_rows}

-- how many rows stand before the first whose key is not lower
abbrev pub count_below : Key → List Row → ℕ
count_below key [] = 0
count_below key (x ∷ xs) = if is_lt (key_cmp (key_of x) key) then suc (count_below key xs) else 0

abbrev pub count_below_row : List Row → Option Row → ℕ
count_below_row theirs None = length theirs
count_below_row theirs (Some row) = count_below (key_of row) theirs

-- where the second side's rows of a part begin: the first part has the lower ones too, and after the last comes nothing
abbrev pub edge_of : List Row → List Row → ℕ → ℕ
edge_of ours theirs zero = 0
edge_of ours theirs (suc i) = count_below_row theirs (slice_get ours (suc i))

-- a row of the first side, with the second's from its key up to the next row's key
abbrev pub part_of : List Row → List Row → ℕ → List Row
part_of ours theirs i = lesser_rows (take 1 (drop i ours)) (drop (edge_of ours theirs i) (take (edge_of ours theirs (i + 1)) theirs))
