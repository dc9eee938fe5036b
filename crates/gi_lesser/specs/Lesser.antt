-- The lesser of two tables.
use Rattle.std.specs.Prelude.{◌≡◌, ℕ, List, ◌++◌, map, filter, find, min, not, is_some, Bool, Contains, ◌↔◌, ◌⊎◌}
use Rattle.std.specs.List.{range_with_len}
pub use Rattle.gi_pairs.specs.Table.{HasShapeOf}
use Rattle.gi_pairs.specs.Table.{TableContents, IsTable, covered, in_order, is_at, keys_of, reading}
use Rattle.gi_pairs.specs.declared.direction.Direction.{Direction}
use Rattle.gi_pairs.specs.declared.key.Key.{Key}
use Rattle.gi_pairs.specs.declared.pair.Pair.{Pair}
use Rattle.gi_pairs.specs.declared.row.Row.{Row}

-- The confirmed table has the rows of both, on the hours of both, and reads as the lower of the two everywhere
-- (the lesser rule of Regulation (EU) 2015/703).
pub record IsLesser (own peer lesser : TableContents) : Type 0 where
  pub table : IsTable lesser
  pub first : lesser.first ≡ own.first
  pub last : lesser.last ≡ own.last
  pub keys : (key : Key) → Contains (keys_of lesser.rows) key ↔ (Contains (keys_of own.rows) key ⊎ Contains (keys_of peer.rows) key)
  pub reads : (pair : Pair) (direction : Direction) (hour : ℕ) → reading lesser pair direction hour ≡ min (reading own pair direction hour) (reading peer pair direction hour)

-- whether a table has a row for the key
abbrev pub has_row : TableContents → Key → Bool
has_row t key = is_some (find (is_at key) t.rows)

abbrev pub lacks : TableContents → Key → Bool
lacks t key = not (has_row t key)

-- the keys of both tables, each once
abbrev pub keys_of_both : TableContents → TableContents → List Key
keys_of_both own peer = keys_of own.rows ++ filter (lacks own) (keys_of peer.rows)

-- the row of the lower of both readings in each covered hour
unfoldable pub lesser_row : TableContents → TableContents → Key → Row
lesser_row own peer key = record {
  pair = key.pair;
  direction = key.direction;
  hours = map (λ hour. min (reading own key.pair key.direction hour) (reading peer key.pair key.direction hour)) (range_with_len own.first (covered own.first own.last));
}

-- the table of those rows
unfoldable pub lesser_of : TableContents → TableContents → TableContents
lesser_of own peer = record { first = own.first; last = own.last; rows = in_order (map (lesser_row own peer) (keys_of_both own peer)) }
