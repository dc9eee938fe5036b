-- The lesser of two lists of rows, by the keys of both.
use Rattle.std.specs.Prelude.{ℕ, List, [], ◌∷◌, map, min, zip, find, Option, Some, None, if◌then◌else◌}
use Rattle.std.specs.declared.cmp.Ordering.{Ordering}
use Rattle.std.specs.declared.cmp.Ordering.TheVariants.{Less, Equal, Greater}
use Rattle.std.specs.Ordering.{is_eq, is_lt}
use Rattle.gi_pairs.specs.Key.{key_cmp}
use Rattle.gi_pairs.specs.Table.{is_at, keys_of}
use Rattle.gi_pairs.specs.declared.key.Key.{Key}
use Rattle.gi_pairs.specs.declared.row.Row.{Row}

-- a row of one side with these quantities
abbrev pub with_hours : Row → List ℕ → Row
with_hours row hours = record { pair = row.pair; direction = row.direction; hours = hours }

-- the lower of two rows' quantities, hour by hour
abbrev pub lower_hours : Row → Row → List ℕ
lower_hours a b = map (λ p. min p.0 p.1) (zip a.hours b.hours)

-- a row that stands on one side alone
abbrev pub alone : Row → Row
alone row = with_hours row (map (λ _. 0) row.hours)

-- what is confirmed of the first key of both sides, whose first rows are in this order
abbrev pub first_of_both : Ordering → Row → Row → Row
first_of_both Less our their = alone our
first_of_both Equal our their = with_hours our (lower_hours our their)
first_of_both Greater our their = alone their

-- what is confirmed where both sides have a row for the key, or one alone: there the other side reads 0
abbrev pub lower_found : Key → Option Row → Option Row → Row
lower_found key (Some a) (Some b) = with_hours a (lower_hours a b)
lower_found key (Some a) None = alone a
lower_found key None (Some b) = alone b
lower_found key None None = record { pair = key.pair; direction = key.direction; hours = [] }

-- keys in table order with one more, unless it is there
abbrev pub with_key : Key → List Key → List Key
with_key key [] = key ∷ []
with_key key (k ∷ ks) = if is_lt (key_cmp key k) then key ∷ k ∷ ks else (if is_eq (key_cmp key k) then k ∷ ks else k ∷ with_key key ks)

-- the keys of both lists, in table order
abbrev pub union_of : List Key → List Key → List Key
union_of [] ls = ls
union_of (k ∷ ks) ls = with_key k (union_of ks ls)

-- the row of a key, from the rows of both sides
abbrev pub lower_at : List Row → List Row → Key → Row
lower_at ours theirs key = lower_found key (find (is_at key) ours) (find (is_at key) theirs)

-- The rows of both sides, each with the lower of both quantities in each hour.
unfoldable pub lesser_rows : List Row → List Row → List Row
lesser_rows ours theirs = map (lower_at ours theirs) (union_of (keys_of ours) (keys_of theirs))
