-- What holds of all lessers.
use Rattle.std.specs.Prelude.{◌≡◌, ◌≤◌, ◌+◌, ℕ, Bool, List, count_by}
use Rattle.gi_pairs.specs.Row.{key_of}
use Rattle.gi_pairs.specs.Table.{TableContents, IsTable}
use Rattle.gi_pairs.specs.declared.key.Key.{Key}
use Rattle.gi_pairs.specs.declared.row.Row.{Row}
use Rattle.gi_lesser.specs.Lesser.{HasShapeOf, lesser_of}

-- the lesser of two tables of the same hours is the same whichever comes first
abbrev pub LessensBothWays : Type 0
LessensBothWays = (a b : TableContents) → IsTable a → IsTable b → HasShapeOf a b → lesser_of a b ≡ lesser_of b a

-- how many rows are for keys that are wanted
abbrev pub count_for : (Key → Bool) → List Row → ℕ
count_for wanted = count_by (λ row. wanted (key_of row))

-- whichever keys are wanted, the lesser has at most as many rows for them as both tables together
abbrev pub AddsNoRows : Type 0
AddsNoRows = (wanted : Key → Bool) (own peer : TableContents) → count_for wanted (lesser_of own peer).rows ≤ count_for wanted own.rows + count_for wanted peer.rows
