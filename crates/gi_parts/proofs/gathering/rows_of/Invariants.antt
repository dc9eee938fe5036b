use Rattle.std.proofs.Common.{◌≡◌, All, take}
use Rattle.std.specs.List.{flat_map}
use Rattle.gi_pairs.specs.Table.{TableContents}
use Rattle.gi_parts.specs.Hours.{AreRowsFor, IsPartFor}
use Rattle.gi_parts.specs.Parts.{parts_of}
use Rattle.gi_parts.specs.Walks.{rows_if}
use Rattle.gi_parts.proofs.gathering.rows_of.Given as goal

-- the rows of the parts so far, each for the hours that all parts are for
abbrev pub invariant-loop-one : goal.invariant-loop-one
invariant-loop-one l = (l.rows.items ≡ flat_map (rows_if l.array l.id) (take l.one-index l.kept)) × ((own : TableContents) → All (IsPartFor own) (parts_of l.id l.kept) → AreRowsFor own l.rows.items)
