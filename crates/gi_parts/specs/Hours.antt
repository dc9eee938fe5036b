-- Parts and rows for the hours of a table.
use Rattle.std.specs.Prelude.{◌≡◌, List, length, All, IfSome}
use Rattle.gi_pairs.specs.Row.{IsRow}
use Rattle.gi_pairs.specs.Table.{HasShapeOf, TableContents, covered}
use Rattle.gi_pairs.specs.declared.row.Row.{Row}
use Rattle.gi_parts.specs.declared.part.Part.{Part}

pub record IsPartFor (own : TableContents) (part : Part) : Type 0 where
  pub processed : HasShapeOf own part.processed
  pub confirmed : IfSome part.confirmed (HasShapeOf own)

pub record AreRowsFor (own : TableContents) (rows : List Row) : Type 0 where
  pub known : All IsRow rows
  pub whole : All (λ row. length row.hours ≡ covered own.first own.last) rows
