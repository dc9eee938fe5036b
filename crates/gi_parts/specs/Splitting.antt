-- How tables go out: whole, or in parts.
use Rattle.std.specs.Prelude.{◌≡◌, ◌≤◌, ℕ, ◌*◌, ◌-◌, length, nat_le, if◌then◌else◌, Option, Some, None, option_map, IfSome}
use Rattle.std.specs.Int.{IsInRange, div_ceil}
use Rattle.gi_pairs.specs.Limits.{most_processed_rows}
use Rattle.gi_pairs.specs.Slices.{slice_of}
use Rattle.gi_pairs.specs.Table.{HasShapeOf, IsTable, TableContents}
use Rattle.gi_messages.specs.Limits.{most_part_elements}
use Rattle.gi_parts.specs.declared.part.Part.{Part}
use Rattle.gi_parts.specs.declared.part.Whole.{Whole}

-- In how many parts a table of so many rows goes out: whole up to 1,000 rows, else in parts of 1,000 rows each, of which the last may have fewer.
abbrev pub parts_for : ℕ → ℕ
parts_for rows = if nat_le rows most_part_elements then 1 else div_ceil rows most_part_elements

-- the part of this number, from 1: its rows as far as there are any
abbrev pub part_of_table : ℕ → TableContents → TableContents
part_of_table number table = slice_of (most_part_elements * (number - 1)) most_part_elements table

-- the table whose rows say in how many parts both go out: what a response confirms, and what an order orders
abbrev pub counted_of : TableContents → Option TableContents → TableContents
counted_of processed None = processed
counted_of processed (Some confirmed) = confirmed

abbrev pub parts_of_whole : Whole → ℕ
parts_of_whole whole = parts_for (length (counted_of whole.processed whole.confirmed).rows)

-- the part of this number, from 1, of an order or a response
abbrev pub part_of_whole : Whole → ℕ → Part
part_of_whole whole number = record {
  number = number;
  parts = parts_of_whole whole;
  processed = part_of_table number whole.processed;
  confirmed = option_map (part_of_table number) whole.confirmed;
}

-- a part is one of those in which the tables go out
pub record IsPartOf (whole : Whole) (part : Part) : Type 0 where
  pub number : IsInRange 1 (parts_of_whole whole) part.number
  pub is : part ≡ part_of_whole whole part.number

-- Tables that an order or a response may have: what is confirmed is for the same hours, and has no fewer rows.
pub record IsSendable (whole : Whole) : Type 0 where
  pub processed : IsTable whole.processed
  pub few : length whole.processed.rows ≤ most_processed_rows
  pub confirmed : IfSome whole.confirmed IsTable
  pub same_hours : IfSome whole.confirmed (HasShapeOf whole.processed)
  pub no_fewer : IfSome whole.confirmed (λ table. length whole.processed.rows ≤ length table.rows)
