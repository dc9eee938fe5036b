-- One part of those that are kept, as the walk over them meets it.
use Rattle.std.specs.Prelude.{List, [], if◌then◌else◌}
use Rattle.gi_pairs.specs.declared.cycle_id.CycleId.{CycleId}
use Rattle.gi_pairs.specs.declared.row.Row.{Row}
use Rattle.gi_parts.specs.Parts.{is_of, rows_in}
use Rattle.gi_parts.specs.declared.kept_parts.KeptPart.{KeptPart}
use Rattle.gi_parts.specs.declared.part.Array.{Array}

-- its rows, where it is of the cycle
abbrev pub rows_if : Array → CycleId → KeptPart → List Row
rows_if array id one = if is_of id one then rows_in array one.part else []
