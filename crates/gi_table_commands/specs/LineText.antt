-- How a line of the input of `match` is named in its faults.
use Rattle.std.specs.Prelude.{List, ℕ, codes}
use Rattle.gi_table_commands.specs.declared.fault.Line.{Line}
use Rattle.gi_table_commands.specs.declared.fault.Line.TheVariants.{Order, Own}

abbrev pub line_text : Line → List ℕ
line_text Order = codes "order"
line_text Own = codes "own"
