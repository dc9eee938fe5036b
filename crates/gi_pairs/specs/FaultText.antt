-- A refusal prints as its name.
use Rattle.std.specs.Prelude.{ℕ, List, codes}
use Rattle.gi_pairs.specs.declared.join_fault.JoinFault.{JoinFault}
use Rattle.gi_pairs.specs.declared.join_fault.JoinFault.TheVariants.{Overlap, TooMany}
use Rattle.gi_pairs.specs.declared.table.TableFault.{TableFault}
use Rattle.gi_pairs.specs.declared.table.TableFault.TheVariants.{HourRange, TooManyRows, UnequalHours, Duplicate, OutOfMemory}

abbrev pub fault_text : TableFault → List ℕ
fault_text HourRange = codes "HourRange"
fault_text TooManyRows = codes "TooManyRows"
fault_text UnequalHours = codes "UnequalHours"
fault_text Duplicate = codes "Duplicate"
fault_text OutOfMemory = codes "OutOfMemory"

abbrev pub join_fault_text : JoinFault → List ℕ
join_fault_text Overlap = codes "Overlap"
join_fault_text TooMany = codes "TooMany"
