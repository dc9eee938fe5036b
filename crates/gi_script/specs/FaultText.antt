-- A refusal prints as its name, after the line that it is found on.
use Rattle.std.specs.Prelude.{ℕ, List, ◌++◌, codes}
use Rattle.std.specs.Fmt.{decimal}
use Rattle.gi_script.specs.declared.fault.ScriptFault.{ScriptFault}
use Rattle.gi_script.specs.declared.fault.ScriptFault.TheVariants.{Point, Unreadable, OutOfMemory}

abbrev pub fault_text : ScriptFault → List ℕ
fault_text Point = codes "Point"
fault_text (Unreadable number) = codes "line " ++ decimal number ++ codes ": Unreadable"
fault_text OutOfMemory = codes "OutOfMemory"
