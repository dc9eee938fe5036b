-- What both running offices write of a script, and the faults of that in their order.
use Rattle.std.specs.Prelude.{◌≡◌, ◌≢◌, ◌<◌, ◌≤◌, ◌⊎◌, ℕ, Bool, false, List, length, Option, Some, IfSome, Result, Ok, Err}
use Rattle.std.specs.Io.KnownBytes.{Appends, Keeps}
use Rattle.gi_pairs.specs.declared.side.Side.{Side}
use Rattle.gi_pairs.specs.declared.side.Side.TheVariants.{I, M}
use Rattle.gi_script.specs.Script.{IsOfficeFault, IsOfficeScript, ScriptContents}
use Rattle.gi_table_commands.specs.Input.{most_input}
use Rattle.gi_store.specs.declared.store_fault.StoreFault.{StoreFault}
use Rattle.gi_store.specs.declared.store_fault.StoreFault.TheVariants as store
use Rattle.gi_commands.specs.declared.fault.Fault.{Fault}
use Rattle.gi_commands.specs.declared.fault.Fault.TheVariants as fault
use Rattle.gi_serving.specs.Ending.{Ends, IsOver}
use Rattle.gi_serving.specs.Making.{MakesSome, new_offices}
use Rattle.gi_serving.specs.declared.serve_fault.ServeFault.{ServeFault}
use Rattle.gi_serving.specs.declared.serve_fault.ServeFault.TheVariants as serve
use Rattle.gi_service.specs.declared.program_fault.ProgramFault.{ProgramFault}
use Rattle.gi_service.specs.declared.program_fault.ProgramFault.TheVariants.{Closed, Command, Live, Refused, Served}
use Rattle.gi_service.specs.Pasts.{IsPastsFault}
use Rattle.gi_service.specs.Standing.{IsPrefixFault}
use Rattle.gi_service.specs.Stations.{IsStationFault}

-- how a run ended
abbrev pub End : Type 0
End = Result (Unit {0}) ServeFault

-- What is promised of what both offices write of a script, each with so many sessions: the text tells the pieces of the script in
-- order and ends with the last lines of both, handed all their seats; or the run was cut off, and it tells the first pieces alone;
-- or the writer failed behind some of them.
abbrev pub IsServedFrom : ℕ → ScriptContents → Option (List ℕ) → Option (List ℕ) → End → Type 0
IsServedFrom sessions script old new end = (count : ℕ) × Ends sessions script.lines count old new end

-- the input spells the script, which has only lines that a running office takes
abbrev pub IsInputOf : ScriptContents → List ℕ → Type 0
IsInputOf script input = (length input ≤ most_input) × IsOfficeScript input script

-- what both offices tell of the script that the input spells
pub record IsServedText (sessions : ℕ) (input text : List ℕ) (end : End) : Type 0 where
  pub script : ScriptContents
  pub spelled : IsInputOf script input
  pub served : IsOver sessions script.lines text end

-- and what they write of it
pub record IsServed (sessions : ℕ) (input : List ℕ) (old new : Option (List ℕ)) (end : End) : Type 0 where
  pub script : ScriptContents
  pub spelled : IsInputOf script input
  pub served : IsServedFrom sessions script old new end

-- the first lines of that script are made, perhaps none and perhaps all
pub record MakesFront (sessions : ℕ) (input : List ℕ) : Type 0 where
  pub script : ScriptContents
  pub spelled : IsInputOf script input
  pub count : ℕ
  pub made : MakesSome sessions script.lines count (new_offices sessions)

-- ---- the faults

-- Why an input is not read as a script, the first: it has too many bytes; else its first line that a running office does not
-- take. What comes from outside may come at any time.
abbrev pub IsScriptFault : List ℕ → Fault → Type 0
IsScriptFault input fault.Read = Unit {0}
IsScriptFault input fault.OutOfMemory = Unit {0}
IsScriptFault input fault.TooLarge = most_input < length input
IsScriptFault input (fault.Script why) = (length input ≤ most_input) × IsOfficeFault input why
IsScriptFault input _ = ⊥

-- one of the two sides has no desk, or both have desks of two pasts
abbrev pub IsBooksFault : List ℕ → Fault → Type 0
IsBooksFault point why = (IsStationFault I point why ⊎ IsStationFault M point why) ⊎ IsPastsFault point why

-- one of the books in files is missing, or is not read
abbrev pub IsFilesFault : List ℕ → Fault → Type 0
IsFilesFault point why = IsPrefixFault why ⊎ IsBooksFault point why

-- a script is read, and one of the books is not
abbrev pub HasBooksFault : List ℕ → Fault → Type 0
HasBooksFault input why = (script : ScriptContents) × IsInputOf script input × IsFilesFault script.point why

abbrev pub IsTextFault : List ℕ → Fault → Type 0
IsTextFault input why = IsScriptFault input why ⊎ HasBooksFault input why

-- The first fault: of the input, of the books, of the run or of the writer, whichever comes first, of closing the books.
abbrev pub IsFirstServeFault : ℕ → List ℕ → ProgramFault → Type 0
IsFirstServeFault sessions input (Command fault.Write) = MakesFront sessions input
IsFirstServeFault sessions input (Command why) = IsTextFault input why
IsFirstServeFault sessions input (Served why) = (text : List ℕ) × IsServedText sessions input text (Err why)
IsFirstServeFault sessions input (Live why) = ⊥
IsFirstServeFault sessions input (Refused count) = ⊥
IsFirstServeFault sessions input (Closed why) = (text : List ℕ) × IsServedText sessions input text (Ok tt)

-- of a dry run, which opens no book in a file, it is never told that one was not closed
abbrev pub MayBeTold : Bool → ProgramFault → Type 0
MayBeTold dry_run (Closed why) = dry_run ≡ false
MayBeTold dry_run _ = Unit {0}

-- why a run is not done: the writer failed; or it ended by another fault; or it ended well, and its books were not closed
abbrev pub IsUndone : End → Result (Unit {0}) StoreFault → ProgramFault → Type 0
IsUndone end closed why =
    ((end ≡ Err serve.Write) × (why ≡ Command fault.Write))
    ⊎ ((fault : ServeFault) × (end ≡ Err fault) × (fault ≢ serve.Write) × (why ≡ Served fault))
    ⊎ ((fault : StoreFault) × (end ≡ Ok tt) × (closed ≡ Err fault) × (why ≡ Closed fault))

-- ---- what is written

-- a script that was served to its end: its text is what the output has gained
abbrev pub Serves : ℕ → List ℕ → Option (List ℕ) → Option (List ℕ) → Type 0
Serves sessions input old new = (text : List ℕ) × IsServedText sessions input text (Ok tt) × Appends old new text

-- of a run that ended by a fault, or whose books were not closed, the output has gained the text too; before the run nothing is written
abbrev pub LeavesServed : ℕ → Option (List ℕ) → Option (List ℕ) → Option (List ℕ) → ProgramFault → Type 0
LeavesServed sessions remaining old new (Command fault.Write) = Unit {0}
LeavesServed sessions remaining old new (Command why) = Keeps old new
LeavesServed sessions remaining old new (Served why) =
    IfSome remaining (λ input. (text : List ℕ) × IsServedText sessions input text (Err why) × Appends old new text)
LeavesServed sessions remaining old new (Live why) = ⊥
LeavesServed sessions remaining old new (Refused count) = ⊥
LeavesServed sessions remaining old new (Closed why) =
    IfSome remaining (λ input. (text : List ℕ) × IsServedText sessions input text (Ok tt) × Appends old new text)
