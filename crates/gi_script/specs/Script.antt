-- What a script is, and its first fault.
use Rattle.std.specs.Prelude.{◌≡◌, ℕ, Bool, true, false, List, [], ◌∷◌, ◌++◌, Result, Ok, Err}
use Rattle.gi_script.specs.Grammar.{Spells, SpellsPoint}
use Rattle.gi_script.specs.Words.{NumberedLine, lines_from}
use Rattle.gi_script.specs.declared.fault.ScriptFault.{ScriptFault}
use Rattle.gi_script.specs.declared.fault.ScriptFault.TheVariants as faults
use Rattle.gi_script.specs.declared.forms.Forms.{Forms}
use Rattle.gi_script.specs.declared.forms.Forms.TheVariants as forms_of
use Rattle.gi_script.specs.declared.instruction.Instruction.{Instruction}
use Rattle.gi_script.specs.declared.instruction.Instruction.TheVariants as instructions
use Rattle.gi_script.specs.declared.line.Line.{Line}

-- What a running office takes: calls, plans and moves of the carriers. It saves by itself, is given only what a carrier
-- brings, and starts again with its book alone.
abbrev pub office_takes : Instruction → Bool
office_takes (instructions.Call side call) = true
office_takes (instructions.Save side count) = false
office_takes (instructions.Deliver side packet) = false
office_takes (instructions.Restart side keep) = false
office_takes (instructions.Plan side plan) = true
office_takes (instructions.Carry side) = true

-- how lines spell instructions: which lines spell which
abbrev pub Spelling : Type 1
Spelling = List ℕ → Instruction → Type 0

-- a line spells an instruction that a running office takes
abbrev pub SpellsForOffice : Spelling
SpellsForOffice line instruction = Spells line instruction × (office_takes instruction ≡ true)

-- the lines of these forms alone
abbrev pub spelling : Forms → Spelling
spelling forms_of.All = Spells
spelling forms_of.Office = SpellsForOffice

-- which instructions have a line of these forms
abbrev pub takes : Forms → Instruction → Bool
takes forms_of.All instruction = true
takes forms_of.Office instruction = office_takes instruction

-- the lines of a script that are not empty, by their numbers from 1
abbrev pub lines_of : List ℕ → List NumberedLine
lines_of bytes = lines_from 1 bytes

-- the line spells the instruction, under its number; S says which lines spell which
pub record SpellsLine (S : Spelling) (text : NumberedLine) (line : Line) : Type 0 where
  pub number : text.number ≡ line.number
  pub instruction : S text.text line.instruction

-- each line spells its instruction, in order
abbrev pub SpellAll : Spelling → List NumberedLine → List Line → Type 0
SpellAll S [] [] = Unit {0}
SpellAll S [] (line ∷ lines) = ⊥
SpellAll S (text ∷ texts) [] = ⊥
SpellAll S (text ∷ texts) (line ∷ lines) = SpellsLine S text line × SpellAll S texts lines

-- what is read: the point, and the lines
pub record ScriptContents : Type 0 where
  pub point : List ℕ
  pub lines : List Line

-- the first line spells the point, each further one its instruction
pub record IsScriptBy (S : Spelling) (bytes : List ℕ) (script : ScriptContents) : Type 0 where
  pub first : NumberedLine
  pub further : List NumberedLine
  pub lines : lines_of bytes ≡ first ∷ further
  pub point : SpellsPoint first.text script.point
  pub instructions : SpellAll S further script.lines

-- the line of that number is the first of these that spells no instruction
pub record IsFirstUnreadable (S : Spelling) (texts : List NumberedLine) (number : ℕ) : Type 0 where
  pub front : List NumberedLine
  pub read : List Line
  pub line : NumberedLine
  pub back : List NumberedLine
  pub are : texts ≡ front ++ line ∷ back
  pub before : SpellAll S front read
  pub none : (instruction : Instruction) → ¬ (S line.text instruction)
  pub numbered : number ≡ line.number

-- there is no line, or the first spells no point
abbrev pub HasNoPoint : List ℕ → Type 0
HasNoPoint bytes = (first : NumberedLine) (further : List NumberedLine) (point : List ℕ)
    → lines_of bytes ≡ first ∷ further → ¬ (SpellsPoint first.text point)

-- the first line spells a point, and the first further one that spells no instruction has that number
pub record HasUnreadable (S : Spelling) (bytes : List ℕ) (number : ℕ) : Type 0 where
  pub first : NumberedLine
  pub further : List NumberedLine
  pub point : List ℕ
  pub lines : lines_of bytes ≡ first ∷ further
  pub spelled : SpellsPoint first.text point
  pub unreadable : IsFirstUnreadable S further number

-- the first fault of a script; memory may be wanted at any time
abbrev pub IsFaultBy : Spelling → List ℕ → ScriptFault → Type 0
IsFaultBy S bytes faults.Point = HasNoPoint bytes
IsFaultBy S bytes (faults.Unreadable number) = HasUnreadable S bytes number
IsFaultBy S bytes faults.OutOfMemory = Unit {0}

-- a script of all forms of lines, and its first fault
abbrev pub IsScript : List ℕ → ScriptContents → Type 0
IsScript = IsScriptBy Spells

abbrev pub IsFault : List ℕ → ScriptFault → Type 0
IsFault = IsFaultBy Spells

-- a script of the lines that a running office takes, and its first fault: another line is unreadable as one of no form is
abbrev pub IsOfficeScript : List ℕ → ScriptContents → Type 0
IsOfficeScript = IsScriptBy SpellsForOffice

abbrev pub IsOfficeFault : List ℕ → ScriptFault → Type 0
IsOfficeFault = IsFaultBy SpellsForOffice

-- a line is read: its instruction, under its number, or that it spells none
abbrev pub IsLineRead : Spelling → NumberedLine → Result Line ScriptFault → Type 0
IsLineRead S text (Ok line) = SpellsLine S text line
IsLineRead S text (Err faults.Point) = ⊥
IsLineRead S text (Err (faults.Unreadable number)) =
    (number ≡ text.number) × ((instruction : Instruction) → ¬ (S text.text instruction))
IsLineRead S text (Err faults.OutOfMemory) = Unit {0}

-- why further lines are not read: the first unreadable one, or want of memory
abbrev pub IsStopped : Spelling → List NumberedLine → ScriptFault → Type 0
IsStopped S texts faults.Point = ⊥
IsStopped S texts (faults.Unreadable number) = IsFirstUnreadable S texts number
IsStopped S texts faults.OutOfMemory = Unit {0}
