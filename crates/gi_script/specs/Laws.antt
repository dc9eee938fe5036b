-- What holds of all scripts, and of all requests.
use Rattle.std.specs.Prelude.{◌≡◌, ℕ, List}
use Rattle.gi_desk.specs.declared.call.Call.{Call}
use Rattle.gi_script.specs.Grammar.{Asks, Spells}
use Rattle.gi_script.specs.Script.{IsOfficeScript, IsScript, ScriptContents}
use Rattle.gi_script.specs.declared.instruction.Instruction.{Instruction}

-- a line spells one instruction at most
abbrev pub IsOneInstruction : Type 0
IsOneInstruction = (line : List ℕ) (a b : Instruction) → Spells line a → Spells line b → a ≡ b

-- a line asks for one call at most
abbrev pub IsOneRequest : Type 0
IsOneRequest = (line : List ℕ) (a b : Call) → Asks line a → Asks line b → a ≡ b

-- bytes are one script at most
abbrev pub IsOneScript : Type 0
IsOneScript = (bytes : List ℕ) (a b : ScriptContents) → IsScript bytes a → IsScript bytes b → a ≡ b

-- bytes are one script of a running office at most
abbrev pub IsOneOfficeScript : Type 0
IsOneOfficeScript = (bytes : List ℕ) (a b : ScriptContents) → IsOfficeScript bytes a → IsOfficeScript bytes b → a ≡ b
