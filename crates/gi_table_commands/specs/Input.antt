-- What reading an input to its end answers.
use Rattle.std.specs.Prelude.{◌≡◌, ◌<◌, ◌≤◌, ◌⊎◌, ℕ, List, length, take, true, Option, Some, None, IfSome}
use Rattle.std.specs.Io.KnownBytes.{Consumes, IsAtEnd, Keeps}
use Rattle.gi_table_commands.specs.declared.input.Calls.{Calls}
use Rattle.gi_table_commands.specs.declared.fault.Fault.{Fault}
use Rattle.gi_table_commands.specs.declared.fault.Fault.TheVariants.{Read, TooLarge, OutOfMemory}

-- the most bytes of input that a command takes: 64 MiB
abbrev pub most_input : ℕ
most_input = 67_108_864

-- how often a command calls its reader before it gives up
abbrev pub most_reads : ℕ
most_reads = 134_217_728

-- what one call gave: bytes at the front of the chunk, none at the end, or nothing where it was interrupted
abbrev pub IsChunk : Option (List ℕ) → Option (List ℕ) → List ℕ → Option ℕ → Type 0
IsChunk old new chunk None = Keeps old new
IsChunk old new chunk (Some count) = (count ≤ length chunk) × Consumes old new (take count chunk) × (count ≡ 0 → 0 < length chunk → IsAtEnd new)

-- More bytes than a command takes; a reader that failed, or was called as often as a command calls it; else the fault comes from outside.
abbrev pub IsInputFault : Option (List ℕ) → Calls → Fault → Type 0
IsInputFault remaining calls TooLarge = IfSome remaining (λ bytes. most_input < length bytes)
IsInputFault remaining calls Read = (calls.failed ≡ true) ⊎ (calls.made ≡ most_reads)
IsInputFault remaining calls OutOfMemory = Unit {0}
IsInputFault remaining calls _ = ⊥
