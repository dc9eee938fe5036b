-- What a command says of the reader's bytes, from what it says of the bytes that it read.
use Rattle.std.proofs.Common.{◌≡◌, ◌≤◌, ℕ, List, length, Option, None, Some}
use Rattle.std.specs.Prelude.{IfSome}
use Rattle.std.specs.Io.KnownBytes.{Appends}
use Rattle.gi_table_commands.specs.Input.{most_input}
use Rattle.gi_table_commands.specs.Match.{IsAnswer, IsFirstFault}
use Rattle.gi_table_commands.specs.declared.fault.Fault.TheVariants as fault

-- the input is within the limit, and its text, which is such a one, is what the output gained
abbrev Writes : (List ℕ → List ℕ → Type 0) → List ℕ → Option (List ℕ) → Option (List ℕ) → Type 0
Writes is input old new = (length input ≤ most_input) × ((text : List ℕ) × is input text × Appends old new text)

-- what was read is all of it, and its text was written
pub wrote : (is : List ℕ → List ℕ → Type 0) (remaining old new : Option (List ℕ)) (bytes text : List ℕ)
    → IfSome remaining (λ all. bytes ≡ all) → length bytes ≤ most_input → is bytes text → Appends old new text
    → IfSome remaining (λ input. Writes is input old new)
wrote is None old new bytes text whole within written appends = tt
wrote is (Some all) old new bytes text whole within written appends = rw (← whole) (within, (text, written, appends))

-- what was read is all of it and has an answer, so a writer may fail
pub write_fails : (remaining : Option (List ℕ)) (bytes text : List ℕ) → IfSome remaining (λ all. bytes ≡ all)
    → length bytes ≤ most_input → IsAnswer bytes text → IfSome remaining (λ input. IsFirstFault input fault.Write)
write_fails None bytes text whole within answer = tt
write_fails (Some all) bytes text whole within answer = rw (← whole) (within, (text, answer))
