-- What holds of all inputs of `match`.
use Rattle.std.specs.Prelude.{◌≡◌, ◌≢◌, ℕ, List}
use Rattle.gi_table_commands.specs.Match.{IsAnswer, IsRefused}
use Rattle.gi_table_commands.specs.declared.fault.Fault.{Fault}
use Rattle.gi_table_commands.specs.declared.fault.Fault.TheVariants.{OutOfMemory}

-- an input has one answer at most
abbrev pub HasOneAnswer : Type 0
HasOneAnswer = (input text other : List ℕ) → IsAnswer input text → IsAnswer input other → text ≡ other

-- an input that is refused has no answer
abbrev pub HasNoAnswer : Type 0
HasNoAnswer = (input text : List ℕ) (why : Fault) → why ≢ OutOfMemory → IsRefused input why → ¬ (IsAnswer input text)

-- and one fault at most
abbrev pub HasOneFault : Type 0
HasOneFault = (input : List ℕ) (why other : Fault) → why ≢ OutOfMemory → other ≢ OutOfMemory
    → IsRefused input why → IsRefused input other → why ≡ other
