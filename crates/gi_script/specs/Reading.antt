-- What the parts of a script, and requests, are read as.
use Rattle.std.specs.Prelude.{◌≡◌, ℕ, List, ◌∷◌, Option, Some, None, Result, Ok, Err}
use Rattle.gi_script.specs.declared.fault.LineFault.{LineFault}
use Rattle.gi_script.specs.declared.fault.LineFault.TheVariants as faults

-- one that is so, or none where none is
abbrev pub Finds : {X : Type 0} → (X → Type 0) → Option X → Type 0
Finds {X} R (Some x) = R x
Finds {X} R None = (x : X) → ¬ (R x)

-- The first word is read as what it is, and the others are left; else there is no word, or it is none.
abbrev pub Takes : {X : Type 0} → (List ℕ → X → Type 0) → List (List ℕ) → Option X → List (List ℕ) → Type 0
Takes {X} R words (Some x) rest = (word : List ℕ) × (words ≡ word ∷ rest) × R word x
Takes {X} R words None rest = (word : List ℕ) (others : List (List ℕ)) (x : X) → words ≡ word ∷ others → ¬ (R word x)

-- one that is so; `Unreadable` where none is; memory may be wanted at any time
abbrev pub Reads : {X : Type 0} → (X → Type 0) → Result X LineFault → Type 0
Reads {X} R (Ok x) = R x
Reads {X} R (Err faults.Unreadable) = (x : X) → ¬ (R x)
Reads {X} R (Err faults.OutOfMemory) = Unit {0}
