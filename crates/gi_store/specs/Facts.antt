-- The facts that rows are, and where rows stop to be facts.
use Rattle.std.specs.Prelude.{◌≡◌, ◌⊎◌, ℕ, ◌+◌, ◌≤◌, ℤ, pos, ◌<ℤ◌, List, [], ◌∷◌, ◌++◌, length, Some, IsPermutation}
use Rattle.sqlite_value.specs.declared.value.Value.TheVariants.{Int, Text as Words}
use Rattle.sqlite_value.specs.Order.{Row, column}
use Rattle.gi_facts.specs.declared.fact.Fact.{Fact}
use Rattle.gi_facts.specs.Batch.{batch_of}
use Rattle.gi_facts.specs.declared.fact_fault.FactFault.{FactFault}
use Rattle.gi_facts.specs.declared.fact_fault.FactFault.TheVariants as reading
use Rattle.gi_store.specs.declared.store_fault.StoreFault.{StoreFault}
use Rattle.gi_store.specs.declared.store_fault.StoreFault.TheVariants.{Gap, Damaged, Store, OutOfMemory}

-- the row's body is a text that is these facts: one, or an array of 2 to 64
abbrev pub HasBody : Row → List Fact → Type 0
HasBody row facts = (text : List ℕ) × (column row 1 ≡ Words text) × (batch_of text ≡ Some facts)

-- The row has this number, and covers it and those after it with these facts, a number each.
abbrev pub Covers : ℕ → Row → List Fact → Type 0
Covers n row facts = (column row 0 ≡ Int (pos n)) × HasBody row facts

-- the rows cover the numbers from this one on with these facts, each row from the number that the one before leaves
abbrev pub AreFactsFrom : ℕ → List Row → List Fact → Type 0
AreFactsFrom n [] facts = facts ≡ []
AreFactsFrom n (row ∷ rows) facts = (batch : List Fact) × (rest : List Fact) × (facts ≡ batch ++ rest) × Covers n row batch × AreFactsFrom (n + length batch) rows rest

-- in the order of their numbers the rows cover the numbers from 1 on with these facts, and none is beside
pub record AreFacts (rows : List Row) (facts : List Fact) : Type 0 where
  pub ordered : List Row
  pub same : IsPermutation rows ordered
  pub each : AreFactsFrom 1 ordered facts

-- the row's number is above n
abbrev pub IsAbove : ℕ → Row → Type 0
IsAbove n row = (m : ℤ) × (column row 0 ≡ Int m) × (pos n <ℤ m)

-- the row's number is below n, which comes next, or it is n and the body is neither a fact nor an array of 2 to 64 facts
abbrev pub IsDamaged : ℕ → Row → ℤ → Type 0
IsDamaged n row m = (column row 0 ≡ Int m) × ((m <ℤ pos n) ⊎ ((m ≡ pos n) × ((facts : List Fact) → ¬ HasBody row facts)))

-- the row's body is a text: to read it takes memory, and nothing else of a row does
abbrev pub HasText : Row → Type 0
HasText row = (text : List ℕ) × (column row 1 ≡ Words text)

-- what the row with this number is refused for where its text is read as no facts
abbrev pub body_fault : ℤ → FactFault → StoreFault
body_fault number reading.NotAFact = Damaged number
body_fault number reading.OutOfMemory = OutOfMemory

-- what the body of the row with this number is refused for
abbrev pub IsBodyFault : Row → ℤ → StoreFault → Type 0
IsBodyFault row number (Damaged m) = (m ≡ number) × ((facts : List Fact) → ¬ HasBody row facts)
IsBodyFault row number Store = length row ≤ 1
IsBodyFault row number OutOfMemory = HasText row
IsBodyFault row number _ = ⊥

-- What a row is refused for, where n comes next: `Store` where it has no whole number or no body, which no row of the table lacks.
-- Want of memory comes of a row with that number and a text alone.
abbrev pub IsRowFault : ℕ → Row → StoreFault → Type 0
IsRowFault n row (Gap m) = (m ≡ n) × IsAbove n row
IsRowFault n row (Damaged m) = IsDamaged n row m
IsRowFault n row Store = ((m : ℤ) → ¬ (column row 0 ≡ Int m)) ⊎ (length row ≤ 1)
IsRowFault n row OutOfMemory = (column row 0 ≡ Int (pos n)) × HasText row
IsRowFault n row _ = ⊥

-- The rows before one of these cover the numbers from 1 on with facts, and that one is refused.
pub record StopsIn (rows : List Row) (fault : StoreFault) : Type 0 where
  pub before : List Row
  pub row : Row
  pub after : List Row
  pub facts : List Fact
  pub is : rows ≡ before ++ row ∷ after
  pub good : AreFactsFrom 1 before facts
  pub refused : IsRowFault (length facts + 1) row fault

-- why rows are not all facts: it is told of one of them
abbrev pub IsReadFault : List Row → StoreFault → Type 0
IsReadFault rows (Gap n) = StopsIn rows (Gap n)
IsReadFault rows (Damaged n) = StopsIn rows (Damaged n)
IsReadFault rows Store = StopsIn rows Store
IsReadFault rows OutOfMemory = StopsIn rows OutOfMemory
IsReadFault rows _ = ⊥
