-- What holds of all facts.
use Rattle.std.specs.Prelude.{◌≡◌, ◌≤◌, ◌↔◌, ℕ, List, length, Some, true}
use Rattle.std.specs.List.{AllByRecursion}
use Rattle.std.specs.Str.{is_utf8}
use Rattle.serde_json.specs.Data.{Data}
use Rattle.gi_facts.specs.declared.fact.Fact.{Fact}
use Rattle.gi_facts.specs.Batch.{batch_of, batch_text, most_facts}
use Rattle.gi_facts.specs.Decoding.{fact_of}
use Rattle.gi_facts.specs.Grammar.{IsFact, IsWritable, Spells}
use Rattle.gi_facts.specs.Same.{same_fact}
use Rattle.gi_facts.specs.Writable.{FitsFact}
use Rattle.gi_facts.specs.Writing.{data_of, fact_text}

-- a value stands for one fact at most
abbrev pub IsOneFact : Type 0
IsOneFact = (d : Data) (fact other : Fact) → IsFact d fact → IsFact d other → fact ≡ other

-- what is read of bytes is the fact that they spell
abbrev pub ReadsSpelling : Type 0
ReadsSpelling = (bytes : List ℕ) (fact : Fact) → (fact_of bytes ≡ Some fact) ↔ Spells bytes fact

-- which facts can be written
abbrev pub IsWritableExactly : Type 0
IsWritableExactly = (fact : Fact) → IsWritable fact ↔ FitsFact fact

-- what is written for a fact stands for it
abbrev pub WritesFact : Type 0
WritesFact = (fact : Fact) → IsWritable fact → IsFact (data_of fact) fact

-- a fact that is written is read back
abbrev pub RoundTrips : Type 0
RoundTrips = (fact : Fact) → IsWritable fact → fact_of (fact_text fact) ≡ Some fact

-- what is written for a fact is UTF-8 text
abbrev pub IsText : Type 0
IsText = (fact : Fact) → IsWritable fact → is_utf8 (fact_text fact) ≡ true

-- facts are the same exactly where they are equal
abbrev pub SameFactsAreEqual : Type 0
SameFactsAreEqual = (fact other : Fact) → (same_fact fact other ≡ true) ↔ (fact ≡ other)

-- facts that are written as one text are read back, in their order
abbrev pub BatchRoundTrips : Type 0
BatchRoundTrips = (facts : List Fact) → AllByRecursion IsWritable facts → 1 ≤ length facts → length facts ≤ most_facts → batch_of (batch_text facts) ≡ Some facts

-- what is read as facts are as many as may be written
abbrev pub BatchIsFew : Type 0
BatchIsFew = (bytes : List ℕ) (facts : List Fact) → batch_of bytes ≡ Some facts → (1 ≤ length facts) × (length facts ≤ most_facts)
