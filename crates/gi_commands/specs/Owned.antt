-- What comes of reading a book by its name as that of a side and a point.
use Rattle.std.specs.Prelude.{◌≡◌, ◌≢◌, ℕ, List, Some, IfSome, Result, Ok, Err}
use Rattle.gi_facts.specs.declared.fact.Fact.{Fact}
use Rattle.gi_pairs.specs.declared.side.Side.{Side}
use Rattle.gi_store.specs.Copies.{BookCopyState}
use Rattle.gi_store.specs.Source.{Reading}
use Rattle.gi_store.specs.declared.owner.Owner.{Owner}
use Rattle.gi_store.specs.declared.source.BookCopy.{BookCopy}
use Rattle.gi_store.specs.declared.store_fault.StoreFault.{StoreFault}
use Rattle.gi_store.specs.declared.store_fault.StoreFault.TheVariants.{OtherBook}

-- what may come of it: the facts, or why there are none
abbrev pub FactsReading : Type 1
FactsReading = Result (List Fact) StoreFault → Type 0

-- where nothing is known
abbrev pub anything : FactsReading
anything read = Unit {0}

-- what a copy of a book tells
abbrev pub copy_state : BookCopy → BookCopyState
copy_state copy = record { owner = copy.owner; facts = copy.facts.items; log = copy.log }

-- A book that does not say whose it is counts as anybody's.
abbrev pub IsOf : Owner → BookCopyState → Type 0
IsOf owner copy = IfSome copy.owner (λ it. it ≡ owner)

-- or it says that it is another's
pub record IsOther (owner other : Owner) (copy : BookCopyState) : Type 0 where
  pub theirs : copy.owner ≡ Some other
  pub another : other ≢ owner

-- the facts of a book of that owner; another's is told as that; or why it is not read
abbrev pub facts_reading : Reading → Owner → FactsReading
facts_reading reads owner (Ok facts) = (copy : BookCopyState) × reads (Ok copy) × IsOf owner copy × (copy.facts ≡ facts)
facts_reading reads owner (Err (OtherBook other)) = (copy : BookCopyState) × reads (Ok copy) × IsOther owner other copy
facts_reading reads owner (Err why) = reads (Err why)

abbrev pub of_owner : Reading → Side → List ℕ → FactsReading
of_owner reads side point = facts_reading reads (record { side = side; point = point })
