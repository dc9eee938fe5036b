-- What holds of all that a desk keeps.
use Rattle.std.specs.Prelude.{◌≡◌, ◌≤◌, ℕ, List, length}
use Rattle.gi_pairs.specs.declared.side.Side.{Side}
use Rattle.gi_nominations.specs.Book.{Documents}
use Rattle.gi_processing.specs.Capacity.{Capacity}
use Rattle.gi_processing.specs.Readings.{ReadsAs}
use Rattle.gi_desk.specs.History.{capacity_of, documents_of}
use Rattle.gi_desk.specs.Caches.{HasInForce}
use Rattle.gi_desk.specs.Stages.{AreStages}
use Rattle.gi_desk.specs.Takings.{AreTakings}
use Rattle.gi_desk.specs.Writable.{FitsDesk}
use Rattle.gi_desk.specs.declared.kept.Kept.{Kept}
use Rattle.gi_facts.specs.declared.fact.Fact.{Fact}

-- the book and the contracts read as those that the facts record
pub record IsRunning (point : List ℕ) (facts : List Fact) (book : Documents) (contracts : Capacity) : Type 0 where
  pub at : book.point ≡ point
  pub nominations : HasInForce book.documents (documents_of facts)
  pub capacity : ReadsAs contracts (capacity_of facts)

-- what is kept beside the facts is what they come to
pub record IsKept (side : Side) (point : List ℕ) (facts : List Fact) (kept : Kept) : Type 0 where
  pub stages : AreStages side point facts kept.stages.entries
  pub running : IsRunning point facts kept.book kept.contracts
  pub numbers : AreTakings facts kept.takings.entries

-- each fact is one that it would record after those before it, and all of it can be written
pub record DeskInvariant (side : Side) (point : List ℕ) (facts : List Fact) (kept : Kept) (saved : ℕ) : Type 0 where
  pub keeps : IsKept side point facts kept
  pub within : saved ≤ length facts
  pub fits : FitsDesk side point facts
