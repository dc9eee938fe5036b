-- Copies of both books in memory, over which a dry run is made.
use Rattle.std.specs.Prelude.{ℕ, List, IsTrue}
use Rattle.sqlite.specs.Held.{state}
use Rattle.sqlite.specs.State.{State}
use Rattle.sqlite.specs.Steps.{over_memory}
use Rattle.gi_facts.specs.declared.fact.Fact.{Fact}
use Rattle.gi_pairs.specs.declared.side.Side.{Side}
use Rattle.gi_pairs.specs.declared.side.Side.TheVariants.{I, M}
use Rattle.gi_store.specs.Facts.{AreFacts}
use Rattle.gi_store.specs.Rows.{facts_in}
use Rattle.gi_service.specs.Pasts.{HaveOnePast}

-- the connection is open at rows that are these facts, and no others
pub record IsCopy (facts : List Fact) (s : State) : Type 0 where
  pub is_open : IsTrue s.is_open
  pub rows : AreFacts (facts_in s.now) facts

-- of both sides' facts those of this one
abbrev pub facts_of : Side → (initiating matching : List Fact) → List Fact
facts_of I initiating matching = initiating
facts_of M initiating matching = matching

-- both sides' books are in memory, as copies of these facts, which are of one past
abbrev pub HaveOnePastOf : (initiating matching : List Fact) → (point : List ℕ) → Type 0
HaveOnePastOf initiating matching point =
    HaveOnePast over_memory (λ side book. IsCopy (facts_of side initiating matching) (state over_memory book.connection)) point

-- copies of some facts, which are of one past
pub record AreCopies (point : List ℕ) : Type 0 where
  pub initiating : List Fact
  pub matching : List Fact
  pub past : HaveOnePastOf initiating matching point
