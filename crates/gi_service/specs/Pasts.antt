-- That two books have one past, as an audit finds it.
use Rattle.std.specs.Prelude.{ℕ, List}
use Rattle.sqlite_trees.specs.declared.store.Store.{Ghosts}
use Rattle.sqlite.specs.Held.{state}
use Rattle.gi_pairs.specs.declared.side.Side.{Side}
use Rattle.gi_pairs.specs.declared.side.Side.TheVariants.{I, M}
use Rattle.gi_facts.specs.declared.fact.Fact.{Fact}
use Rattle.gi_desk.specs.Machine.{DeskState}
use Rattle.gi_audit.specs.Agreeing.{Agree}
use Rattle.gi_audit.specs.Audit.{IsAudit}
use Rattle.gi_audit.specs.declared.verdict.Verdict.TheVariants.{Differs}
use Rattle.gi_store.specs.Book.{BookState, IsRead}
use Rattle.gi_store.specs.Clean.{IsClean}
use Rattle.gi_commands.specs.Reporting.{desk_of}
use Rattle.gi_commands.specs.declared.fault.Fault.{Fault}
use Rattle.gi_commands.specs.declared.fault.Fault.TheVariants as fault
use Rattle.gi_service.specs.KeptFrom.{IsKeptFrom}

-- a book that was opened so, and its facts
pub record IsBookOf {S : Type 0} (store : Ghosts S) (opens : BookState S → Type 0) (facts : List Fact) : Type 0 where
  pub book : BookState S
  pub opened : IsKeptFrom store opens book
  pub read : IsClean store book.connection → IsRead (state store book.connection) facts

-- both books' facts make desks of the point that agree
pub record HaveOnePast {S : Type 0} (store : Ghosts S) (opens : Side → BookState S → Type 0) (point : List ℕ) : Type 0 where
  pub initiating : List Fact
  pub matching : List Fact
  pub ours : IsBookOf store (opens I) initiating
  pub theirs : IsBookOf store (opens M) matching
  pub agree : Agree (desk_of point initiating) (desk_of point matching)

-- why two desks are not taken as of one past: in this cycle they differ first; or memory ran out
abbrev pub IsPastFault : DeskState → DeskState → Fault → Type 0
IsPastFault initiating matching (fault.TwoPasts day cycle) =
    (text : List ℕ) × IsAudit initiating matching text (Differs (record { day = day; cycle = cycle }))
IsPastFault initiating matching fault.OutOfMemory = Unit {0}
IsPastFault initiating matching _ = ⊥

-- the same of the facts that two books have
abbrev pub IsPastsFault : List ℕ → Fault → Type 0
IsPastsFault point why = (initiating matching : List Fact) × IsPastFault (desk_of point initiating) (desk_of point matching) why
