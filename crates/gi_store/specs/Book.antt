-- What contracts see of a book, and what is always true of it.
use Rattle.std.specs.Prelude.{◌≡◌, ◌≢◌, ◌⊎◌, ℕ, ◌+◌, ◌<◌, ◌==◌, nat_lt, if◌then◌else◌, List, [], ◌∷◌, ◌++◌, length, ⊤, Option, Some, None, Result, Err, IfSome, IfErr, MatchBool, MatchOption, IsTrue, refl}
use Rattle.std.specs.Coded.{Coded, code_by, coded×, coded_list, coded_ℕ, coded_option}
use Rattle.sqlite_value.specs.Order.{Row}
use Rattle.sqlite_trees.specs.Tree.{Trees}
use Rattle.sqlite_schema.specs.declared.schema.Schema.{Schema}
use Rattle.sqlite_rules.specs.Edit.{IsNoIndex}
use Rattle.sqlite.specs.State.{State}
use Rattle.sqlite.specs.Held.{Held, held_code}
use Rattle.gi_facts.specs.declared.fact.Fact.{Fact}
use Rattle.gi_facts.specs.Batch.{batch_text}
use Rattle.gi_facts.specs.Writing.{fact_text}
use Rattle.gi_store.specs.declared.head.Head.{Head}
use Rattle.gi_store.specs.declared.store_fault.StoreFault.{StoreFault}
use Rattle.gi_store.specs.declared.store_fault.StoreFault.TheVariants.{Version, Gap, Damaged, BatchSize, NotLoaded, NotNext, Store, OutOfMemory}
use Rattle.gi_store.specs.FaultText.{IsFailure}
use Rattle.gi_store.specs.Tables.{HasTables, facts_tree}
use Rattle.gi_store.specs.Rows.{fact_rows, facts_in, row_of}
use Rattle.gi_store.specs.Order.{ArePutInOrder}
use Rattle.gi_store.specs.Facts.{AreFacts, StopsIn}
use Rattle.gi_store.specs.Batches.{is_batch}
use Rattle.gi_store.specs.Failing.{FailsToRead}
use Rattle.gi_store.specs.Keeping.{IsBook, IsIdle, Keeps, PutsRow}

-- the connection, how many facts are known since the last `load`, and the head that is kept beside the book, as it was written last
pub record BookState (S : Type 0) : Type 0 where
  pub connection : Held S
  pub loaded : Option ℕ
  pub head : Option Head

abbrev pub head_code : Coded Head
head_code = code_by (ℕ × List ℕ) (coded× coded_ℕ (coded_list coded_ℕ)) (λ h. (h.facts, h.digest.bytes)) (λ p. record { facts = p.0; digest = record { bytes = p.1 } }) (λ _. refl)

abbrev pub book_code : {S : Type 0} → Coded S → Coded (BookState S)
book_code {S} store = code_by (Held S × (Option ℕ × Option Head)) (coded× (held_code store) (coded× (coded_option coded_ℕ) (coded_option head_code)))
    (λ b. (b.connection, (b.loaded, b.head))) (λ p. record { connection = p.0; loaded = p.1.0; head = p.1.1 }) (λ _. refl)

-- the connection is open at a book whose rows cover the numbers 1 to k with facts
pub record IsKnown (s : State) (k : ℕ) : Type 0 where
  pub is_open : IsTrue s.is_open
  pub tables : HasTables s.now.schema
  pub facts : List Fact
  pub rows : AreFacts (facts_in s.now) facts
  pub count : length facts ≡ k

-- A book between its calls: nothing waits to be committed, and where it is loaded, its rows are known.
pub record BookInvariant (s : State) (loaded : Option ℕ) : Type 0 where
  pub idle : IsIdle s
  pub known : IfSome loaded (IsKnown s)

-- A book counts its facts up to 4,294,967,294, so that the number that comes next is always a u32. With more it counts as not loaded.
abbrev pub counted : ℕ → Option ℕ
counted n = if nat_lt n 4294967295 then Some n else None

abbrev pub IsCounted : Option ℕ → Type 0
IsCounted loaded = IfSome loaded (λ k. k < 4294967295)

-- A head is kept with a loaded book alone, and tells as many facts as it has.
abbrev pub IsToldOf : Option ℕ → Option Head → Type 0
IsToldOf loaded head = IfSome head (λ h. loaded ≡ Some h.facts)

-- ---- load

-- the connection is open at a book, of version 1 or 2, whose rows are these facts
pub record IsRead (s : State) (facts : List Fact) : Type 0 where
  pub is_open : IsTrue s.is_open
  pub book : IsBook s.now
  pub rows : AreFacts (facts_in s.now) facts

-- A book whose rows, in the order of their numbers, cover the numbers from 1 on with facts up to one of them, which is refused.
pub record Stops (s : State) (fault : StoreFault) : Type 0 where
  pub book : IsBook s.now
  pub ordered : List Row
  pub order : ArePutInOrder (facts_in s.now) ordered
  pub stops : StopsIn ordered fault

-- Why a book is not loaded; the cause of a failure of the database is told by `IsLoadCaused`. Want of memory has none here: SQLite may tell it
-- of any statement, for no cause that its clauses name, and it then leaves the connection as an answer would. What rows are refused for tells more (`IsReadFault`).
abbrev pub IsLoadFault : State → StoreFault → Type 0
IsLoadFault s Version = ¬ IsBook s.now
IsLoadFault s (Gap n) = Stops s (Gap n)
IsLoadFault s (Damaged n) = Stops s (Damaged n)
IsLoadFault s Store = ⊤
IsLoadFault s OutOfMemory = ⊤
IsLoadFault s _ = ⊥

-- Why a load tells `Store`: the rows could not be read, or one has no whole number or no body, which no row of a book's tables lacks.
abbrev pub IsLoadCaused : State → State → StoreFault → Type 0
IsLoadCaused old new Store = FailsToRead old new ⊎ Stops old Store
IsLoadCaused old new _ = ⊤

-- ---- save_next

-- the row of the fact comes after the others, and all else but the indexes stays
abbrev pub AddsFact : Schema → ℕ → Fact → Trees → Trees → Type 0
AddsFact schema n fact old new = (fact_rows schema new ≡ fact_rows schema old ++ row_of n (fact_text fact) ∷ []) × ((t : ℕ) → t ≢ facts_tree schema → IsNoIndex schema t → new t ≡ old t)

-- the fact's row is there, and each crash from now on leaves it
pub record IsSaved (n : ℕ) (fact : Fact) (old new : State) : Type 0 where
  pub is_open : IsTrue new.is_open
  pub tables : HasTables new.now.schema
  pub schema : new.now.schema ≡ old.now.schema
  pub rows : AddsFact old.now.schema n fact old.now.trees new.now.trees
  pub durable : (db : Trees) → new.may_leave db → db ≡ new.now.trees

-- a crash leaves what it could leave before, or that with the fact's row
abbrev pub SavesOrLeaves : ℕ → Fact → State → State → Type 0
SavesOrLeaves n fact old new = (db : Trees) → new.may_leave db → old.may_leave db ⊎ AddsFact old.now.schema n fact old.now.trees db

-- Where rows are known, a crash leaves the rows as they were, or those with the fact's row.
abbrev pub SavesOrNot : ℕ → Fact → Option ℕ → State → State → Type 0
SavesOrNot n fact loaded old new = IfSome loaded (λ _. (db : Trees) → new.may_leave db → (db ≡ old.now.trees) ⊎ AddsFact old.now.schema n fact old.now.trees db)

-- After a refusal nothing is written; or, where a head is kept, the row is there and the head could not be written.
abbrev pub KeepsOrSaves : Option Head → ℕ → Fact → State → State → Type 0
KeepsOrSaves None n fact old new = Keeps old new
KeepsOrSaves (Some head) n fact old new = Keeps old new ⊎ IsSaved n fact old new

-- the answer where so many facts are known: another number is refused, and the next one may fail
abbrev pub AnswersNext : ℕ → ℕ → Result (Unit {0}) StoreFault → Type 0
AnswersNext n k result = MatchBool (n == k + 1) (IfErr result IsFailure) (result ≡ Err (NotNext (k + 1)))

-- the answer to `save_next n`, in the order of its refusals
abbrev pub AnswersSave : ℕ → Option ℕ → Result (Unit {0}) StoreFault → Type 0
AnswersSave n loaded result = MatchOption loaded (result ≡ Err NotLoaded) (λ k. AnswersNext n k result)

-- ---- save_batch

-- the row of the facts comes after the others, and all else but the indexes stays
abbrev pub AddsFacts : Schema → ℕ → List Fact → Trees → Trees → Type 0
AddsFacts schema n facts old new = (fact_rows schema new ≡ fact_rows schema old ++ row_of n (batch_text facts) ∷ []) × ((t : ℕ) → t ≢ facts_tree schema → IsNoIndex schema t → new t ≡ old t)

-- the row of the facts is there, and each crash from now on leaves it
pub record AreSaved (n : ℕ) (facts : List Fact) (old new : State) : Type 0 where
  pub is_open : IsTrue new.is_open
  pub tables : HasTables new.now.schema
  pub schema : new.now.schema ≡ old.now.schema
  pub rows : AddsFacts old.now.schema n facts old.now.trees new.now.trees
  pub durable : (db : Trees) → new.may_leave db → db ≡ new.now.trees

-- a crash leaves what it could leave before, or that with the row of the facts
abbrev pub SavesAllOrLeaves : ℕ → List Fact → State → State → Type 0
SavesAllOrLeaves n facts old new = (db : Trees) → new.may_leave db → old.may_leave db ⊎ AddsFacts old.now.schema n facts old.now.trees db

-- Where facts are known, a crash leaves the rows as they were, or those with the row of the facts.
abbrev pub SavesAllOrNone : ℕ → List Fact → Option ℕ → State → State → Type 0
SavesAllOrNone n facts loaded old new = IfSome loaded (λ _. (db : Trees) → new.may_leave db → (db ≡ old.now.trees) ⊎ AddsFacts old.now.schema n facts old.now.trees db)

-- the row with this number and this text was put, by a connection that was open and is
abbrev pub IsPut : ℕ → List ℕ → State → State → Type 0
IsPut n text old new = IsTrue old.is_open × IsTrue new.is_open × (new.now.schema ≡ old.now.schema) × PutsRow old.now.schema n text old.now.trees new.now.trees

abbrev pub KeepsOrPuts : Option Head → ℕ → List ℕ → State → State → Type 0
KeepsOrPuts None n text old new = Keeps old new
KeepsOrPuts (Some head) n text old new = Keeps old new ⊎ IsPut n text old new

-- After a refusal nothing is written; or, where a head is kept, the row is there and the head could not be written.
abbrev pub KeepsOrSavesAll : Option Head → ℕ → List Fact → State → State → Type 0
KeepsOrSavesAll None n facts old new = Keeps old new
KeepsOrSavesAll (Some head) n facts old new = Keeps old new ⊎ AreSaved n facts old new

-- the answer to `save_batch n`, in the order of its refusals
abbrev pub AnswersBatch : ℕ → List Fact → Option ℕ → Result (Unit {0}) StoreFault → Type 0
AnswersBatch n facts loaded result = MatchBool (is_batch facts) (AnswersSave n loaded result) (result ≡ Err BatchSize)
