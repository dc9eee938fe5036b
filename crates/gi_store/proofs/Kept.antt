-- What a save leaves of the rows where its head could not be written.
use Rattle.std.proofs.Common.{◌≡◌, ◌⊎◌, inl, inr, ℕ, ◌+◌, List, [], ◌∷◌, Option, None, Some, Result, Ok, Err, OnErr, IsTrue, refl, sym, ap, subst, ◌∙◌}
use Rattle.sqlite_trees.specs.Tree.{Trees}
use Rattle.sqlite.specs.State.{State}
use Rattle.gi_facts.specs.declared.fact.Fact.{Fact}
use Rattle.gi_facts.specs.Batch.{batch_text}
use Rattle.gi_store.specs.declared.head.Head.{Head}
use Rattle.gi_store.specs.Tables.{HasTables}
use Rattle.gi_store.specs.Keeping.{IsIdle}
use Rattle.gi_store.specs.Book.{AddsFacts, AreSaved, IsKnown, IsPut, KeepsOrPuts, KeepsOrSaves, KeepsOrSavesAll}
use Rattle.gi_store.proofs.Numbering.{saves}

-- what a crash leaves of a connection that is open is what was committed
abbrev pub IsSettled : State → Type 0
IsSettled s = (db : Trees) → IsTrue s.is_open → s.may_leave db → db ≡ s.committed.trees

pub put_saves : (n k : ℕ) (facts : List Fact) (old new : State) → IsKnown old k → n ≡ k + 1 → IsIdle new → IsSettled new → IsPut n (batch_text facts) old new → AreSaved n facts old new
put_saves n k facts old new known next idle law w = record {
  is_open = w.1;
  tables = subst HasTables (sym w.2) known.tables;
  schema = w.2;
  rows = saves old n k facts (batch_text facts) new.now.trees known next refl w.3;
  durable = λ db leaves. law db w.1 leaves ∙ sym (ap (λ d. d.trees) (idle.settled w.1));
}

pub puts_saves : (head : Option Head) (n k : ℕ) (facts : List Fact) (old new : State) → IsKnown old k → n ≡ k + 1 → IsIdle new → IsSettled new
    → KeepsOrPuts head n (batch_text facts) old new → KeepsOrSavesAll head n facts old new
puts_saves None n k facts old new known next idle law keeps = keeps
puts_saves (Some head) n k facts old new known next idle law (inl keeps) = inl keeps
puts_saves (Some head) n k facts old new known next idle law (inr puts) = inr (put_saves n k facts old new known next idle law puts)

-- a refusal that left the connection alone
pub keeps_all : (head : Option Head) (n : ℕ) (facts : List Fact) (s : State) → KeepsOrSavesAll head n facts s s
keeps_all None n facts s = record { was_open = λ up. up; same = λ _. refl }
keeps_all (Some head) n facts s = inl (record { was_open = λ up. up; same = λ _. refl })

-- of one fact
pub one_keeps : (head : Option Head) (n : ℕ) (fact : Fact) (old new : State) → KeepsOrSavesAll head n (fact ∷ []) old new → KeepsOrSaves head n fact old new
one_keeps None n fact old new keeps = keeps
one_keeps (Some head) n fact old new (inl keeps) = inl keeps
one_keeps (Some head) n fact old new (inr h) = inr (record { is_open = h.is_open; tables = h.tables; schema = h.schema; rows = h.rows; durable = h.durable })

-- what holds in any case holds of a refusal
pub on_err : {T E : Type 0} (r : Result T E) {P : Type 0} → P → OnErr r P
on_err (Ok x) p = tt
on_err (Err e) p = p

-- the rows are as they were, or those with the row of the facts after them
pub keeps_or_adds : (head : Option Head) (n : ℕ) (facts : List Fact) (old new : State) → KeepsOrSavesAll head n facts old new → IsTrue new.is_open
    → (new.now ≡ old.now) ⊎ ((new.now.schema ≡ old.now.schema) × AddsFacts old.now.schema n facts old.now.trees new.now.trees)
keeps_or_adds None n facts old new keeps is_open = inl (keeps.same is_open)
keeps_or_adds (Some head) n facts old new (inl keeps) is_open = inl (keeps.same is_open)
keeps_or_adds (Some head) n facts old new (inr saved) is_open = inr (saved.schema, saved.rows)
