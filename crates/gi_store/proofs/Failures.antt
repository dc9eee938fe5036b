-- A statement that fails leaves the database as it was, or rolls it back.
use Rattle.std.proofs.Common.{◌≡◌, ◌⊎◌, inl, inr, ℕ, List, None, Some, Err, Option, false, sym, ◌∙◌, subst, IsTrue, IfOk, IfErr, OnOk, Ok, Result}
use Rattle.std.proofs.lemmas.Bool.{cases_Bool}
use Rattle.sqlite_value.specs.Order.{Row}
use Rattle.sqlite_schema.specs.declared.command.Returning.{Returning}
use Rattle.sqlite_resolve.specs.declared.compiled.Compiled.{Compiled}
use Rattle.sqlite_resolve.specs.declared.error.CompileError.{CompileError}
use Rattle.sqlite_resolve.specs.declared.error.CompileError.TheVariants.{Mismatch}
use Rattle.sqlite_schema.specs.declared.schema.Schema.{Schema}
use Rattle.sqlite.specs.declared.error.Error.{Error}
use Rattle.sqlite.specs.State.{State, IsUnchanged, IsRolledBack, FailsToQuery, FailsToShow, Shown, ShowsRows, IsNotRun, Fails, ExecutesIn, Executes, RunsCommand, shows_rows}
use Rattle.sqlite.specs.Clock.{timed}
use Rattle.sqlite.specs.Listing.{understood}
use Rattle.sqlite.proofs.Callers.{IsPlain}
use Rattle.gi_store.specs.Keeping.{IsIdle, Keeps}

-- the text is refused, or it is plain
abbrev pub MayRun : Schema → List ℕ → Type 0
MayRun schema sql = (understood schema sql ≡ Err Mismatch) ⊎ IsPlain (understood schema sql)

pub not_both : (schema : Schema) (sql : List ℕ) (c : Compiled) → understood schema sql ≡ Err Mismatch → understood schema sql ≡ Ok c → ⊥
not_both schema sql c refused is = let both : ◌≡◌ {A = Result Compiled CompileError} (Err Mismatch) (Ok c) = sym refused ∙ is in cc

module _ (old new : State) where
  abbrev pub IsUndone : Type 0
  IsUndone = IsUnchanged old new ⊎ IsRolledBack old new

  fails_undone : (P : Type 0) (e : Error) → Fails old new P e → IsUndone
  fails_undone P e h = inr h.3

  not_run_undone : (sql : List ℕ) (params : Row) (e : Error) → IsNotRun old new sql params e → IsUndone
  unfolding IsNotRun
  not_run_undone sql params e (inl h) = inl h.1
  not_run_undone sql params e (inr h) = fails_undone ⊥ e h

  command_undone : (sql : List ℕ) (c : Compiled) (params : Row) (e : Error) → RunsCommand old new sql c params (Err e) → IsUndone
  command_undone sql c params e (inl h) = inl h.1
  command_undone sql c params e (inr h) = inr h.3

  show_undone : (sql : List ℕ) (c : Compiled) (params : Row) (e : Error) (r : Option Returning) → FailsToShow old new sql c params e r → IsUndone
  show_undone sql c params e None h = inl h.3
  show_undone sql c params e (Some what) h = command_undone sql c params e h

  pub query_undone : (sql : List ℕ) (params : Row) (e : Error) → FailsToQuery sql params old new e → IsUndone
  unfolding FailsToQuery
  query_undone sql params e (inl h) = not_run_undone sql params e h
  query_undone sql params e (inr h) = show_undone sql h.0 _ e _ h.2

  pub run_undone : (sql : List ℕ) (params : Row) (e : Error) → Executes sql params old new (Err e) → IsUndone
  unfolding ExecutesIn
  run_undone sql params e (inl h) = not_run_undone sql params e h
  run_undone sql params e (inr h) = elim (cases_Bool (shows_rows false h.0)) [
    | inl shows ↦ inl (rw shows at h.2).1
    | inr runs ↦ command_undone sql h.0 _ e (rw runs at h.2)
  ]

  pub undone_keeps : IsIdle old → IsUndone → Keeps old new
  undone_keeps idle (inl h) = record { was_open = λ _. h.0.was_open; same = λ _. h.0.now_is }
  undone_keeps idle (inr h) = record { was_open = h.was_open; same = λ up. (h.undone up).0 ∙ sym (idle.settled (h.was_open up)) }

  pub undone_idle : IsIdle old → IsUndone → IsIdle new
  undone_idle idle (inl h) = record {
    autocommit = h.0.mode ∙ idle.autocommit;
    settled = λ up. h.0.now_is ∙ (idle.settled h.0.was_open ∙ sym h.0.committed_is);
  }
  undone_idle idle (inr h) = record {
    autocommit = h.autocommit;
    settled = λ up. (h.undone up).0 ∙ sym (h.undone up).1;
  }

  shows_opened : (sql : List ℕ) (c : Compiled) (params : Row) (rows : List Row) (r : Option Returning) → ShowsRows old new sql c params rows r → IsTrue old.is_open
  shows_opened sql c params rows None h = h.3.0.was_open
  shows_opened sql c params rows (Some what) h = h.1.shown.was_open

  pub shown_opened : (sql : List ℕ) (params : Row) (rows : List Row) → Shown sql params old new rows → IsTrue old.is_open
  unfolding Shown
  shown_opened sql params rows h = shows_opened sql h.0 _ rows _ h.2

  pub shown_same : (sql : List ℕ) (params : Row) (rows : List Row) → MayRun old.now.schema sql → Shown sql params old new rows → IsUnchanged old new
  unfolding Shown
  shown_same sql params rows (inl refused) h = absurd (not_both old.now.schema sql h.0 refused h.1.is)
  shown_same sql params rows (inr plain) h =
      let none = (subst IsPlain h.1.is plain).0 in
      (subst (ShowsRows old new sql h.0 (timed params h.0.formats h.1.now) rows) none h.2).3

  pub queried : {X : Type 0} (sql : List ℕ) (params : Row) (items : X → List Row) (r : Result X Error) → MayRun old.now.schema sql
      → IfOk r (λ x. Shown sql params old new (items x)) → IfErr r (FailsToQuery sql params old new) → IsUndone
  queried sql params items (Ok x) plain ok err = inl (shown_same sql params (items x) plain ok)
  queried sql params items (Err e) plain ok err = query_undone sql params e err

  pub query_opened : {X : Type 0} (sql : List ℕ) (params : Row) (items : X → List Row) (r : Result X Error) → MayRun old.now.schema sql
      → IfOk r (λ x. Shown sql params old new (items x)) → OnOk r (IsTrue new.is_open)
  query_opened sql params items (Ok x) plain ok = (shown_same sql params (items x) plain ok).0.is_open
  query_opened sql params items (Err e) plain ok = tt
