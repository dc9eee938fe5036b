-- Why the queries of the book fail.
use Rattle.std.proofs.Common.{◌≡◌, inl, inr, ℕ, ◌≤◌, ◌^◌, List, [], Any, Bool, true, false, Option, IsSome, IsTrue, IfErr, Ok, Err, Result, refl, sym, ap, subst, subst₂, ◌∙◌, arith}
use Rattle.std.proofs.lemmas.Bool.{lt-leb}
use Rattle.sqlite_value.specs.Order.{Row}
use Rattle.sqlite_trees.specs.Tree.{Trees}
use Rattle.sqlite_trees.specs.declared.error.StoreError.{StoreError}
use Rattle.sqlite_trees.specs.declared.error.StoreError.TheVariants.{OutOfMemory, Io, Corrupt, Full, Broken, Unstorable}
use Rattle.sqlite_schema.specs.declared.schema.Schema.{Schema}
use Rattle.sqlite_typing.specs.Types.{accepts_program}
use Rattle.sqlite.specs.declared.error.Error.{Error}
use Rattle.sqlite.specs.Command.TheVariants.{Select}
use Rattle.sqlite.specs.Effect.{Database, RefusesToRead}
use Rattle.sqlite.specs.Program.{ProgramOverflows}
use Rattle.sqlite.specs.Query.{Query}
use Rattle.sqlite.specs.Listing.{understood, IsSourceOf}
use Rattle.sqlite.specs.State.{State, HasCleanDisk, Survives, Fails, HasCause, store_error, IsNoStatement, IsNotRun, FailsToQuery}
use Rattle.sqlite.proofs.Callers.{IsPlain, command_of}
use Rattle.gi_store.specs.declared.store_fault.StoreFault.{StoreFault}
use Rattle.gi_store.specs.declared.store_fault.StoreFault.TheVariants.{Store}
use Rattle.gi_store.specs.FaultText.{fault_of}
use Rattle.gi_store.specs.Tables.{HasOwnerTable, HasTables, book_table, facts_table, owner_table, book_tree, facts_tree, owner_tree}
use Rattle.gi_store.specs.Rows.{facts_in}
use Rattle.gi_store.specs.Order.{ArePutInOrder}
use Rattle.gi_store.specs.Facts.{IsReadFault}
use Rattle.gi_store.specs.Keeping.{IsBook, Keeps}
use Rattle.gi_store.specs.Book.{IsLoadCaused}
use Rattle.gi_store.specs.Failing.{HasFailed, Endures, IsFirst, HaveOwnTrees, HasOwnTree, FailsToRead, IsCaused, IsCausedAtAll}
use Rattle.gi_store.proofs.Texts.{read_version, read_name, read_facts, version_query, facts_query, IsQuery, IsWhole}
use Rattle.gi_store.proofs.Readings.{version_place, name_place, facts_place}

-- ---- from call to call

pub endures : (old new : State) (P : Trees → Type 0) → Survives old new P → HasCleanDisk new → Endures old new
endures old new P s clean = record { faults = s.counts; limit = s.limit; closes = s.closes clean }

pub endures_still : (s : State) → Endures s s
endures_still s = record { faults = omega arith; limit = refl; closes = λ up. inl up }

failed_before : (a b c : State) → HasFailed a b → b.faults ≤ c.faults → HasFailed a c
failed_before a b c h up = omega arith

failed_after : (a b c : State) → a.faults ≤ b.faults → HasFailed b c → HasFailed a c
failed_after a b c up h = omega arith

pub endures_then : (a b c : State) → Endures a b → Endures b c → Endures a c
endures_then a b c p q = record {
  faults = omega (arith, p.faults, q.faults);
  limit = q.limit ∙ p.limit;
  closes = λ up. elim (p.closes up) [
    | inl still ↦ elim (q.closes still) [ inl last ↦ inl last | inr failed ↦ inr (failed_after a b c p.faults failed) ]
    | inr failed ↦ inr (failed_before a b c failed q.faults)
  ];
}

shut_not : (b : Bool) → IsTrue b → b ≡ false → ⊥
shut_not true up is = cc
shut_not false up is = cc

pub reads_later : (a b c : State) → Endures a b → IsTrue b.is_open → b.now ≡ a.now → FailsToRead b c → FailsToRead a c
reads_later a b c p up same (inl failed) = inl (failed_after a b c p.faults failed)
reads_later a b c p up same (inr (inl shut)) = absurd (shut_not b.is_open up shut)
reads_later a b c p up same (inr (inr (inl limit))) = inr (inr (inl (subst IsSome p.limit limit)))
reads_later a b c p up same (inr (inr (inr shared))) = inr (inr (inr (subst (λ (d : Database). ¬ HaveOwnTrees d.schema) same shared)))

-- ---- where the owner is read too

pub at_all : (old new : State) (fault : StoreFault) → IsCaused old new fault → IsCausedAtAll old new fault
at_all old new Store h = inl h
at_all old new _ h = tt

pub at_all_later : (a b c : State) (fault : StoreFault) → Endures a b → IsTrue b.is_open → b.now ≡ a.now → IsCausedAtAll b c fault → IsCausedAtAll a c fault
at_all_later a b c Store p up same (inl read) = inl (reads_later a b c p up same read)
at_all_later a b c Store p up same (inr shared) = inr (subst (λ (d : Database). ¬ HasOwnTree d.schema) same shared)
at_all_later a b c _ p up same h = tt

pub caused_later : (a b c : State) {X : Type 0} (r : Result X StoreFault) → Endures a b → IsTrue b.is_open → b.now ≡ a.now → IfErr r (IsCausedAtAll b c) → IfErr r (IsCausedAtAll a c)
caused_later a b c (Ok x) p up same h = tt
caused_later a b c (Err fault) p up same h = at_all_later a b c fault p up same h

-- ---- a load

pub load_later : (a b c : State) (fault : StoreFault) → Endures a b → Keeps a b → IsTrue b.is_open → IsCaused b c fault → IsLoadCaused a c fault
load_later a b c Store p keeps up h = inl (reads_later a b c p up (keeps.same up) h)
load_later a b c _ p keeps up h = tt

pub load_at_once : (a b : State) (fault : StoreFault) → IsCaused a b fault → IsLoadCaused a b fault
load_at_once a b Store h = inl h
load_at_once a b _ h = tt

stops : (a c : State) (rows : List Row) (fault : StoreFault) → IsBook a.now → ArePutInOrder (facts_in a.now) rows → IsReadFault rows fault → IsLoadCaused a c fault
stops a c rows Store book order h = inr (record { book = book; ordered = rows; order = order; stops = h })
stops a c rows _ book order h = tt

pub read_failed : (a b c : State) (rows : List Row) {X : Type 0} (r : Result X StoreFault) → Keeps a b → Keeps b c → IsTrue c.is_open → IsBook b.now → ArePutInOrder (facts_in c.now) rows
    → IfErr r (IsReadFault rows) → IfErr r (IsLoadCaused a c)
read_failed a b c rows (Ok x) first then up book order h = tt
read_failed a b c rows (Err fault) first then up book order h =
    let one = first.same (then.was_open up) in
    let two = then.same up in
    stops a c rows fault (subst (λ (d : Database). IsBook d) one book) (subst (λ (d : Database). ArePutInOrder (facts_in d) rows) (two ∙ one) order) h

-- ---- the causes

caused : (old new : State) (fault : StoreFault) → FailsToRead old new → IsCaused old new fault
caused old new Store h = h
caused old new _ h = tt

no_element : {X : Type 0} (xs : List X) → Any (λ x. ⊥) xs → ⊥
no_element xs h = h.4

by_store : (old new : State) (cause : StoreError) → HasCause old new ⊥ cause → IsCaused old new (fault_of (store_error cause))
by_store old new OutOfMemory h = tt
by_store old new Io h = inl h
by_store old new Corrupt h = inl h
by_store old new Full h = inl h
by_store old new Broken h = inr (inl h)
by_store old new Unstorable h = absurd h

store_failed : (old new : State) (e : Error) → Fails old new ⊥ e → IsCaused old new (fault_of e)
store_failed old new e h = subst (λ x. IsCaused old new (fault_of x)) (sym h.1) (by_store old new h.0 h.2)

is_statement : (s : State) (sql : List ℕ) (e : Error) → IsPlain (understood s.now.schema sql) → IsWhole sql (understood s.now.schema sql) → IsNoStatement s sql [] e → ⊥
is_statement s sql e plain whole (inl h) = subst IsPlain h.1 plain
is_statement s sql e plain whole (inr h) =
    let bare = subst IsPlain h.1 plain in
    let all = subst (IsWhole sql) h.1 whole in
    elim h.2 [
      | inl long ↦ long.0 all.0
      | inr other ↦ elim other [ inl count ↦ count.0 (sym all.1) | inr clock ↦ clock.0 bare.1 ]
    ]

refuses_less : (limit : Option ℕ) (db : Database) (q : Query) (names : List (List ℕ)) (e : Error) → accepts_program db.schema [] q [] ≡ true → ¬ ProgramOverflows db.trees [] [] [] q
    → RefusesToRead limit (Select (record { lets = []; body = q }) names) db [] e → IsSome limit
refuses_less limit db q names e typed sure (inl h) = absurd (let no : true ≡ false = sym typed ∙ h.1 in cc)
refuses_less limit db q names e typed sure (inr (inl h)) = absurd (sure h.1)
refuses_less limit db q names e typed sure (inr (inr h)) = h.1

query_failed : (old new : State) (sql : List ℕ) (q : Query) (names : List (List ℕ)) (e : Error) → IsQuery old.now.schema sql q names → ¬ ProgramOverflows old.now.trees [] [] [] q
    → FailsToQuery sql [] old new e → IsCaused old new (fault_of e)
unfolding FailsToQuery IsNotRun
query_failed old new sql q names e asked sure (inl (inl h)) = absurd (is_statement old sql e asked.plain asked.whole h.0)
query_failed old new sql q names e asked sure (inl (inr h)) = store_failed old new e h
query_failed old new sql q names e asked sure (inr h) =
    let bare = subst IsPlain h.1.is asked.plain in
    let it = rw (bare.0, bare.1) at h.2 in
    let db : it.0 ≡ old.now = subst (λ b. IsSourceOf b old.now it.0) asked.unlisted it.1 in
    let command = ap command_of (sym h.1.is) ∙ asked.command in
    caused old new (fault_of e) (inr (inr (inl (refuses_less old.step_limit old.now q names e asked.typed sure (subst₂ (λ k d. RefusesToRead old.step_limit k d [] e) command db it.2)))))

-- ---- the three queries

own_version : (schema : Schema) (tree : ℕ) → IsFirst schema (book_table tree) → accepts_program schema [] (version_query tree) [] ≡ true
own_version schema tree own = rw (lt-leb (2 ^ 31) tree own.0, own.1) refl

own_name : (schema : Schema) (tree : ℕ) → IsFirst schema (owner_table tree) → accepts_program schema [] (version_query tree) [] ≡ true
own_name schema tree own = rw (lt-leb (2 ^ 31) tree own.0, own.1) refl

own_facts : (schema : Schema) (tree : ℕ) → IsFirst schema (facts_table tree) → accepts_program schema [] (facts_query tree) [] ≡ true
own_facts schema tree own = rw (lt-leb (2 ^ 31) tree own.0, own.1) refl

sure_version : (db : Trees) (tree : ℕ) → ¬ ProgramOverflows db [] [] [] (version_query tree)
sure_version db tree (inl h) = h
sure_version db tree (inr h) = no_element _ h

sure_facts : (db : Trees) (tree : ℕ) → ¬ ProgramOverflows db [] [] [] (facts_query tree)
sure_facts db tree (inl h) = h
sure_facts db tree (inr h) = no_element _ h

pub version_failed : (old new : State) {X : Type 0} (r : Result X Error) → HasTables old.now.schema → IfErr r (FailsToQuery read_version [] old new) → IfErr r (λ e. IsCaused old new (fault_of e))
version_failed old new (Ok x) has h = tt
version_failed old new (Err e) has h = elim (version_place old has) [
  | inl refused ↦ caused old new (fault_of e) (inr (inr (inr (λ own. absurd (let no : true ≡ false = sym (own_version old.now.schema (book_tree old.now.schema) own.0) ∙ refused.1 in cc)))))
  | inr asked ↦ query_failed old new read_version (version_query (book_tree old.now.schema)) _ e asked (sure_version old.now.trees (book_tree old.now.schema)) h
]

shared_tree : (old new : State) (fault : StoreFault) → ¬ HasOwnTree old.now.schema → IsCausedAtAll old new fault
shared_tree old new Store h = inr h
shared_tree old new _ h = tt

pub name_failed : (old new : State) {X : Type 0} (r : Result X Error) → HasOwnerTable old.now.schema → IfErr r (FailsToQuery read_name [] old new) → IfErr r (λ e. IsCausedAtAll old new (fault_of e))
name_failed old new (Ok x) has h = tt
name_failed old new (Err e) has h = elim (name_place old has) [
  | inl refused ↦ shared_tree old new (fault_of e) (λ own. absurd (let no : true ≡ false = sym (own_name old.now.schema (owner_tree old.now.schema) own) ∙ refused.1 in cc))
  | inr asked ↦ at_all old new (fault_of e) (query_failed old new read_name (version_query (owner_tree old.now.schema)) _ e asked (sure_version old.now.trees (owner_tree old.now.schema)) h)
]

pub facts_failed : (old new : State) {X : Type 0} (r : Result X Error) → HasTables old.now.schema → IfErr r (FailsToQuery read_facts [] old new) → IfErr r (λ e. IsCaused old new (fault_of e))
facts_failed old new (Ok x) has h = tt
facts_failed old new (Err e) has h = elim (facts_place old has) [
  | inl refused ↦ caused old new (fault_of e) (inr (inr (inr (λ own. absurd (let no : true ≡ false = sym (own_facts old.now.schema (facts_tree old.now.schema) own.1) ∙ refused.1 in cc)))))
  | inr asked ↦ query_failed old new read_facts (facts_query (facts_tree old.now.schema)) _ e asked (sure_facts old.now.trees (facts_tree old.now.schema)) h
]
