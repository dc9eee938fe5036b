-- What UPDATE makes of a book: the row of its version is another, and all else stays.
use Rattle.std.proofs.Common.{◌≡◌, ◌≢◌, inl, inr, ℕ, ◌==◌, pos, List, [], ◌∷◌, length, map, codes, bytes_eq, slice_get, true, false, None, Some, Ok, Err, Result, Option, refl, sym, ap, subst, ◌∙◌, arith, IsTrue, OnOk, eq-eqb, eqb-true}
use Rattle.std.specs.List.{AllByRecursion, filter_map, flat_map, list_any}
use Rattle.std.specs.List.Sorted.{IsPermutation}
use Rattle.std.proofs.lemmas.Bool.{cases_Bool}
use Rattle.std.proofs.lemmas.List.Sorted.{IsPermutation-map}
use Rattle.std.proofs.lemmas.Slice.Eq.{bytes_eq-Decides}
use Rattle.sqlite_value.specs.declared.value.Value.TheVariants.{Null, Int}
use Rattle.sqlite_value.specs.Order.{Row, column, value_cmp}
use Rattle.sqlite_value.proofs.OrderLemmas.{value_cmp-Int}
use Rattle.std.specs.declared.cmp.Ordering.TheVariants.{Equal}
use Rattle.sqlite_schema.specs.declared.schema.Keys.{Keys}
use Rattle.sqlite_schema.specs.declared.schema.Reference.{Reference}
use Rattle.sqlite_schema.specs.Names.{same_name}
use Rattle.sqlite_schema.specs.Rules.{ParentKey, parent_key}
use Rattle.sqlite_rules.specs.declared.action.Deed.{Deed}
use Rattle.sqlite_rules.specs.declared.error.Rowids.TheVariants.{Given}
use Rattle.sqlite_rules.specs.Action.{pairs, works, work_for, work_by, deed_for}
use Rattle.sqlite_rules.specs.Calls.{ids_of}
use Rattle.sqlite_rules.specs.Edit.{Edit, taken_by}
use Rattle.sqlite_rules.specs.Lists.{Has}
use Rattle.sqlite_rules.proofs.ListLemmas.{all_has, some_from}
use Rattle.sqlite_rules.proofs.PlaceLemmas.{named_parent}
use Rattle.sqlite_resolve.specs.declared.error.CompileError.TheVariants.{Mismatch}
use Rattle.sqlite.specs.Command.TheVariants.{Update}
use Rattle.sqlite.specs.Does.{Tally, Does}
use Rattle.sqlite.specs.Edit.{edit_of, edited}
use Rattle.sqlite.specs.Effect.{Database, Answers}
use Rattle.sqlite.specs.Listing.{understood}
use Rattle.sqlite.specs.Program.{overlay}
use Rattle.sqlite.specs.Query.{IsAnswer, output, Output}
use Rattle.sqlite.specs.Rows.{Written}
use Rattle.sqlite.specs.Schema.{Schema}
use Rattle.sqlite.specs.Held.{Held, state}
use Rattle.sqlite.specs.State.{State, mode_of, Executes, ExecutesIn, ExecutesInside, HasCleanDisk, KeepsCommit, Survives}
use Rattle.sqlite.specs.declared.error.Error.{Error}
use Rattle.sqlite_trees.specs.declared.store.Store.{Ghosts}
use Rattle.sqlite.proofs.InsideLemmas.{inside_keeps}
use Rattle.sqlite.specs.Table.{Table}
use Rattle.sqlite.specs.Tree.{Trees}
use Rattle.sqlite.proofs.Callers.{IsPlain, command_of, statement_of, one_permutation, one_step, runs_as}
use Rattle.gi_store.specs.Tables.{HasOwnerTable, HasTables, StandsAlone, book_table, facts_table, owner_table, book_tree, facts_tree, owner_tree, refers_to_book, shares_tree}
use Rattle.gi_store.specs.Rows.{HasName, both_columns, kept_version, version_row}
use Rattle.gi_store.specs.Keeping.{IsBook, KeepsOthers, SetsVersion}
use Rattle.gi_store.proofs.Failures.{not_both}
use Rattle.gi_store.proofs.Listed.{IsAt, is_at, is_listed}
use Rattle.gi_store.proofs.Meanings.{cast_null, cast_number, same_value, went}
use Rattle.gi_store.proofs.Readings.{overlay_of, staged_rows, whole}
use Rattle.gi_store.proofs.Texts.{set_as, set_query, set_version}

-- ---- the one row

-- what is asked for of it: its rowid, and the row with the other version
set_row : Row
set_row = Int (pos 1) ∷ Int (pos 1) ∷ Null ∷ Int (pos 2) ∷ []

lone : (rows : List Row) (n : ℕ) → map both_columns rows ≡ version_row n ∷ [] → (row : Row) × (rows ≡ row ∷ []) × (column row 0 ≡ Int (pos 1))
lone [] n h = absurd cc
lone (row ∷ []) n h = (row, refl, (let e = h in cc))
lone (row ∷ more ∷ rest) n h = absurd (let e = h in cc)

set_rows : (old : Database) (tree : ℕ) (row : Row) (rows : List Row) → old.trees tree ≡ row ∷ [] → column row 0 ≡ Int (pos 1) → Answers old (record { lets = []; body = set_query tree }) [] rows → rows ≡ set_row ∷ []
unfolding set_row
set_rows old tree row rows one first got =
    let a : IsAnswer (set_query tree) (overlay old.trees []) [] rows = got.answer Null in
    let staged : a.staged ≡ map (λ r. [] ∷ r ∷ []) (old.trees tree) = a.grouped ∙ (staged_rows (overlay old.trees [] tree) ∙ ap (map (λ r. [] ∷ r ∷ [])) (overlay_of old.trees tree)) in
    let all : a.kept ≡ map (output (set_query tree)) (([] ∷ row ∷ []) ∷ []) = a.distinct ∙ ap (map (output (set_query tree))) (staged ∙ ap (map (λ r. [] ∷ r ∷ [])) one) in
    let kept : map (λ (o : Output). o.1) a.kept ≡ set_row ∷ [] = ap (map (λ (o : Output). o.1)) all ∙ rw first refl in
    let same = IsPermutation-map (λ (o : Output). o.1) a.kept a.ordered a.same in
    let shown : rows ≡ map (λ (o : Output). o.1) a.ordered = a.shown ∙ whole _ in
    one_permutation set_row rows (subst (λ l. IsPermutation (set_row ∷ []) l) (sym shown) (subst (λ l. IsPermutation l (map (λ (o : Output). o.1) a.ordered)) kept same))

-- ---- no foreign key acts

not_shared : (tree : ℕ) (tables : List Table) (t : Table) → list_any (shares_tree tree) tables ≡ false → Has tables t → shares_tree tree t ≡ false
not_shared tree tables t none h = elim (cases_Bool (shares_tree tree t)) [
  | inl shares ↦ absurd (let no : true ≡ false = sym (some_from (shares_tree tree) tables t h shares) ∙ none in cc)
  | inr not_so ↦ not_so
]

-- a table with that tree is the one of the version
is_book_by_tree : (tree : ℕ) (t : Table) → shares_tree tree t ≡ false → t.tree ≡ tree → t.name ≡ codes "book"
is_book_by_tree tree t none same =
    let hit : (t.tree == tree) ≡ true = eq-eqb t.tree tree same in
    elim (cases_Bool (bytes_eq t.name (codes "book"))) [
      | inl named ↦ (bytes_eq-Decides t.name (codes "book")).0 named
      | inr other ↦ absurd (let no : true ≡ false = rw (hit, other) at none in cc)
    ]

not_referred : (tables : List Table) (child : Table) (ref : Reference) → list_any refers_to_book tables ≡ false → Has tables child → Has child.references ref → same_name (codes "book") ref.parent ≡ true → ⊥
not_referred tables child ref none h k named =
    let refers : refers_to_book child ≡ true = some_from (λ (r : Reference). same_name (codes "book") r.parent) child.references ref k named in
    let no : true ≡ false = sym (some_from refers_to_book tables child h refers) ∙ none in
    cc

no_work : (depth tree : ℕ) (moves : List (Row × Row)) (child : Table) (ref : Reference) (o : Option Deed) (k : Option ParentKey) → ((key : ParentKey) → k ≡ Some key → key.0 ≡ tree → ⊥) → work_by depth tree moves child ref o k ≡ None
no_work depth tree moves child ref None k other = refl
no_work depth tree moves child ref (Some deed) None other = refl
no_work depth tree moves child ref (Some deed) (Some key) other = elim (cases_Bool (key.0 == tree)) [
  | inl same ↦ absurd (other key refl (eqb-true key.0 tree same))
  | inr differs ↦ rw differs refl
]

empty_at : {X Y : Type 0} (f : X → List Y) (xs : List X) → ((x : X) → Has xs x → f x ≡ []) → flat_map f xs ≡ []
empty_at f [] none = refl
empty_at f (x ∷ xs) none = rw (none x (inl refl)) (empty_at f xs (λ y h. none y (inr h)))

none_at : {X Y : Type 0} (f : X → Option Y) (xs : List X) → ((x : X) → Has xs x → f x ≡ None) → filter_map f xs ≡ []
none_at f [] none = refl
none_at f (x ∷ xs) none = rw (none x (inl refl)) (none_at f xs (λ y h. none y (inr h)))

no_works : (schema : Schema) (keys : Keys) (tree : ℕ) (olds news : List Row) → list_any refers_to_book schema.tables ≡ false → list_any (shares_tree tree) schema.tables ≡ false → works schema keys 0 tree olds news ≡ []
no_works schema keys tree olds news unreferred sole = empty_at (λ child. filter_map (work_for schema keys 0 tree olds news child) child.references) schema.tables
    (λ child h. none_at (work_for schema keys 0 tree olds news child) child.references
    (λ ref k. no_work 0 tree (pairs olds news) child ref (deed_for keys (length news == 0) ref) (parent_key schema.tables ref)
    (λ key is same.
    let found = named_parent schema.tables ref key is in
    let named : found.0.name ≡ codes "book" = is_book_by_tree tree found.0 (not_shared tree schema.tables found.0 sole found.1) (found.2 ∙ same) in
    not_referred schema.tables child ref unreferred h k (subst (λ n. same_name n ref.parent ≡ true) named found.3))))

-- ---- what it does

same_id : value_cmp (Int (pos 1)) (Int (pos 1)) ≡ Equal
same_id = value_cmp-Int (pos 1) (pos 1) ∙ refl

record Sets (old new : Database) (tree : ℕ) : Type 0 where
  schema : new.schema ≡ old.schema
  rows : new.trees tree ≡ kept_version 2 ∷ []
  tables : AllByRecursion (λ t. t.tree ≢ tree → new.trees t.tree ≡ old.trees t.tree) old.schema.tables

does_set : (limit : Option ℕ) (s : State) (db : Database) (at tree : ℕ) (row : Row) (sql : List ℕ) (tally : Tally) (after : Database) → slice_get db.schema.tables at ≡ Some (book_table tree)
    → list_any refers_to_book db.schema.tables ≡ false → list_any (shares_tree tree) db.schema.tables ≡ false → db.trees tree ≡ row ∷ [] → column row 0 ≡ Int (pos 1)
    → Does limit (mode_of s) [] db sql None (Update at (record { lets = []; body = set_query tree })) (Ok (tally, after))
    → Sets db after tree
unfolding set_row
does_set limit s db at tree row sql tally after found unreferred sole one first h =
    let done = went (rw found at h) in
    let now = ap (λ (p : Tally × Database). p.1) (same_value (went (went done.2).2).2) in
    let asked = went done.1 in
    let is : asked.0 ≡ set_row ∷ [] = set_rows db tree row asked.0 one first asked.1 in
    let written = went asked.2 in
    let trees : done.0.trees ≡ written.0 = ap (λ (it : Written). it.trees) (same_value written.2) in
    let put : Edit = edit_of db.trees (book_table tree) (ids_of asked.0) Given 1 asked.0 in
    let step = one_step db.schema (mode_of s).keys db.trees written.0 put (no_works db.schema (mode_of s).keys tree (taken_by db.trees put) put.news unreferred sole) written.1 in
    let edit : edited db.trees put ≡ kept_version 2 ∷ [] = ap (λ all. edited db.trees (edit_of db.trees (book_table tree) (ids_of all) Given 1 all)) is
    ∙ rw (one, first, cast_number (pos 1), cast_number (pos 2), cast_null, same_id) refl in
    let same : after.trees ≡ written.0 = ap (λ (d : Database). d.trees) now ∙ trees in
    record {
      schema = ap (λ (d : Database). d.schema) now;
      rows = ap (λ (t : Trees). t tree) same ∙ (step.rows ∙ edit);
      tables = subst (λ (t : Trees). AllByRecursion (λ u. u.tree ≢ tree → t u.tree ≡ db.trees u.tree) db.schema.tables) (sym same) step.tables;
    }

lone_version : (db : Database) → IsBook db → (row : Row) × (db.trees (book_tree db.schema) ≡ row ∷ []) × (column row 0 ≡ Int (pos 1))
lone_version db book = elim book.version [ inl one ↦ lone (db.trees (book_tree db.schema)) 1 one | inr two ↦ lone (db.trees (book_tree db.schema)) 2 two ]

facts_apart : ◌≡◌ {A = List ℕ} (codes "facts") (codes "book") → ⊥
facts_apart h = cc

owner_apart : ◌≡◌ {A = List ℕ} (codes "owner") (codes "book") → ⊥
owner_apart h = cc

-- a table of another name keeps its rows
stays : (old new : Database) (name : List ℕ) (table : Table) → StandsAlone old.schema → KeepsOthers old.schema old.trees new.trees → IsAt old.schema name table → (table.name ≡ codes "book" → ⊥) → new.trees table.tree ≡ old.trees table.tree
stays old new name table alone others it other =
    let b = book_tree old.schema in
    let listed = is_listed old.schema name table it in
    all_has (λ (t : Table). t.tree ≢ b → new.trees t.tree ≡ old.trees t.tree) old.schema.tables table others listed
    (λ same. other (is_book_by_tree b table (not_shared b old.schema.tables table alone.sole listed) same))

still_named : (old new : Database) (name : List ℕ) → StandsAlone old.schema → new.schema ≡ old.schema → KeepsOthers old.schema old.trees new.trees → HasName name old → HasName name new
still_named old new name alone schema others h =
    let o = owner_tree old.schema in
    let kept : new.trees o ≡ old.trees o = stays old new (codes "owner") (owner_table o) alone others (is_at old.schema (codes "owner") (owner_table o) h.table) owner_apart in
    record { table = subst HasOwnerTable (sym schema) h.table; row = rw schema (ap (map both_columns) kept ∙ h.row) }

-- the text is not refused where it ran
not_run : (sql : List ℕ) (old new : State) (count : ℕ) → understood old.now.schema sql ≡ Err Mismatch → Executes sql [] old new (Ok count) → ⊥
unfolding ExecutesIn
not_run sql old new count refused h = not_both old.now.schema sql h.0 refused h.1.is

pub sets_version : (old new : State) (count : ℕ) → StandsAlone old.now.schema → IsBook old.now → Executes set_version [] old new (Ok count) → SetsVersion old.now new.now
sets_version old new count alone book h =
    let b = book_tree old.now.schema in
    let f = facts_tree old.now.schema in
    let it = is_at old.now.schema (codes "book") (book_table b) book.tables.book in
    let row = lone_version old.now book in
    elim (set_as old.now.schema b it) [
      | inl refused ↦ absurd (not_run set_version old new count refused h)
      | inr known ↦
          let plain : IsPlain (understood old.now.schema set_version) = subst IsPlain (sym known) (refl, refl) in
          let w = runs_as set_version [] old new old.now.schema refl (Update it.at (record { lets = []; body = set_query b })) (ap command_of known) plain count h in
          let sets = does_set old.step_limit old old.now it.at b row.0 (statement_of set_version (understood old.now.schema set_version)) w.tally new.now it.found alone.unreferred alone.sole row.1 row.2 w.changed in
          let tree : book_tree new.now.schema ≡ b = ap book_tree sets.schema in
          let kept : new.now.trees f ≡ old.now.trees f = stays old.now new.now (codes "facts") (facts_table f) alone sets.tables (is_at old.now.schema (codes "facts") (facts_table f) book.tables.facts) facts_apart in
          record {
            schema = sets.schema;
            sound = w.sound;
            book = record { tables = subst HasTables (sym sets.schema) book.tables; version = rw tree (ap (map both_columns) sets.rows) };
            facts = rw sets.schema (ap (map both_columns) kept);
            named = λ name h. still_named old.now new.now name alone sets.schema sets.tables h;
            others = sets.tables;
          }
    ]

-- ---- inside the transaction

pub version_set : {D : Type 0} (store : Ghosts D) (start last : Held D) (r : Result ℕ Error) → IsTrue start.in_transaction → StandsAlone start.schema → (HasCleanDisk (state store start) → IsBook (state store start).now)
    → Survives (state store start) (state store last) (λ _. ⊥)
    → (HasCleanDisk (state store last) → IsTrue start.in_transaction → ExecutesInside 0 set_version [] (state store start) (state store last) r)
    → HasCleanDisk (state store last) → OnOk r (IsTrue last.in_transaction × SetsVersion (state store start).now (state store last).now)
version_set store start last (Ok k) inside alone book survives runs clean =
    let ran = runs clean inside in
    (ran.1.mode, sets_version (state store start) (state store last) k alone (book (omega (arith, survives.clean))) ran.0)
version_set store start last (Err e) inside alone book survives runs clean = tt

pub kept_version_set : {D : Type 0} (store : Ghosts D) (start last : Held D) (r : Result ℕ Error) → IsTrue start.in_transaction
    → (HasCleanDisk (state store last) → IsTrue start.in_transaction → ExecutesInside 0 set_version [] (state store start) (state store last) r)
    → HasCleanDisk (state store last) → KeepsCommit (state store start) (state store last)
kept_version_set store start last r inside runs clean = inside_keeps (state store start) (state store last) 0 false set_version [] r (runs clean inside)
