-- What each statement of the book does to the database.
use Rattle.std.proofs.Common.{◌≡◌, ◌≢◌, ◌⊎◌, inl, inr, ℕ, ◌<◌, ◌==◌, ◌&&◌, ℤ, pos, List, [], ◌∷◌, length, map, slice_get, codes, Bool, true, false, cond, None, Some, Ok, Err, Result, Option, append-nil, append_assoc, arith, refl, sym, ap, subst, subst₂, ◌∙◌, IsTrue, OnOk, OnErr}
use Rattle.sqlite_value.specs.declared.value.Value.{Value}
use Rattle.sqlite_value.specs.declared.value.Value.TheVariants.{Null, Int, Text as Words}
use Rattle.sqlite_value.specs.Order.{Row}
use Rattle.sqlite.specs.Ops.{unary}
use Rattle.sqlite.specs.Table.{Table}
use Rattle.sqlite.specs.Schema.{Schema}
use Rattle.sqlite.specs.Source.TheVariants.{Values}
use Rattle.sqlite.specs.Command.{Command}
use Rattle.sqlite.specs.Command.TheVariants.{Insert, CreateTable}
use Rattle.sqlite.specs.Edit.{edit_of, edited}
use Rattle.sqlite.specs.Cast.{cast}
use Rattle.sqlite.specs.Kind.TheVariants.{Integer, Text as Chars}
use Rattle.sqlite.specs.Rowids.TheVariants.{Chosen}
use Rattle.sqlite.specs.Change.{created, next_tree, KeepsRows}
use Rattle.sqlite.specs.Does.{Tally, Does, lacks_sequence}
use Rattle.sqlite.specs.Rows.{Written}
use Rattle.sqlite.specs.Tree.{Trees, put_row}
use Rattle.sqlite.specs.declared.error.Error.{Error}
use Rattle.sqlite.specs.Listing.{understood}
use Rattle.sqlite.specs.Effect.{Database, IsDatabase}
use Rattle.sqlite.specs.State.{State, mode_of, Writes, Executes, Survives, HasCleanDisk, CommitsBy, MayCommit}
use Rattle.sqlite.proofs.Callers.{IsPlain, command_of, statement_of, runs_as, one_step}
use Rattle.std.specs.List.{AllByRecursion, flat_map, filter_map}
use Rattle.sqlite_schema.specs.declared.schema.Keys.{Keys}
use Rattle.sqlite_schema.specs.declared.schema.Reference.{Reference}
use Rattle.sqlite_schema.specs.Names.{same_name, table_named}
use Rattle.sqlite_schema.specs.Rules.{ParentKey, parent_key}
use Rattle.sqlite_rules.specs.declared.action.Deed.{Deed}
use Rattle.sqlite_rules.specs.Lists.{Has}
use Rattle.sqlite_rules.specs.Action.{Work, works, work_for, work_by, deed_for}
use Rattle.sqlite_rules.specs.Edit.{Edit, IsNoIndex}
use Rattle.sqlite_rules.proofs.ListLemmas.{all_has, all_from, has_left, has_right}
use Rattle.sqlite_catalog.specs.Change.{is_used}
use Rattle.sqlite_catalog.proofs.StepLemmas.{no_table, no_index, no_view, table_below}
use Rattle.gi_store.specs.Tables.{named_column, plain_table, book_table, facts_table, book_tree, facts_tree, HasTables, IsFree, with_two}
use Rattle.gi_store.specs.Rows.{both_columns, kept_row, kept_version}
use Rattle.gi_store.specs.Keeping.{IsIdle, MakesTwo, Keeps, PutsRow, MayPutRow}
use Rattle.gi_store.proofs.Failures.{run_undone, undone_idle, undone_keeps}
use Rattle.gi_store.proofs.Listed.{IsAt, is_at, at_is, tree_is, more, listed_still, listed_next, unlisted_still, counts_still}
use Rattle.gi_store.proofs.Texts.{make_book, make_facts, write_version, write_fact, version_terms, fact_terms, Makes, makes_book, makes_facts, makes_as, defines, puts_version, puts_fact, puts_as}

-- a part that gave a value did not stop on the way
pub went : {B E R : Type 0} {b : B} {Stops : E → Type 0} → ((stop : E) × Stops stop × (Ok b ≡ Err stop)) ⊎ R → R
went (inl stopped) = absurd (let e = stopped.2 in cc)
went (inr on) = on

pub same_value : {B E : Type 0} {a b : B} → ◌≡◌ {A = Result B E} (Ok a) (Ok b) → a ≡ b
same_value e = cc

commits_as : (sql : List ℕ) (params : Row) (old : State) (schema : Schema) → old.now.schema ≡ schema → (command : Command) → command_of (understood schema sql) ≡ command
    → IsPlain (understood schema sql) → (db : Trees) → CommitsBy sql params old db → MayCommit old None command (statement_of sql (understood schema sql)) params db
unfolding CommitsBy
commits_as sql params old schema has command is plain db h =
    let known = sym h.1.is ∙ ap (λ s. understood s sql) has in
    let bare = subst IsPlain (sym known) plain in
    subst₂ (λ k t. MayCommit old None k t params db) (ap command_of known ∙ is) (ap (statement_of sql) known) (rw (bare.0, bare.1, append-nil params) at h.2)

-- ---- making a table

pub record Made (old new : State) (table : Table) : Type 0 where
  pub schema : new.now.schema ≡ more old.now.schema (record table { tree = next_tree old.now.schema } ∷ [])
  pub empty : new.now.trees (next_tree old.now.schema) ≡ []
  pub others : KeepsRows old.now.schema.tables old.now.trees new.now.trees

one_more : (schema : Schema) (table : Table) → table.uniques ≡ [] → created schema table ≡ more schema (record table { tree = next_tree schema } ∷ [])
one_more schema table none = rw (none, append-nil)

pub made : (text name : List ℕ) (table : Table) (k : Makes text name table) (old new : State) (count : ℕ) → table.uniques ≡ [] → table.is_counted ≡ false → is_used old.now.schema name ≡ false
    → lacks_sequence old.now.schema ≡ false → Executes text [] old new (Ok count) → Made old new table
made text name table k old new count none uncounted free lacks h =
    let known = makes_as old.now.schema text name table k free in
    let plain : IsPlain (understood old.now.schema text) = subst IsPlain (sym known) (refl, refl) in
    let same : statement_of text (understood old.now.schema text) ≡ text = ap (statement_of text) known ∙ k.all in
    let w = subst (λ t. Writes old new None CreateTable t [] count) same (runs_as text [] old new old.now.schema refl CreateTable (ap command_of known) plain count h) in
    let all = went w.changed in
    let first = went all.1 in
    let done = first.1 in
    let both : Ok done.table ≡ Ok table = sym done.defined ∙ defines text name table k in
    let twin : done.table ≡ table = same_value both in
    let after : first.0.schema ≡ created old.now.schema table = done.is ∙ ap (created old.now.schema) twin in
    let none_left : lacks_sequence first.0.schema ≡ false = ap lacks_sequence after ∙ counts_still old.now.schema (record table { tree = next_tree old.now.schema }) uncounted lacks in
    let now : new.now ≡ first.0 = ap (λ (p : Tally × Database). p.1) (same_value all.2) ∙ same_value (rw none_left at first.2) in
    record {
      schema = ap (λ (d : Database). d.schema) now ∙ (after ∙ one_more old.now.schema table none);
      empty = ap (λ (d : Database). d.trees (next_tree old.now.schema)) now ∙ done.empty;
      others = subst (λ (d : Database). KeepsRows old.now.schema.tables old.now.trees d.trees) (sym now) done.others;
    }

-- ---- adding a row

-- what INSERT of one row makes of a database
pub record Adds (old new : Database) (table : Table) (row : Row) : Type 0 where
  pub schema : new.schema ≡ old.schema
  pub rows : new.trees table.tree ≡ put_row row (old.trees table.tree)
  pub tables : AllByRecursion (λ t. t.tree ≢ table.tree → new.trees t.tree ≡ old.trees t.tree) old.schema.tables
  pub others : (t : ℕ) → t ≢ table.tree → IsNoIndex old.schema t → new.trees t ≡ old.trees t

either : (b : Bool) (x : Value) → cond b x x ≡ x
either true x = refl
either false x = refl

pub cast_number : (m : ℤ) → cast Integer (Int m) ≡ Int m
unfolding unary
cast_number m = either _ (Int m)

pub cast_null : cast Integer Null ≡ Null
unfolding unary
cast_null = either _ Null

-- A new row takes nothing out, so it sets off nothing.
no_work : (depth tree : ℕ) (child : Table) (ref : Reference) (o : Option Deed) (k : Option ParentKey) → work_by depth tree [] child ref o k ≡ None
no_work depth tree child ref None k = refl
no_work depth tree child ref (Some deed) None = refl
no_work depth tree child ref (Some deed) (Some key) = by (key.0 == tree)
  where
    by : (b : Bool) → cond {A = Option Work} (b && false) (Some (record { depth = depth; child = child; ref = ref; places = key.1; order = key.2; deed = deed; moves = [] })) None ≡ None
    by true = refl
    by false = refl

pub none_kept : {X Y : Type 0} (f : X → Option Y) (xs : List X) → ((x : X) → f x ≡ None) → filter_map f xs ≡ []
none_kept f [] none = refl
none_kept f (x ∷ xs) none = rw (none x) (none_kept f xs none)

pub all_empty : {X Y : Type 0} (f : X → List Y) (xs : List X) → ((x : X) → f x ≡ []) → flat_map f xs ≡ []
all_empty f [] none = refl
all_empty f (x ∷ xs) none = rw (none x) (all_empty f xs none)

no_works : (schema : Schema) (keys : Keys) (tree : ℕ) (news : List Row) → works schema keys 0 tree [] news ≡ []
no_works schema keys tree news = all_empty (λ child. filter_map (work_for schema keys 0 tree [] news child) child.references) schema.tables
    (λ child. none_kept (work_for schema keys 0 tree [] news child) child.references (λ ref. no_work 0 tree child ref (deed_for keys (length news == 0) ref) (parent_key schema.tables ref)))

-- a table of rows that have a number and a text
abbrev pub texts_table : List ℕ → List ℕ → List ℕ → ℕ → Table
texts_table name key value tree = plain_table name tree (named_column key Integer false) (named_column value Chars true)

pub does_add_text : (limit : Option ℕ) (s : State) (db : Database) (name key value : List ℕ) (at tree n : ℕ) (text : List ℕ) (sql : List ℕ) (tally : Tally) (after : Database) → slice_get db.schema.tables at ≡ Some (texts_table name key value tree)
    → Does limit (mode_of s) (Int (pos n) ∷ Words text ∷ []) db sql None (Insert at (Values fact_terms 3)) (Ok (tally, after))
    → Adds db after (texts_table name key value tree) (kept_row n text)
does_add_text limit s db name key value at tree n text sql tally after found h =
    let done = went (rw found at h) in
    let now = ap (λ (p : Tally × Database). p.1) (same_value (went (went done.2).2).2) in
    let given = went done.1 in
    let written = went (went given.2).2 in
    let counted = went written.2 in
    let trees : done.0.trees ≡ written.0 = ap (λ (it : Written). it.trees) (same_value counted.2) ∙ same_value counted.1 in
    let put : Edit = edit_of db.trees (texts_table name key value tree) [] Chosen 0 given.0 in
    let step = one_step db.schema (mode_of s).keys db.trees written.0 put (no_works db.schema (mode_of s).keys tree put.news) written.1 in
    let edit : edited db.trees put ≡ put_row (kept_row n text) (db.trees tree) = ap (λ all. edited db.trees (edit_of db.trees (texts_table name key value tree) [] Chosen 0 all)) given.1.1 ∙ rw (cast_number, cast_null) in
    let is : after.trees ≡ written.0 = ap (λ (d : Database). d.trees) now ∙ trees in
    record {
      schema = ap (λ (d : Database). d.schema) now;
      rows = ap (λ (t : Trees). t tree) is ∙ (step.rows ∙ edit);
      tables = subst (λ (t : Trees). AllByRecursion (λ u. u.tree ≢ tree → t u.tree ≡ db.trees u.tree) db.schema.tables) (sym is) step.tables;
      others = λ t other unindexed. ap (λ (f : Trees). f t) is ∙ step.others t other unindexed;
    }

does_add_fact : (limit : Option ℕ) (s : State) (db : Database) (at tree n : ℕ) (text : List ℕ) (sql : List ℕ) (tally : Tally) (after : Database) → slice_get db.schema.tables at ≡ Some (facts_table tree)
    → Does limit (mode_of s) (Int (pos n) ∷ Words text ∷ []) db sql None (Insert at (Values fact_terms 3)) (Ok (tally, after))
    → Adds db after (facts_table tree) (kept_row n text)
does_add_fact limit s db = does_add_text limit s db (codes "facts") (codes "n") (codes "body")

does_add_version : (limit : Option ℕ) (s : State) (db : Database) (at tree : ℕ) (sql : List ℕ) (tally : Tally) (after : Database) → slice_get db.schema.tables at ≡ Some (book_table tree)
    → Does limit (mode_of s) [] db sql None (Insert at (Values version_terms 3)) (Ok (tally, after))
    → Adds db after (book_table tree) (kept_version 2)
does_add_version limit s db at tree sql tally after found h =
    let done = went (rw found at h) in
    let now = ap (λ (p : Tally × Database). p.1) (same_value (went (went done.2).2).2) in
    let given = went done.1 in
    let written = went (went given.2).2 in
    let counted = went written.2 in
    let trees : done.0.trees ≡ written.0 = ap (λ (it : Written). it.trees) (same_value counted.2) ∙ same_value counted.1 in
    let put : Edit = edit_of db.trees (book_table tree) [] Chosen 0 given.0 in
    let step = one_step db.schema (mode_of s).keys db.trees written.0 put (no_works db.schema (mode_of s).keys tree put.news) written.1 in
    let edit : edited db.trees put ≡ put_row (kept_version 2) (db.trees tree) = ap (λ all. edited db.trees (edit_of db.trees (book_table tree) [] Chosen 0 all)) given.1.1 ∙ rw (cast_number (pos 1), cast_number (pos 2), cast_null) in
    let is : after.trees ≡ written.0 = ap (λ (d : Database). d.trees) now ∙ trees in
    record {
      schema = ap (λ (d : Database). d.schema) now;
      rows = ap (λ (t : Trees). t tree) is ∙ (step.rows ∙ edit);
      tables = subst (λ (t : Trees). AllByRecursion (λ u. u.tree ≢ tree → t u.tree ≡ db.trees u.tree) db.schema.tables) (sym is) step.tables;
      others = λ t other unindexed. ap (λ (f : Trees). f t) is ∙ step.others t other unindexed;
    }

writes_version : (old new : State) (tree count : ℕ) → IsAt old.now.schema (codes "book") (book_table tree) → Executes write_version [] old new (Ok count)
    → Adds old.now new.now (book_table tree) (kept_version 2) × IsDatabase new.now
writes_version old new tree count it h =
    let known = puts_as old.now.schema write_version (codes "book") (book_table tree) version_terms (puts_version tree) it in
    let plain : IsPlain (understood old.now.schema write_version) = subst IsPlain (sym known) (refl, refl) in
    let w = runs_as write_version [] old new old.now.schema refl (Insert it.at (Values version_terms 3)) (ap command_of known) plain count h in
    (does_add_version old.step_limit old old.now it.at tree (statement_of write_version (understood old.now.schema write_version)) w.tally new.now it.found w.changed, w.sound)

-- what INSERT of a fact made of the connection, where no transaction is under way
record WritesFact (old new : State) (tree n : ℕ) (text : List ℕ) : Type 0 where
  adds : Adds old.now new.now (facts_table tree) (kept_row n text)
  was_open : IsTrue old.is_open
  is_open : IsTrue new.is_open
  committed : new.committed ≡ new.now
  autocommit : new.in_transaction ≡ false

abbrev pub row_given : ℕ → List ℕ → Row
row_given n text = Int (pos n) ∷ Words text ∷ []

fact_known : (schema : Schema) (tree : ℕ) (it : IsAt schema (codes "facts") (facts_table tree)) → (command_of (understood schema write_fact) ≡ Insert it.at (Values fact_terms 3)) × IsPlain (understood schema write_fact)
fact_known schema tree it =
    let known = puts_as schema write_fact (codes "facts") (facts_table tree) fact_terms (puts_fact tree) it in
    (ap command_of known, subst IsPlain (sym known) (refl, refl))

writes_fact : (old new : State) (tree n : ℕ) (text : List ℕ) (count : ℕ) → IsAt old.now.schema (codes "facts") (facts_table tree) → old.in_transaction ≡ false → Executes write_fact (row_given n text) old new (Ok count) → WritesFact old new tree n text
writes_fact old new tree n words count it free h =
    let known = fact_known old.now.schema tree it in
    let w = runs_as write_fact (row_given n words) old new old.now.schema refl (Insert it.at (Values fact_terms 3)) known.0 known.1 count h in
    record {
      adds = does_add_fact old.step_limit old old.now it.at tree n words (statement_of write_fact (understood old.now.schema write_fact)) w.tally new.now it.found w.changed;
      was_open = w.shown.was_open;
      is_open = w.shown.is_open;
      committed = rw free at w.shown.committed_is;
      autocommit = w.shown.mode ∙ free;
    }

commits_fact : (old : State) (tree n : ℕ) (text : List ℕ) (db : Trees) → IsAt old.now.schema (codes "facts") (facts_table tree) → CommitsBy write_fact (row_given n text) old db
    → (db tree ≡ put_row (kept_row n text) (old.now.trees tree)) × ((t : ℕ) → t ≢ tree → IsNoIndex old.now.schema t → db t ≡ old.now.trees t)
commits_fact old tree n words db it h =
    let known = fact_known old.now.schema tree it in
    written (commits_as write_fact (row_given n words) old old.now.schema refl (Insert it.at (Values fact_terms 3)) known.0 known.1 db h)
  where
    written : MayCommit old None (Insert it.at (Values fact_terms 3)) (statement_of write_fact (understood old.now.schema write_fact)) (row_given n words) db
        → (db tree ≡ put_row (kept_row n words) (old.now.trees tree)) × ((t : ℕ) → t ≢ tree → IsNoIndex old.now.schema t → db t ≡ old.now.trees t)
    written (inl (inl commit, is)) = absurd cc
    written (inl (inr release, is)) = absurd (let e = release.2 in cc)
    written (inr m) =
        let added = does_add_fact old.step_limit old old.now it.at tree n words (statement_of write_fact (understood old.now.schema write_fact)) m.1 m.2 it.found m.3 in
        (ap (λ (f : Trees). f tree) m.5 ∙ added.rows, λ t other unindexed. ap (λ (f : Trees). f t) m.5 ∙ added.others t other unindexed)

-- ---- INSERT of a fact, at each of its ends

module _ (old new : State) (n : ℕ) (text : List ℕ) (idle : IsIdle old) (has : HasTables old.now.schema) where
  place : IsAt old.now.schema (codes "facts") (facts_table (facts_tree old.now.schema))
  place = is_at old.now.schema (codes "facts") (facts_table (facts_tree old.now.schema)) has.facts

  pub fact_idle : (r : Result ℕ Error) → Executes write_fact (Int (pos n) ∷ Words text ∷ []) old new r → IsIdle new
  fact_idle (Ok count) h =
      let w = writes_fact old new (facts_tree old.now.schema) n text count place idle.autocommit h in
      record { autocommit = w.autocommit; settled = λ _. sym w.committed }
  fact_idle (Err e) h = undone_idle old new idle (run_undone old new write_fact _ e h)

  pub fact_written : (r : Result ℕ Error) → Executes write_fact (Int (pos n) ∷ Words text ∷ []) old new r
      → OnOk r (IsTrue old.is_open × IsTrue new.is_open × (new.now.schema ≡ old.now.schema) × PutsRow old.now.schema n text old.now.trees new.now.trees)
  fact_written (Ok count) h =
      let w = writes_fact old new (facts_tree old.now.schema) n text count place idle.autocommit h in
      (w.was_open, w.is_open, w.adds.schema, record { facts = w.adds.rows; others = w.adds.others })
  fact_written (Err e) h = tt

  pub fact_kept : (r : Result ℕ Error) → Executes write_fact (Int (pos n) ∷ Words text ∷ []) old new r → OnErr r (Keeps old new)
  fact_kept (Ok count) h = tt
  fact_kept (Err e) h = undone_keeps old new idle (run_undone old new write_fact _ e h)

  pub fact_crash : Survives old new (CommitsBy write_fact (Int (pos n) ∷ Words text ∷ []) old) → HasCleanDisk new → MayPutRow n text old new
  fact_crash survives clean db leaves = elim (survives.crash clean db leaves) [
    | inl was ↦ inl was
    | inr commits ↦ let w = commits_fact old (facts_tree old.now.schema) n text db place commits in inr (record { facts = w.0; others = w.1 })
  ]

-- ---- the making of a book

apart : same_name (codes "book") (codes "facts") ≡ false
unfolding same_name
apart = refl

book_itself : same_name (codes "book") (codes "book") ≡ true
unfolding same_name
book_itself = refl

facts_itself : same_name (codes "facts") (codes "facts") ≡ true
unfolding same_name
facts_itself = refl

pub still_free : (schema : Schema) (table : Table) (name : List ℕ) → same_name table.name name ≡ false → is_used schema name ≡ false → is_used (more schema (table ∷ [])) name ≡ false
still_free schema table name other free =
    rw (unlisted_still schema name table (no_table schema name free) other, no_index schema name free, no_view schema name free)

pub tables_of : (schema : Schema) (book facts : ℕ) → IsAt schema (codes "book") (book_table book) → IsAt schema (codes "facts") (facts_table facts)
    → HasTables schema × (book_tree schema ≡ book) × (facts_tree schema ≡ facts)
tables_of schema book facts one two =
    let first = at_is schema (codes "book") (book_table book) one in
    let second = at_is schema (codes "facts") (facts_table facts) two in
    let b = tree_is schema (codes "book") (book_table book) first in
    let f = tree_is schema (codes "facts") (facts_table facts) second in
    (record { book = first ∙ ap (λ t. Some (book_table t)) (sym b); facts = second ∙ ap (λ t. Some (facts_table t)) (sym f) }, b, f)

pub makes_two : (start first second third : State) (m n k : ℕ) → IsFree start.now.schema → Executes make_book [] start first (Ok m) → Executes make_facts [] first second (Ok n) → Executes write_version [] second third (Ok k)
    → MakesTwo start.now third.now
makes_two start first second third m n k free one two three =
    let s0 = start.now.schema in
    let book = made make_book (codes "book") (book_table 0) makes_book start first m refl refl free.book free.counted one in
    let b = next_tree s0 in
    let e1 : first.now.schema ≡ more s0 (book_table b ∷ []) = book.schema in
    let facts = made make_facts (codes "facts") (facts_table 0) makes_facts first second n refl refl
    (ap (λ s. is_used s (codes "facts")) e1 ∙ still_free s0 (book_table b) (codes "facts") apart free.facts) (ap lacks_sequence e1 ∙ counts_still s0 (book_table b) refl free.counted) two in
    let f = next_tree first.now.schema in
    let e2 : second.now.schema ≡ more first.now.schema (facts_table f ∷ []) = facts.schema in
    let book_first : IsAt first.now.schema (codes "book") (book_table b) =
    subst (λ s. IsAt s (codes "book") (book_table b)) (sym e1) (listed_next s0 (codes "book") (book_table b) (no_table s0 (codes "book") free.book) book_itself) in
    let book_second : IsAt second.now.schema (codes "book") (book_table b) =
    subst (λ s. IsAt s (codes "book") (book_table b)) (sym e2) (listed_still first.now.schema (facts_table f ∷ []) (codes "book") (book_table b) book_first) in
    let unlisted : table_named first.now.schema (codes "facts") ≡ None =
    subst (λ s. table_named s (codes "facts") ≡ None) (sym e1) (unlisted_still s0 (codes "facts") (book_table b) (no_table s0 (codes "facts") free.facts) apart) in
    let facts_second : IsAt second.now.schema (codes "facts") (facts_table f) =
    subst (λ s. IsAt s (codes "facts") (facts_table f)) (sym e2) (listed_next first.now.schema (codes "facts") (facts_table f) unlisted facts_itself) in
    let wrote = writes_version second third b k book_second three in
    let row = wrote.0 in
    let e3 : third.now.schema ≡ second.now.schema = row.schema in
    let trees = tables_of third.now.schema b f (subst (λ s. IsAt s (codes "book") (book_table b)) (sym e3) book_second) (subst (λ s. IsAt s (codes "facts") (facts_table f)) (sym e3) facts_second) in
    let has_first : Has first.now.schema.tables (book_table b) = subst (λ (s : Schema). Has s.tables (book_table b)) (sym e1) (has_right s0.tables (book_table b ∷ []) (book_table b) (inl refl)) in
    let has_facts : Has second.now.schema.tables (facts_table f) =
    subst (λ (s : Schema). Has s.tables (facts_table f)) (sym e2) (has_right first.now.schema.tables (facts_table f ∷ []) (facts_table f) (inl refl)) in
    let low : b < f = table_below first.now.schema (book_table b) has_first in
    let differ : f ≢ b = λ same. absurd (omega (arith, same, low)) in
    let none : second.now.trees b ≡ [] = all_has (λ (t : Table). second.now.trees t.tree ≡ first.now.trees t.tree) first.now.schema.tables (book_table b) facts.others has_first ∙ book.empty in
    let empty : third.now.trees f ≡ [] = all_has (λ (t : Table). t.tree ≢ b → third.now.trees t.tree ≡ second.now.trees t.tree) second.now.schema.tables (facts_table f) row.tables has_facts differ ∙ facts.empty in
    let whole : second.now.schema ≡ with_two s0 b f = e2 ∙ (ap (λ (s : Schema). more s (facts_table f ∷ [])) e1 ∙ rw (append_assoc s0.tables (book_table b ∷ []) (facts_table f ∷ []))) in
    record {
      listed = e3 ∙ (whole ∙ rw (trees.1, trees.2));
      sound = wrote.1;
      book = record { tables = trees.0; version = rw trees.1 (ap (map both_columns) (row.rows ∙ ap (put_row (kept_version 2)) none)) };
      empty = rw trees.2 (ap (map both_columns) empty);
      others = all_from (λ (t : Table). third.now.trees t.tree ≡ start.now.trees t.tree) s0.tables (λ t h.
          let in_first : Has first.now.schema.tables t = subst (λ (s : Schema). Has s.tables t) (sym e1) (has_left s0.tables (book_table b ∷ []) t h) in
          let in_second : Has second.now.schema.tables t = subst (λ (s : Schema). Has s.tables t) (sym e2) (has_left first.now.schema.tables (facts_table f ∷ []) t in_first) in
          let below : t.tree < b = table_below s0 t h in
          let other : t.tree ≢ b = λ same. absurd (omega (arith, same, below)) in
          all_has (λ (u : Table). u.tree ≢ b → third.now.trees u.tree ≡ second.now.trees u.tree) second.now.schema.tables t row.tables in_second other
          ∙ (all_has (λ (u : Table). second.now.trees u.tree ≡ first.now.trees u.tree) first.now.schema.tables t facts.others in_first
          ∙ all_has (λ (u : Table). first.now.trees u.tree ≡ start.now.trees u.tree) s0.tables t book.others h));
    }
