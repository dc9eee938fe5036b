-- What is made of a database by its third table, which says whose the book is.
use Rattle.std.proofs.Common.{◌≡◌, ◌≢◌, ℕ, ◌<◌, List, [], ◌∷◌, map, codes, false, true, Some, Ok, refl, sym, ap, subst, ◌∙◌, arith, append_assoc}
use Rattle.sqlite_schema.specs.Names.{same_name}
use Rattle.sqlite_rules.specs.Lists.{Has}
use Rattle.sqlite_rules.proofs.ListLemmas.{all_has, all_from, has_left}
use Rattle.sqlite_catalog.proofs.StepLemmas.{no_table, table_below}
use Rattle.sqlite.specs.Table.{Table}
use Rattle.sqlite.specs.Schema.{Schema}
use Rattle.sqlite.specs.Source.TheVariants.{Values}
use Rattle.sqlite.specs.Command.TheVariants.{Insert}
use Rattle.sqlite.specs.Change.{next_tree}
use Rattle.sqlite.specs.Tree.{put_row}
use Rattle.sqlite.specs.Listing.{understood}
use Rattle.sqlite.specs.Effect.{Database, IsDatabase}
use Rattle.sqlite.specs.State.{State, Executes}
use Rattle.sqlite.proofs.Callers.{IsPlain, command_of, statement_of, runs_as}
use Rattle.gi_store.specs.Tables.{IsFree, TakesOwner, book_table, facts_table, owner_table, book_tree, facts_tree, owner_tree, with_two, with_owner, with_tables}
use Rattle.gi_store.specs.Rows.{both_columns, facts_in, kept_row}
use Rattle.gi_store.specs.Keeping.{AddsName, IsOlderBook, IsVersion, MakesNamed, MakesThird, MakesTwo, SetsVersion}
use Rattle.gi_store.proofs.Listed.{IsAt, is_at, at_is, is_listed, tree_is, more, listed_still, listed_next, counts_still}
use Rattle.gi_store.proofs.Meanings.{Adds, does_add_text, made, row_given, still_free, tables_of}
use Rattle.gi_store.proofs.Texts.{make_owner, write_name, fact_terms, makes_owner, puts_name, puts_as}

owner_itself : same_name (codes "owner") (codes "owner") ≡ true
unfolding same_name
owner_itself = refl

owner_is_not_book : same_name (codes "book") (codes "owner") ≡ false
unfolding same_name
owner_is_not_book = refl

owner_is_not_facts : same_name (codes "facts") (codes "owner") ≡ false
unfolding same_name
owner_is_not_facts = refl

-- ---- its two statements

writes_name : (old new : State) (tree count : ℕ) (name : List ℕ) → IsAt old.now.schema (codes "owner") (owner_table tree) → Executes write_name (row_given 1 name) old new (Ok count)
    → Adds old.now new.now (owner_table tree) (kept_row 1 name) × IsDatabase new.now
writes_name old new tree count name it h =
    let known = puts_as old.now.schema write_name (codes "owner") (owner_table tree) fact_terms (puts_name tree) it in
    let plain : IsPlain (understood old.now.schema write_name) = subst IsPlain (sym known) (refl, refl) in
    let w = runs_as write_name (row_given 1 name) old new old.now.schema refl (Insert it.at (Values fact_terms 3)) (ap command_of known) plain count h in
    (does_add_text old.step_limit old old.now (codes "owner") (codes "id") (codes "name") it.at tree 1 name (statement_of write_name (understood old.now.schema write_name)) w.tally new.now it.found w.changed, w.sound)

pub makes_third : (start first second : State) (m k : ℕ) (name : List ℕ) → TakesOwner start.now.schema → Executes make_owner [] start first (Ok m) → Executes write_name (row_given 1 name) first second (Ok k)
    → MakesThird name start.now second.now
makes_third start first second m k name takes one two =
    let s0 = start.now.schema in
    let o = next_tree s0 in
    let table = made make_owner (codes "owner") (owner_table 0) makes_owner start first m refl refl takes.owner takes.counted one in
    let e1 : first.now.schema ≡ more s0 (owner_table o ∷ []) = table.schema in
    let at_first : IsAt first.now.schema (codes "owner") (owner_table o) =
    subst (λ s. IsAt s (codes "owner") (owner_table o)) (sym e1) (listed_next s0 (codes "owner") (owner_table o) (no_table s0 (codes "owner") takes.owner) owner_itself) in
    let wrote = writes_name first second o k name at_first two in
    let row = wrote.0 in
    let e2 : second.now.schema ≡ first.now.schema = row.schema in
    let at_last : IsAt second.now.schema (codes "owner") (owner_table o) = subst (λ s. IsAt s (codes "owner") (owner_table o)) (sym e2) at_first in
    let is = at_is second.now.schema (codes "owner") (owner_table o) at_last in
    let tree : owner_tree second.now.schema ≡ o = tree_is second.now.schema (codes "owner") (owner_table o) is in
    record {
      listed = e2 ∙ (e1 ∙ rw tree);
      sound = wrote.1;
      named = record { table = is ∙ ap (λ t. Some (owner_table t)) (sym tree); row = rw tree (ap (map both_columns) (row.rows ∙ ap (put_row (kept_row 1 name)) table.empty)) };
      others = all_from (λ (t : Table). second.now.trees t.tree ≡ start.now.trees t.tree) s0.tables (λ t h.
          let in_first : Has first.now.schema.tables t = subst (λ (s : Schema). Has s.tables t) (sym e1) (has_left s0.tables (owner_table o ∷ []) t h) in
          let below : t.tree < o = table_below s0 t h in
          let other : t.tree ≢ o = λ same. absurd (omega (arith, same, below)) in
          all_has (λ (u : Table). u.tree ≢ o → second.now.trees u.tree ≡ first.now.trees u.tree) first.now.schema.tables t row.tables in_first other
          ∙ all_has (λ (u : Table). first.now.trees u.tree ≡ start.now.trees u.tree) s0.tables t table.others h);
    }

-- ---- beside the two tables that every book has

-- the book stays one of its version with its facts, and its tables keep their trees
record IsStill (n : ℕ) (old new : Database) : Type 0 where
  book : IsVersion n new
  facts : facts_in new ≡ facts_in old
  book_same : book_tree new.schema ≡ book_tree old.schema
  facts_same : facts_tree new.schema ≡ facts_tree old.schema

is_still : (n : ℕ) (old new : Database) (name : List ℕ) → IsVersion n old → MakesThird name old new → IsStill n old new
is_still n old new name book third =
    let b = book_tree old.schema in
    let f = facts_tree old.schema in
    let more_tables = owner_table (owner_tree new.schema) ∷ [] in
    let one = is_at old.schema (codes "book") (book_table b) book.tables.book in
    let two = is_at old.schema (codes "facts") (facts_table f) book.tables.facts in
    let after = tables_of new.schema b f (subst (λ s. IsAt s (codes "book") (book_table b)) (sym third.listed) (listed_still old.schema more_tables (codes "book") (book_table b) one))
    (subst (λ s. IsAt s (codes "facts") (facts_table f)) (sym third.listed) (listed_still old.schema more_tables (codes "facts") (facts_table f) two)) in
    let same = λ (t : Table). new.trees t.tree ≡ old.trees t.tree in
    let versions : new.trees b ≡ old.trees b = all_has same old.schema.tables (book_table b) third.others (is_listed old.schema (codes "book") (book_table b) one) in
    let facts : new.trees f ≡ old.trees f = all_has same old.schema.tables (facts_table f) third.others (is_listed old.schema (codes "facts") (facts_table f) two) in
    record {
      book = record { tables = after.0; version = rw after.1 (ap (map both_columns) versions ∙ book.version) };
      facts = rw after.2 (ap (map both_columns) facts);
      book_same = after.1;
      facts_same = after.2;
    }

pub adds_name : (old mid new : Database) (name : List ℕ) → IsOlderBook old → SetsVersion old mid → MakesThird name mid new → AddsName name old new
adds_name old mid new name older sets third =
    let still = is_still 2 mid new name sets.book third in
    record {
      older = older;
      listed = third.listed ∙ ap (λ (s : Schema). with_owner s (owner_tree new.schema)) sets.schema;
      sound = third.sound;
      book = still.book;
      named = third.named;
      facts = still.facts ∙ sets.facts;
      others = all_from (λ (t : Table). t.tree ≢ book_tree old.schema → new.trees t.tree ≡ old.trees t.tree) old.schema.tables (λ t h other.
          let in_mid : Has mid.schema.tables t = subst (λ (s : Schema). Has s.tables t) (sym sets.schema) h in
          all_has (λ (u : Table). new.trees u.tree ≡ mid.trees u.tree) mid.schema.tables t third.others in_mid
          ∙ all_has (λ (u : Table). u.tree ≢ book_tree old.schema → mid.trees u.tree ≡ old.trees u.tree) old.schema.tables t sets.others h other);
    }

pub takes_still : (old mid : Database) → IsFree old.schema → MakesTwo old mid → TakesOwner mid.schema
takes_still old mid free two =
    let b = book_tree mid.schema in
    let f = facts_tree mid.schema in
    let first = more old.schema (book_table b ∷ []) in
    let joined : more first (facts_table f ∷ []) ≡ with_two old.schema b f = rw (append_assoc old.schema.tables (book_table b ∷ []) (facts_table f ∷ [])) in
    subst TakesOwner (joined ∙ sym two.listed) (record {
      owner = still_free first (facts_table f) (codes "owner") owner_is_not_facts (still_free old.schema (book_table b) (codes "owner") owner_is_not_book free.owner);
      counted = counts_still first (facts_table f) refl (counts_still old.schema (book_table b) refl free.counted);
    })

pub makes_named : (old mid new : Database) (name : List ℕ) → IsFree old.schema → MakesTwo old mid → MakesThird name mid new → MakesNamed name old new
makes_named old mid new name free two third =
    let b = book_tree mid.schema in
    let f = facts_tree mid.schema in
    let o = owner_tree new.schema in
    let still = is_still 2 mid new name two.book third in
    let joined : more (with_two old.schema b f) (owner_table o ∷ []) ≡ with_tables old.schema b f o = rw (append_assoc old.schema.tables (book_table b ∷ facts_table f ∷ []) (owner_table o ∷ [])) in
    let whole : new.schema ≡ with_tables old.schema b f o = third.listed ∙ (ap (λ (s : Schema). more s (owner_table o ∷ [])) two.listed ∙ joined) in
    record {
      free = free;
      listed = whole ∙ rw (still.book_same, still.facts_same);
      sound = third.sound;
      book = still.book;
      named = third.named;
      empty = still.facts ∙ two.empty;
      others = all_from (λ (t : Table). new.trees t.tree ≡ old.trees t.tree) old.schema.tables (λ t h.
          let in_mid : Has mid.schema.tables t = subst (λ (s : Schema). Has s.tables t) (sym two.listed) (has_left old.schema.tables (book_table b ∷ facts_table f ∷ []) t h) in
          all_has (λ (u : Table). new.trees u.tree ≡ mid.trees u.tree) mid.schema.tables t third.others in_mid
          ∙ all_has (λ (u : Table). mid.trees u.tree ≡ old.trees u.tree) old.schema.tables t two.others h);
    }
