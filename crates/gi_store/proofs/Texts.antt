-- What the SQL texts of the book are, as they are understood, whatever other tables are listed.
use Rattle.std.proofs.Common.{◌≡◌, ◌⊎◌, inl, inr, lit≤, ℕ, ◌≤◌, Result, ◌+◌, pos, negsuc, List, [], ◌∷◌, codes, slice_range, slice_get, length, ◌==◌, Ok, Err, Option, None, Some, true, false, refl, ap, ◌∙◌}
use Rattle.std.proofs.lemmas.Bool.{cases_Bool}
use Rattle.sqlite_value.specs.declared.value.Value.TheVariants.{Null, Int}
use Rattle.sqlite_value.specs.declared.keys.Collation.{Collation}
use Rattle.sqlite_value.specs.declared.keys.Collation.TheVariants.{Binary}
use Rattle.sqlite_ast.specs.declared.Rows.{Rows}
use Rattle.sqlite_ast.specs.declared.Expr.{Expr}
use Rattle.sqlite_ast.specs.declared.Select as ast
use Rattle.sqlite_ast.specs.declared.Core as core
use Rattle.sqlite_ast.specs.declared.Source as source
use Rattle.sqlite_ast.specs.declared.Origin.TheVariants as origin
use Rattle.sqlite_ast.specs.declared.CreateTable as made
use Rattle.sqlite_ast.specs.declared.Statement.TheVariants as written
use Rattle.sqlite_ast.specs.declared.Conflict.TheVariants as conflict
use Rattle.sqlite_syntax.specs.declared.statement.Parsed.{Parsed}
use Rattle.sqlite_schema.specs.Names.{table_named, index_named, view_named}
use Rattle.sqlite_schema.specs.declared.program.Program.{Program}
use Rattle.sqlite_draft.specs.declared.query.Draft.{Draft}
use Rattle.sqlite_draft.specs.declared.join.Step.TheVariants.{Inner}
use Rattle.sqlite_draft.specs.Join.{chain}
use Rattle.sqlite_draft.specs.Query.{query_of}
use Rattle.sqlite_typing.specs.Types.{accepts_program}
use Rattle.sqlite_resolve.specs.declared.compiled.Compiled.{Compiled}
use Rattle.sqlite_resolve.specs.declared.error.CompileError.{CompileError}
use Rattle.sqlite_resolve.specs.declared.error.CompileError.TheVariants.{Mismatch}
use Rattle.sqlite_resolve.specs.Compile.{first, small, planned, meaning, command, returning, shows, timed, insert_or_abort, insert, new_rows, compiled, with_command, read, create_table, creates, update, is_attached, is_reserved, table_defined_by, table_in}
use Rattle.sqlite_resolve.specs.Write.{updated}
use Rattle.sqlite_resolve.specs.Define as define
use Rattle.sqlite_resolve.specs.Program.{query, query_to, level, whole, with, single, alone, sources, source as sourced, viewing, program}
use Rattle.sqlite_resolve.specs.Select as select
use Rattle.sqlite_catalog.specs.Change.{is_used}
use Rattle.sqlite_catalog.proofs.StepLemmas.{no_table, no_index, no_view}
use Rattle.sqlite.specs.Term.{Term, lit, col}
use Rattle.sqlite.specs.Query.{Query, inner, end}
use Rattle.sqlite.specs.Table.{Table}
use Rattle.sqlite.specs.Schema.{Schema}
use Rattle.sqlite.specs.Source.{Source}
use Rattle.sqlite.specs.Source.TheVariants.{Values}
use Rattle.sqlite.specs.Command.TheVariants.{Insert, Select, Update, CreateTable}
use Rattle.sqlite_tied.specs.Compute.{everything}
use Rattle.sqlite.specs.Listing.{understood, reads_listing}
use Rattle.sqlite.proofs.Callers.{IsPlain, command_of}
use Rattle.gi_store.specs.Tables.{book_table, facts_table, owner_table}
use Rattle.gi_store.proofs.Listed.{IsAt}

abbrev pub make_book : List ℕ
make_book = codes "CREATE TABLE book (id INTEGER PRIMARY KEY, version INTEGER NOT NULL)"

abbrev pub make_facts : List ℕ
make_facts = codes "CREATE TABLE facts (n INTEGER PRIMARY KEY, body TEXT NOT NULL)"

abbrev pub make_owner : List ℕ
make_owner = codes "CREATE TABLE owner (id INTEGER PRIMARY KEY, name TEXT NOT NULL)"

abbrev pub write_version : List ℕ
write_version = codes "INSERT INTO book (id, version) VALUES (1, 2)"

abbrev pub set_version : List ℕ
set_version = codes "UPDATE book SET version = 2"

abbrev pub write_name : List ℕ
write_name = codes "INSERT INTO owner (id, name) VALUES (?1, ?2)"

abbrev pub read_version : List ℕ
read_version = codes "SELECT * FROM book"

abbrev pub read_name : List ℕ
read_name = codes "SELECT * FROM owner"

abbrev pub read_facts : List ℕ
read_facts = codes "SELECT * FROM facts ORDER BY 1"

abbrev pub write_fact : List ℕ
write_fact = codes "INSERT INTO facts (n, body) VALUES (?1, ?2)"

-- ---- CREATE TABLE

-- the text makes this table
pub record Makes (text name : List ℕ) (table : Table) : Type 0 where
  pub parsed : Parsed
  pub def : made.CreateTable
  pub reads : first text ≡ Ok parsed
  pub is : parsed.statement ≡ written.CreateTable def
  pub untimed : parsed.formats ≡ []
  pub always : def.if_missing ≡ false
  pub bare : def.resolves ≡ false
  pub named : def.name ≡ name
  pub usual : is_reserved name ≡ false
  pub defined : define.table [] def ≡ Ok table
  pub literal : (length table.computed == length table.stamps.places) ≡ true
  pub all : slice_range text parsed.start parsed.end ≡ text

pub makes_book : Makes make_book (codes "book") (book_table 0)
unfolding everything
makes_book = record { parsed = _; def = _; reads = refl; is = refl; untimed = refl; always = refl; bare = refl; named = refl; usual = refl; defined = refl; literal = refl; all = refl }

pub makes_facts : Makes make_facts (codes "facts") (facts_table 0)
unfolding everything
makes_facts = record { parsed = _; def = _; reads = refl; is = refl; untimed = refl; always = refl; bare = refl; named = refl; usual = refl; defined = refl; literal = refl; all = refl }

pub makes_owner : Makes make_owner (codes "owner") (owner_table 0)
unfolding everything
makes_owner = record { parsed = _; def = _; reads = refl; is = refl; untimed = refl; always = refl; bare = refl; named = refl; usual = refl; defined = refl; literal = refl; all = refl }

creates_by : (schema : Schema) (text : List ℕ) (p : Parsed) (def : made.CreateTable) (table : Table)
    → first text ≡ Ok p → p.statement ≡ written.CreateTable def → p.formats ≡ [] → def.if_missing ≡ false → def.resolves ≡ false → is_reserved def.name ≡ false
    → table_named schema def.name ≡ None → index_named schema def.name ≡ None → view_named schema def.name ≡ None
    → define.table [] def ≡ Ok table → (length table.computed == length table.stamps.places) ≡ true
    → understood schema text ≡ Ok (with_command p ([], (CreateTable, None)))
unfolding understood compiled planned meaning command returning timed create_table creates is_attached define.table define.unchecked
creates_by schema text p def table reads is untimed always bare usual no_t no_i no_v defined literal = rw (reads, is, untimed, always, usual, no_t, no_i, no_v, defined, literal, bare)

pub makes_as : (schema : Schema) (text name : List ℕ) (table : Table) (k : Makes text name table) → is_used schema name ≡ false → understood schema text ≡ Ok (with_command k.parsed ([], (CreateTable, None)))
makes_as schema text name table k free =
    creates_by schema text k.parsed k.def table k.reads k.is k.untimed k.always k.bare (ap is_reserved k.named ∙ k.usual)
    (ap (table_named schema) k.named ∙ no_table schema name free) (ap (index_named schema) k.named ∙ no_index schema name free) (ap (view_named schema) k.named ∙ no_view schema name free) k.defined k.literal

pub defines : (text name : List ℕ) (table : Table) → Makes text name table → table_defined_by text ≡ Ok table
unfolding table_defined_by table_in
defines text name table k = rw (k.reads, k.is, k.untimed) k.defined

-- ---- INSERT

abbrev pub version_terms : List Term
version_terms = lit (Int (pos 1)) ∷ lit Null ∷ lit (Int (pos 2)) ∷ []

abbrev pub fact_terms : List Term
fact_terms = col 0 0 ∷ lit Null ∷ col 0 1 ∷ []

-- the text puts a row of these terms into this table, under any schema
pub record Puts (text name : List ℕ) (table : Table) (terms : List Term) : Type 0 where
  pub parsed : Parsed
  pub columns : List (List ℕ)
  pub given : Rows
  pub reads : first text ≡ Ok parsed
  pub is : parsed.statement ≡ written.Insert conflict.Abort name columns given [] []
  pub untimed : parsed.formats ≡ []
  pub unstamped : table.stamps.formats ≡ []
  pub rows : (schema : Schema) → new_rows schema table (small parsed.names + small table.stamps.formats) columns given ≡ Ok (Values terms 3)

pub puts_version : (tree : ℕ) → Puts write_version (codes "book") (book_table tree) version_terms
unfolding everything
puts_version tree = record { parsed = _; columns = _; given = _; reads = refl; is = refl; untimed = refl; unstamped = refl; rows = λ schema. refl }

pub puts_fact : (tree : ℕ) → Puts write_fact (codes "facts") (facts_table tree) fact_terms
unfolding everything
puts_fact tree = record { parsed = _; columns = _; given = _; reads = refl; is = refl; untimed = refl; unstamped = refl; rows = λ schema. refl }

pub puts_name : (tree : ℕ) → Puts write_name (codes "owner") (owner_table tree) fact_terms
unfolding everything
puts_name tree = record { parsed = _; columns = _; given = _; reads = refl; is = refl; untimed = refl; unstamped = refl; rows = λ schema. refl }

inserts_by : (schema : Schema) (text : List ℕ) (p : Parsed) (name : List ℕ) (columns : List (List ℕ)) (rows : Rows) (at : ℕ) (table : Table) (s : Source)
    → first text ≡ Ok p → p.statement ≡ written.Insert conflict.Abort name columns rows [] [] → p.formats ≡ []
    → table_named schema name ≡ Some at → slice_get schema.tables at ≡ Some table → table.stamps.formats ≡ [] → new_rows schema table (small p.names + small table.stamps.formats) columns rows ≡ Ok s
    → understood schema text ≡ Ok (with_command p ([], (Insert at s, None)))
unfolding understood compiled planned meaning command returning shows timed insert_or_abort insert
inserts_by schema text p name columns rows at table s reads is untimed named found unstamped new = rw (reads, is, untimed, named, found, new, unstamped)

pub puts_as : (schema : Schema) (text name : List ℕ) (table : Table) (terms : List Term) (k : Puts text name table terms) (it : IsAt schema name table)
    → understood schema text ≡ Ok (with_command k.parsed ([], (Insert it.at (Values terms 3), None)))
puts_as schema text name table terms k it = inserts_by schema text k.parsed name k.columns k.given it.at table (Values terms 3) k.reads k.is k.untimed it.named it.found k.unstamped (k.rows schema)

-- ---- SELECT

abbrev pub page : Term × Term
page = (lit (Int (negsuc 0)), lit (Int (pos 0)))

abbrev pub version_query : ℕ → Query
version_query tree = record {
  from = inner tree end;
  filter = [];
  group = None;
  project = col 1 0 ∷ col 1 2 ∷ [];
  distinct = false;
  collations = [];
  order = [];
  limit = lit (Int (negsuc 0));
  offset = lit (Int (pos 0));
}

abbrev pub facts_query : ℕ → Query
facts_query tree = record (version_query tree) { order = (col 1 0, record { collation = Binary; descending = false }) ∷ [] }

abbrev version_draft : ℕ → Draft
version_draft tree = record { from = chain (Inner tree ∷ []); filter = []; group = None; project = col 1 0 ∷ col 1 2 ∷ []; distinct = false; collations = []; order = []; limit = lit (Int (negsuc 0)); offset = lit (Int (pos 0)) }

abbrev facts_draft : ℕ → Draft
facts_draft tree = record (version_draft tree) { order = (col 1 0, record { collation = Binary; descending = false }) ∷ [] }

-- the text reads the one table of this name
record Asks (text name : List ℕ) : Type 0 where
  parsed : Parsed
  select : ast.Select
  from : source.Source
  reads : first text ≡ Ok parsed
  is : parsed.statement ≡ written.Select select
  untimed : parsed.formats ≡ []
  no_with : (ast.out-Select select).with ≡ []
  no_others : (ast.out-Select select).others ≡ []
  no_limit : (ast.out-Select select).limit ≡ None
  no_offset : (ast.out-Select select).offset ≡ None
  one : (core.out-Core (ast.out-Select select).first).from ≡ from ∷ []
  table : (source.out-Source from).origin ≡ origin.Table name
  whole : length text ≤ parsed.tail
  given : length parsed.names ≡ 0

unfoldable asks_version : Asks read_version (codes "book")
unfolding everything
asks_version = record { parsed = _; select = _; from = _; reads = refl; is = refl; untimed = refl; no_with = refl; no_others = refl; no_limit = refl; no_offset = refl; one = refl; table = refl; whole = lit≤ tt; given = refl }

unfoldable asks_facts : Asks read_facts (codes "facts")
unfolding everything
asks_facts = record { parsed = _; select = _; from = _; reads = refl; is = refl; untimed = refl; no_with = refl; no_others = refl; no_limit = refl; no_offset = refl; one = refl; table = refl; whole = lit≤ tt; given = refl }

unfoldable asks_name : Asks read_name (codes "owner")
unfolding everything
asks_name = record { parsed = _; select = _; from = _; reads = refl; is = refl; untimed = refl; no_with = refl; no_others = refl; no_limit = refl; no_offset = refl; one = refl; table = refl; whole = lit≤ tt; given = refl }

version_named : (schema : Schema) (at tree : ℕ) → table_named schema (codes "book") ≡ Some at → slice_get schema.tables at ≡ Some (book_table tree)
    → select.named schema (ast.out-Select asks_version.select).first (ast.out-Select asks_version.select).order page ≡ Ok (version_draft tree, codes "id" ∷ codes "version" ∷ [], None ∷ Some Binary ∷ [])
unfolding everything asks_version
version_named schema at tree named found = rw (named, found)

name_named : (schema : Schema) (at tree : ℕ) → table_named schema (codes "owner") ≡ Some at → slice_get schema.tables at ≡ Some (owner_table tree)
    → select.named schema (ast.out-Select asks_name.select).first (ast.out-Select asks_name.select).order page ≡ Ok (version_draft tree, codes "id" ∷ codes "name" ∷ [], None ∷ Some Binary ∷ [])
unfolding everything asks_name
name_named schema at tree named found = rw (named, found)

facts_named : (schema : Schema) (at tree : ℕ) → table_named schema (codes "facts") ≡ Some at → slice_get schema.tables at ≡ Some (facts_table tree)
    → select.named schema (ast.out-Select asks_facts.select).first (ast.out-Select asks_facts.select).order page ≡ Ok (facts_draft tree, codes "n" ∷ codes "body" ∷ [], None ∷ Some Binary ∷ [])
unfolding everything asks_facts
facts_named schema at tree named found = rw (named, found)

queried_by : (schema : Schema) (s : ast.Select) (from : source.Source) (name : List ℕ) (d : Draft) (names : List (List ℕ)) (how : List (Option Collation))
    → (ast.out-Select s).with ≡ [] → (ast.out-Select s).others ≡ [] → (ast.out-Select s).limit ≡ None → (ast.out-Select s).offset ≡ None
    → (core.out-Core (ast.out-Select s).first).from ≡ from ∷ [] → (source.out-Source from).origin ≡ origin.Table name
    → select.named schema (ast.out-Select s).first (ast.out-Select s).order page ≡ Ok (d, names, how)
    → query schema s ≡ Ok ((d, names, how), [])
unfolding query query_to level whole with single alone sources sourced viewing select.paging select.constant_or
queried_by schema s from name d names how a b c e f g is = rw (a, b, c, e, f, g, is)

reads_by : (schema : Schema) (text : List ℕ) (p : Parsed) (s : ast.Select) (d : Draft) (names : List (List ℕ)) (how : List (Option Collation)) (q : Program)
    → first text ≡ Ok p → p.statement ≡ written.Select s → p.formats ≡ [] → query schema s ≡ Ok ((d, names, how), []) → program schema [] d ≡ Ok q
    → compiled schema text ≡ Ok (with_command p ([], (Select q names, None)))
unfolding compiled planned meaning command returning timed read
reads_by schema text p s d names how q a b c e f = rw (a, b, c, e, f)

refused_by : (schema : Schema) (text : List ℕ) (p : Parsed) (s : ast.Select) (d : Draft) (names : List (List ℕ)) (how : List (Option Collation))
    → first text ≡ Ok p → p.statement ≡ written.Select s → p.formats ≡ [] → query schema s ≡ Ok ((d, names, how), []) → program schema [] d ≡ Err Mismatch
    → compiled schema text ≡ Err Mismatch
unfolding compiled planned meaning command returning timed read
refused_by schema text p s d names how a b c e f = rw (a, b, c, e, f)

-- the text is one statement, which takes no parameter
abbrev pub IsWhole : List ℕ → Result Compiled CompileError → Type 0
IsWhole text (Ok c) = (length text ≤ c.tail) × (length c.names ≡ 0)
IsWhole text (Err e) = ⊥

-- The text asks this, and else it is refused, as where another table has the same tree.
pub record IsQuery (schema : Schema) (text : List ℕ) (q : Query) (names : List (List ℕ)) : Type 0 where
  pub command : command_of (understood schema text) ≡ Select (record { lets = []; body = q }) names
  pub unlisted : reads_listing schema text ≡ false
  pub plain : IsPlain (understood schema text)
  pub whole : IsWhole text (understood schema text)
  pub typed : accepts_program schema [] q [] ≡ true

abbrev pub MayAsk : Schema → List ℕ → Query → List (List ℕ) → Type 0
MayAsk schema text q names = ((understood schema text ≡ Err Mismatch) × (accepts_program schema [] q [] ≡ false)) ⊎ IsQuery schema text q names

is_query : (schema : Schema) (text : List ℕ) (q : Query) (names : List (List ℕ)) (p : Parsed) → compiled schema text ≡ Ok (with_command p ([], (Select (record { lets = []; body = q }) names, None)))
    → (length text ≤ p.tail) × (length p.names ≡ 0) → accepts_program schema [] q [] ≡ true → IsQuery schema text q names
unfolding understood
is_query schema text q names p is whole typed = record { command = rw is; unlisted = rw is; plain = rw is (refl, refl); whole = rw is whole; typed = typed }

is_refused : (schema : Schema) (text : List ℕ) → compiled schema text ≡ Err Mismatch → understood schema text ≡ Err Mismatch
unfolding understood
is_refused schema text is = rw is

asks : (schema : Schema) (text name : List ℕ) (k : Asks text name) (d : Draft) (names : List (List ℕ)) (how : List (Option Collation))
    → select.named schema (ast.out-Select k.select).first (ast.out-Select k.select).order page ≡ Ok (d, names, how) → MayAsk schema text (query_of d) names
unfolding program
asks schema text name k d names how is =
    let queried = queried_by schema k.select k.from name d names how k.no_with k.no_others k.no_limit k.no_offset k.one k.table is in
    elim (cases_Bool (accepts_program schema [] (query_of d) [])) [
      | inl typed ↦ inr (is_query schema text (query_of d) names k.parsed (reads_by schema text k.parsed k.select d names how _ k.reads k.is k.untimed queried (rw typed)) (k.whole, k.given) typed)
      | inr mistyped ↦ inl (is_refused schema text (refused_by schema text k.parsed k.select d names how k.reads k.is k.untimed queried (rw mistyped)), mistyped)
    ]

pub version_asked : (schema : Schema) (tree : ℕ) → IsAt schema (codes "book") (book_table tree) → MayAsk schema read_version (version_query tree) (codes "id" ∷ codes "version" ∷ [])
version_asked schema tree it = asks schema read_version (codes "book") asks_version (version_draft tree) _ _ (version_named schema it.at tree it.named it.found)

pub name_asked : (schema : Schema) (tree : ℕ) → IsAt schema (codes "owner") (owner_table tree) → MayAsk schema read_name (version_query tree) (codes "id" ∷ codes "name" ∷ [])
name_asked schema tree it = asks schema read_name (codes "owner") asks_name (version_draft tree) _ _ (name_named schema it.at tree it.named it.found)

pub facts_asked : (schema : Schema) (tree : ℕ) → IsAt schema (codes "facts") (facts_table tree) → MayAsk schema read_facts (facts_query tree) (codes "n" ∷ codes "body" ∷ [])
facts_asked schema tree it = asks schema read_facts (codes "facts") asks_facts (facts_draft tree) _ _ (facts_named schema it.at tree it.named it.found)

-- ---- UPDATE

-- the rowid of each row, and the row with another version
abbrev pub set_query : ℕ → Query
set_query tree = record (version_query tree) { project = col 1 0 ∷ col 1 0 ∷ lit Null ∷ lit (Int (pos 2)) ∷ [] }

abbrev set_draft : ℕ → Draft
set_draft tree = record (version_draft tree) { project = col 1 0 ∷ col 1 0 ∷ lit Null ∷ lit (Int (pos 2)) ∷ [] }

-- the text changes each row of the one table of this name
pub record Sets (text name : List ℕ) : Type 0 where
  pub parsed : Parsed
  pub given : List (List ℕ × Expr)
  pub reads : first text ≡ Ok parsed
  pub is : parsed.statement ≡ written.Update name given None []
  pub untimed : parsed.formats ≡ []

unfoldable pub sets_version : Sets set_version (codes "book")
unfolding everything
sets_version = record { parsed = _; given = _; reads = refl; is = refl; untimed = refl }

version_set : (schema : Schema) (at tree : ℕ) → updated schema at (book_table tree) sets_version.given None ≡ Ok (set_draft tree)
unfolding everything sets_version
version_set schema at tree = refl

sets_by : (schema : Schema) (text : List ℕ) (p : Parsed) (name : List ℕ) (given : List (List ℕ × Expr)) (at : ℕ) (table : Table) (d : Draft) (q : Program)
    → first text ≡ Ok p → p.statement ≡ written.Update name given None [] → p.formats ≡ []
    → table_named schema name ≡ Some at → slice_get schema.tables at ≡ Some table → updated schema at table given None ≡ Ok d → program schema [] d ≡ Ok q
    → understood schema text ≡ Ok (with_command p ([], (Update at q, None)))
unfolding understood compiled planned meaning command returning shows timed update
sets_by schema text p name given at table d q reads is untimed named found set so = rw (reads, is, untimed, named, found, set, so)

set_refused_by : (schema : Schema) (text : List ℕ) (p : Parsed) (name : List ℕ) (given : List (List ℕ × Expr)) (at : ℕ) (table : Table) (d : Draft)
    → first text ≡ Ok p → p.statement ≡ written.Update name given None [] → p.formats ≡ []
    → table_named schema name ≡ Some at → slice_get schema.tables at ≡ Some table → updated schema at table given None ≡ Ok d → program schema [] d ≡ Err Mismatch
    → understood schema text ≡ Err Mismatch
unfolding understood compiled planned meaning command returning shows timed update
set_refused_by schema text p name given at table d reads is untimed named found set so = rw (reads, is, untimed, named, found, set, so)

-- The text is refused where another table has the tree.
pub set_as : (schema : Schema) (tree : ℕ) (it : IsAt schema (codes "book") (book_table tree))
    → (understood schema set_version ≡ Err Mismatch) ⊎ (understood schema set_version ≡ Ok (with_command sets_version.parsed ([], (Update it.at (record { lets = []; body = set_query tree }), None))))
unfolding program
set_as schema tree it = elim (cases_Bool (accepts_program schema [] (query_of (set_draft tree)) [])) [
  | inl typed ↦ inr (sets_by schema set_version sets_version.parsed (codes "book") sets_version.given it.at (book_table tree) (set_draft tree) _ sets_version.reads sets_version.is sets_version.untimed it.named it.found (version_set schema it.at tree) (rw typed))
  | inr mistyped ↦ inl (set_refused_by schema set_version sets_version.parsed (codes "book") sets_version.given it.at (book_table tree) (set_draft tree) sets_version.reads sets_version.is sets_version.untimed it.named it.found (version_set schema it.at tree) (rw mistyped))
]
