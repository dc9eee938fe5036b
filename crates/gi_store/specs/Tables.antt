-- The tables of a book: `book`, whose one row says its version, `facts`, with a row for each batch of facts, and `owner`, whose one row says whose it is.
use Rattle.std.specs.Prelude.{◌≡◌, ◌==◌, ◌&&◌, not, ℕ, Bool, true, false, List, [], ◌∷◌, ◌++◌, codes, Option, Some, slice_get, option_map, option_and_then, unwrap_or}
use Rattle.std.specs.List.{list_any}
use Rattle.std.specs.Str.{bytes_eq}
use Rattle.sqlite_value.specs.declared.keys.Collation.TheVariants.{Binary}
use Rattle.sqlite_value.specs.declared.value.Value.TheVariants.{Null}
use Rattle.sqlite_schema.specs.declared.schema.Kind.{Kind}
use Rattle.sqlite_schema.specs.declared.schema.Kind.TheVariants.{Integer, Text}
use Rattle.sqlite_schema.specs.declared.schema.Column.{Column}
use Rattle.sqlite_schema.specs.declared.schema.Table.{Table}
use Rattle.sqlite_schema.specs.declared.schema.Schema.{Schema}
use Rattle.sqlite_schema.specs.Names.{same_name, table_named}
use Rattle.sqlite_catalog.specs.Change.{is_used}
use Rattle.sqlite.specs.Does.{lacks_sequence}

-- A column of this name and affinity, which as SQLite has it takes a value of any type. Whether it takes NULL is told apart.
abbrev pub named_column : List ℕ → Kind → Bool → Column
named_column name kind not_null = record { name = name; kind = kind; is_strict = false; not_null = not_null; default = Null; collation = Binary }

-- a table whose first column is its whole number, the primary key, with one column more and no other rule
abbrev pub plain_table : List ℕ → ℕ → Column → Column → Table
plain_table name tree key value = record {
  name = name;
  tree = tree;
  columns = key ∷ value ∷ [];
  key = Some 0;
  primary = 0 ∷ [];
  uniques = [];
  orders = [];
  checks = [];
  references = [];
  computed = [];
  stamps = record { places = []; terms = []; formats = [] };
  is_counted = false;
}

-- the table has no UNIQUE, CHECK, foreign key, computed default or count
pub record IsBare (table : Table) : Type 0 where
  pub uniques : table.uniques ≡ []
  pub orders : table.orders ≡ []
  pub checks : table.checks ≡ []
  pub references : table.references ≡ []
  pub computed : table.computed ≡ []
  pub stamps : table.stamps ≡ record { places = []; terms = []; formats = [] }
  pub uncounted : table.is_counted ≡ false

abbrev pub book_table : ℕ → Table
book_table tree = plain_table (codes "book") tree (named_column (codes "id") Integer false) (named_column (codes "version") Integer true)

abbrev pub facts_table : ℕ → Table
facts_table tree = plain_table (codes "facts") tree (named_column (codes "n") Integer false) (named_column (codes "body") Text true)

abbrev pub owner_table : ℕ → Table
owner_table tree = plain_table (codes "owner") tree (named_column (codes "id") Integer false) (named_column (codes "name") Text true)

-- the table that is listed under this name
unfoldable pub table_at : Schema → List ℕ → Option Table
table_at schema name = option_and_then (slice_get schema.tables) (table_named schema name)

-- the tree that has the rows of that table
unfoldable pub tree_of : Schema → List ℕ → ℕ
tree_of schema name = unwrap_or (option_map (λ t. t.tree) (table_at schema name)) 0

abbrev pub book_tree : Schema → ℕ
book_tree schema = tree_of schema (codes "book")

abbrev pub facts_tree : Schema → ℕ
facts_tree schema = tree_of schema (codes "facts")

abbrev pub owner_tree : Schema → ℕ
owner_tree schema = tree_of schema (codes "owner")

-- The two tables of every book are listed, with these columns and no other rule, in any order and beside any others.
pub record HasTables (schema : Schema) : Type 0 where
  pub book : table_at schema (codes "book") ≡ Some (book_table (book_tree schema))
  pub facts : table_at schema (codes "facts") ≡ Some (facts_table (facts_tree schema))

-- the third table, that says whose the book is, is listed so too
abbrev pub HasOwnerTable : Schema → Type 0
HasOwnerTable schema = table_at schema (codes "owner") ≡ Some (owner_table (owner_tree schema))

-- no table, index or view has the third table's name
abbrev pub LacksOwner : Schema → Type 0
LacksOwner schema = is_used schema (codes "owner") ≡ false

-- the table has a foreign key to the one of the version
abbrev pub refers_to_book : Table → Bool
refers_to_book table = list_any (λ ref. same_name (codes "book") ref.parent) table.references

-- the table has this tree, and another name than the one of the version
abbrev pub shares_tree : ℕ → Table → Bool
shares_tree tree table = (table.tree == tree) && not (bytes_eq table.name (codes "book"))

-- No foreign key is to the table of the version, and no other table has its tree: so its row can be changed, and no other row is.
pub record StandsAlone (schema : Schema) : Type 0 where
  pub unreferred : list_any refers_to_book schema.tables ≡ false
  pub sole : list_any (shares_tree (book_tree schema)) schema.tables ≡ false

-- The third table can be made: its name is not used, and a table with AUTOINCREMENT has the table that SQLite counts in.
pub record TakesOwner (schema : Schema) : Type 0 where
  pub owner : LacksOwner schema
  pub counted : lacks_sequence schema ≡ false

-- The three tables can be made: no table, index or view has one of the three names, and a table with AUTOINCREMENT has the table that SQLite counts in.
pub record IsFree (schema : Schema) : Type 0 where
  pub book : is_used schema (codes "book") ≡ false
  pub facts : is_used schema (codes "facts") ≡ false
  pub owner : LacksOwner schema
  pub counted : lacks_sequence schema ≡ false

-- the schema with the three tables after all others, whose rows are in these trees
abbrev pub with_tables : Schema → ℕ → ℕ → ℕ → Schema
with_tables schema book facts owner = record schema { tables = schema.tables ++ book_table book ∷ facts_table facts ∷ owner_table owner ∷ [] }

-- the schema with the first two of them after all others
abbrev pub with_two : Schema → ℕ → ℕ → Schema
with_two schema book facts = record schema { tables = schema.tables ++ book_table book ∷ facts_table facts ∷ [] }

-- the schema with the third of them after all others
abbrev pub with_owner : Schema → ℕ → Schema
with_owner schema owner = record schema { tables = schema.tables ++ owner_table owner ∷ [] }
