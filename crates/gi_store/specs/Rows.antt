-- What the three tables hold.
use Rattle.std.specs.Prelude.{◌≡◌, ℕ, pos, List, [], ◌∷◌, map, Option, None, Some}
use Rattle.sqlite_value.specs.declared.value.Value.TheVariants.{Null, Int, Text as Words}
use Rattle.sqlite_value.specs.Order.{Row, column}
use Rattle.sqlite_trees.specs.Tree.{Trees}
use Rattle.sqlite_schema.specs.declared.schema.Schema.{Schema}
use Rattle.sqlite.specs.Effect.{Database}
use Rattle.gi_pairs.specs.Code.{IsCode}
use Rattle.gi_store.specs.declared.owner.Owner.{Owner}
use Rattle.gi_store.specs.Owner.{owner_text}
use Rattle.gi_store.specs.Tables.{HasOwnerTable, LacksOwner, book_tree, facts_tree, owner_tree}

-- SQLite keeps a row of each table as its number, NULL in the place of the column that is the number, and the other column.
abbrev pub both_columns : Row → Row
both_columns row = column row 0 ∷ column row 2 ∷ []

-- each row of the table `facts`: its number and its body
abbrev pub fact_rows : Schema → Trees → List Row
fact_rows schema db = map both_columns (db (facts_tree schema))

abbrev pub facts_in : Database → List Row
facts_in db = fact_rows db.schema db.trees

-- each row of the table `book`: its id and its version
abbrev pub book_rows : Schema → Trees → List Row
book_rows schema db = map both_columns (db (book_tree schema))

abbrev pub versions_in : Database → List Row
versions_in db = book_rows db.schema db.trees

-- the row with this number and this text
abbrev pub row_of : ℕ → List ℕ → Row
row_of n text = Int (pos n) ∷ Words text ∷ []

-- the same as SQLite keeps it
abbrev pub kept_row : ℕ → List ℕ → Row
kept_row n text = Int (pos n) ∷ Null ∷ Words text ∷ []

-- the one row of a book of this version
abbrev pub version_row : ℕ → Row
version_row version = Int (pos 1) ∷ Int (pos version) ∷ []

-- the same as SQLite keeps it
abbrev pub kept_version : ℕ → Row
kept_version version = Int (pos 1) ∷ Null ∷ Int (pos version) ∷ []

abbrev pub HasVersion : ℕ → Database → Type 0
HasVersion version db = versions_in db ≡ version_row version ∷ []

-- each row of the table `owner`: its id and its name
abbrev pub names_in : Database → List Row
names_in db = map both_columns (db.trees (owner_tree db.schema))

-- the third table is there, and its one row has this name
pub record HasName (name : List ℕ) (db : Database) : Type 0 where
  pub table : HasOwnerTable db.schema
  pub row : names_in db ≡ row_of 1 name ∷ []

-- the book says that it is this owner's
abbrev pub IsOwned : Owner → Database → Type 0
IsOwned owner = HasName (owner_text owner)

-- what the book says of its owner; an older one has no such table
abbrev pub SaysOwner : Option Owner → Database → Type 0
SaysOwner None db = LacksOwner db.schema
SaysOwner (Some owner) db = IsOwned owner db

-- it says no owner that there is
abbrev pub SaysNone : Database → Type 0
SaysNone db = (owner : Owner) → IsCode owner.point → ¬ IsOwned owner db
