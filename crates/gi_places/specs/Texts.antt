-- What is told of a book.
use Rattle.std.specs.Prelude.{ℕ, List, [], ◌++◌, codes, Option, None, Some}
use Rattle.gi_pairs.specs.Side.{side_text}
use Rattle.gi_places.specs.declared.books.BookPlace.{BookPlace}
use Rattle.gi_places.specs.declared.books.Files.{Files}
use Rattle.gi_places.specs.declared.books.Files.TheVariants.{Both, Either, EitherOf, OfSide, One}
use Rattle.gi_places.specs.declared.books.Owner.{Owner}

-- the names of its file, or of the files of which it is one
abbrev pub files_text : Files → List ℕ
files_text (One file) = file.now
files_text (EitherOf initiating matching) = initiating.now ++ (codes " or " ++ matching.now)
files_text (OfSide prefix side) = prefix.now ++ (codes "-" ++ (side_text side ++ codes ".db"))
files_text (Either prefix) = prefix.now ++ (codes "-I.db or " ++ (prefix.now ++ codes "-M.db"))
files_text (Both prefix) = prefix.now ++ (codes "-I.db and " ++ (prefix.now ++ codes "-M.db"))

-- whose book is wanted
abbrev pub wanted_text : Option Owner → List ℕ
wanted_text None = []
wanted_text (Some owner) = codes ", and that of " ++ (side_text owner.side ++ (codes " " ++ (owner.point.now ++ codes " is wanted")))

-- its files, what is found, with the values of the fault, and what is wanted
abbrev pub book_text : BookPlace → List ℕ
book_text place = files_text place.files ++ (codes ": " ++ (place.front.now ++ (place.values.now ++ (place.back.now ++ wanted_text place.wanted))))
