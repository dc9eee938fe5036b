-- The numbers of the versions that a book may have.
use Rattle.std.specs.Prelude.{ℕ}
use Rattle.gi_store.specs.declared.version.BookVersion.{BookVersion}
use Rattle.gi_store.specs.declared.version.BookVersion.TheVariants.{One, Two}

abbrev pub version_number : BookVersion → ℕ
version_number One = 1
version_number Two = 2
