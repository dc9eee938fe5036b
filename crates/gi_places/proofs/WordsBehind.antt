-- Words with and without `--verbose`.
use Rattle.std.proofs.Common.{◌≡◌, ◌++◌, ℕ, List, [], ◌∷◌, map, take, drop, true, false, refl}
use Rattle.gi_places.specs.Verbosity.{asks_verbose, command_words}

-- where it is asked for, the word behind the program's name is taken away
pub taken : {X : Type 0} (f : X → List ℕ) (xs : List X) → asks_verbose (map f xs) ≡ true → map f (take 1 xs ++ drop 2 xs) ≡ command_words (map f xs)
taken f [] is = cc
taken f (program ∷ []) is = cc
taken f (program ∷ option ∷ words) is = rw is refl

-- else the words stay
pub kept : {X : Type 0} (f : X → List ℕ) (xs : List X) → asks_verbose (map f xs) ≡ false → map f xs ≡ command_words (map f xs)
kept f [] un = refl
kept f (program ∷ []) un = refl
kept f (program ∷ option ∷ words) un = rw un refl
