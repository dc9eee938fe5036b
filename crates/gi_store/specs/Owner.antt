-- Whose a book is: a side's, at a point.
use Rattle.std.specs.Prelude.{◌≡◌, ℕ, List, ◌++◌, codes}
use Rattle.gi_pairs.specs.Code.{IsCode}
use Rattle.gi_pairs.specs.Side.{side_text}
use Rattle.gi_store.specs.declared.owner.Owner.{Owner}

-- the side and the point, with one space between them
abbrev pub owner_text : Owner → List ℕ
owner_text owner = side_text owner.side ++ codes " " ++ owner.point

-- the text is this owner's
pub record IsOwnerText (text : List ℕ) (owner : Owner) : Type 0 where
  pub code : IsCode owner.point
  pub is : text ≡ owner_text owner
