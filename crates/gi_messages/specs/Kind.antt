-- The kinds of messages and their names.
use Rattle.std.specs.Prelude.{ℕ, List, [], ◌∷◌, codes, find, Option}
use Rattle.std.specs.Str.{bytes_eq}
use Rattle.gi_messages.specs.declared.kind.Kind.{Kind}
use Rattle.gi_messages.specs.declared.kind.Kind.TheVariants.{Nomint, Acknow, Nomres, Delord, Delres}

abbrev pub kind_text : Kind → List ℕ
kind_text Nomint = codes "NOMINT"
kind_text Acknow = codes "ACKNOW"
kind_text Nomres = codes "NOMRES"
kind_text Delord = codes "DELORD"
kind_text Delres = codes "DELRES"

abbrev pub kinds : List Kind
kinds = Nomint ∷ Acknow ∷ Nomres ∷ Delord ∷ Delres ∷ []

-- the kind of that name
unfoldable pub kind_named : List ℕ → Option Kind
kind_named text = find (λ kind. bytes_eq text (kind_text kind)) kinds
