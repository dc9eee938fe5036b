-- The kinds of facts and their names.
use Rattle.std.specs.Prelude.{ℕ, List, [], ◌∷◌, codes, find, Option}
use Rattle.std.specs.Str.{bytes_eq}
use Rattle.gi_facts.specs.declared.kind.Kind.{Kind}
use Rattle.gi_facts.specs.declared.kind.Kind.TheVariants.{Contract, Notice, Nomination, Closed, Met}

abbrev pub kind_text : Kind → List ℕ
kind_text Contract = codes "contract"
kind_text Notice = codes "notice"
kind_text Nomination = codes "nomination"
kind_text Closed = codes "closed"
kind_text Met = codes "met"

abbrev pub kinds : List Kind
kinds = Contract ∷ Notice ∷ Nomination ∷ Closed ∷ Met ∷ []

-- the kind of that name
unfoldable pub kind_named : List ℕ → Option Kind
kind_named text = find (λ kind. bytes_eq text (kind_text kind)) kinds
